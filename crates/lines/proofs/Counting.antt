-- Breaks of which none is CR LF are all LF, and those of which each is are all CR LF. Assumes nothing.
use Prim.Native.Nat.{ℕ, suc, ◌+◌, ◌≤◌}
use native.Mathlib.Nat.{add-zero}
use native.Mathlib.Omega.{arith}
use mathlib.Core.List.{List, [], ◌∷◌}
use mathlib.Core.Logic.{◌≢◌}
use mathlib.Core.Path.{◌≡◌, refl, sym, ap, ◌∙◌}
use lib.ListN.{length}
use Rattle.std.specs.Prelude.{Ok}
use Rattle.sieve.specs.declared.Break.{Break}
use Rattle.sieve.specs.declared.Break.TheVariants.{Lf, CrLf}
use Rattle.sieve.specs.Paper.{Answer}
use Rattle.sieve.specs.Bytes.{Bytes}
use Rattle.sieve.specs.Lines.{cut, breaks_of, kind}
use Rattle.lines.specs.Parted.{breaks_in, returns_in}
use Rattle.lines.proofs.Parting.{parted_from, no_more, alike, from_first}

-- so many lines, parted by breaks of one kind
abbrev of_kind : Break → ℕ → Answer
of_kind k n = Ok (n, k)

few_returns : (ks : List Break) → returns_in ks ≤ length ks
unfolding returns_in
few_returns [] = omega arith
few_returns (Lf ∷ ks) = omega (arith, few_returns ks)
few_returns (CrLf ∷ ks) = omega (arith, few_returns ks)

-- so many breaks of one kind, behind those of n - 1 lines
one_more : (k : Break) (n : ℕ) (ks : List Break) → parted_from k (n + 1) ks ≡ of_kind k (n + 1 + length ks) → parted_from k n (k ∷ ks) ≡ of_kind k (n + suc (length ks))
one_more k n ks e = alike k n ks ∙ e ∙ ap (of_kind k) (omega arith)

feeds_from : (n : ℕ) (ks : List Break) → returns_in ks ≡ 0 → parted_from Lf n ks ≡ of_kind Lf (n + length ks)
unfolding returns_in
feeds_from n [] e = no_more Lf n ∙ ap (of_kind Lf) (sym (add-zero n))
feeds_from n (Lf ∷ ks) e = one_more Lf n ks (feeds_from (n + 1) ks e)
feeds_from n (CrLf ∷ ks) e = absurd (omega arith)

returns_from : (n : ℕ) (ks : List Break) → returns_in ks ≡ length ks → parted_from CrLf n ks ≡ of_kind CrLf (n + length ks)
unfolding returns_in
returns_from n [] e = no_more CrLf n ∙ ap (of_kind CrLf) (sym (add-zero n))
returns_from n (Lf ∷ ks) e = absurd (omega (arith, few_returns ks))
returns_from n (CrLf ∷ ks) e = one_more CrLf n ks (returns_from (n + 1) ks (omega arith))

module _ (s : Bytes) where
  abbrev breaks : List Break
  breaks = breaks_of (cut s)

  pub all_feeds : returns_in breaks ≡ 0 → of_kind Lf (length breaks + 1) ≡ breaks_in s
  unfolding returns_in
  all_feeds e = sym (from_first s ∙ along breaks e ∙ ap (of_kind Lf) (omega arith))
    where
      along : (ks : List Break) → returns_in ks ≡ 0 → parted_from (kind ks) 1 ks ≡ of_kind Lf (1 + length ks)
      along [] e = feeds_from 1 [] e
      along (Lf ∷ ks) e = feeds_from 1 (Lf ∷ ks) e
      along (CrLf ∷ ks) e = absurd (omega arith)

  pub all_returns : returns_in breaks ≢ 0 → returns_in breaks ≡ length breaks → of_kind CrLf (length breaks + 1) ≡ breaks_in s
  unfolding returns_in
  all_returns h e = sym (from_first s ∙ along breaks h e ∙ ap (of_kind CrLf) (omega arith))
    where
      along : (ks : List Break) → returns_in ks ≢ 0 → returns_in ks ≡ length ks → parted_from (kind ks) 1 ks ≡ of_kind CrLf (1 + length ks)
      along [] h e = absurd (h refl)
      along (Lf ∷ ks) h e = absurd (omega (arith, few_returns ks))
      along (CrLf ∷ ks) h e = returns_from 1 (CrLf ∷ ks) e
