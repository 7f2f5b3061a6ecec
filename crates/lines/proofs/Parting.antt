-- The breaks of some bytes held against one kind, line by line. Assumes nothing.
use Prim.Native.Nat.{ℕ, suc, ◌+◌, ◌-◌}
use native.Mathlib.Nat.{add-zero}
use native.Mathlib.Numerals.{add-one}
use native.Mathlib.Omega.{arith}
use mathlib.Core.Bool.{not}
use mathlib.Core.List.{List, [], ◌∷◌}
use mathlib.Core.Logic.{◌≢◌}
use mathlib.Core.Path.{◌≡◌, refl, ap}
use lib.ListN.{length, drop}
use Rattle.std.specs.Prelude.{Ok, Err}
use Rattle.sieve.specs.declared.Break.{Break}
use Rattle.sieve.specs.declared.Break.TheVariants.{Lf, CrLf}
use Rattle.sieve.specs.declared.Fault.TheVariants.{MixedBreaks}
use Rattle.sieve.specs.Paper.{Answer}
use Rattle.sieve.specs.Bytes.{Bytes, first_such}
use Rattle.sieve.specs.Lines.{break_bytes, cut, breaks_of, kind, same_break}
use Rattle.sieve.proofs.Likeness.{like_itself, unlike_found}
use Rattle.lines.specs.declared.LineAt.{LineAt}
use Rattle.lines.specs.Results.{IsLineAt}
use Rattle.lines.proofs.LinesAt.{some_width, Onward, nothing, a_break, onward}
use Rattle.lines.specs.Parted.{of_width, parted, breaks_in}

-- breaks that come after those of n - 1 lines, all of kind k
pub parted_from : Break → ℕ → List Break → Answer
parted_from k n ks = parted k (n + length ks) (first_such (λ j. not (same_break k j)) n ks)

pub no_more : (k : Break) (n : ℕ) → parted_from k n [] ≡ Ok (n, k)
unfolding first_such parted_from
no_more k n = rw add-zero refl

pub alike : (k : Break) (n : ℕ) (ks : List Break) → parted_from k n (k ∷ ks) ≡ parted_from k (n + 1) ks
unfolding first_such parted_from
alike k n ks = rw (like_itself k, first_such, add-one) (ap (λ (m : ℕ). parted k m (first_such (λ j. not (same_break k j)) (suc n) ks)) (omega arith))

pub unlike : (k : Break) (n : ℕ) (j : Break) (ks : List Break) → j ≢ k → parted_from k n (j ∷ ks) ≡ Err (MixedBreaks n)
unfolding first_such parted_from
unlike k n j ks h = rw (unlike_found k j h, first_such)

-- all breaks, held against the first
pub from_first : (s : Bytes) → let ks = breaks_of (cut s) in breaks_in s ≡ parted_from (kind ks) 1 ks
unfolding breaks_in parted_from
from_first s = refl

its_kind : (k : Break) → of_width (length (break_bytes k)) ≡ k
its_kind Lf = refl
its_kind CrLf = refl

-- a break comes after the line that starts at a place: its width tells its kind
pub record Broken (s : Bytes) (at : ℕ) (r : LineAt) : Type 0 where
  pub breaks : breaks_of (cut (drop at s)) ≡ of_width (r.next - r.end) ∷ breaks_of (cut (drop r.next s))
  pub width : length (break_bytes (of_width (r.next - r.end))) ≡ r.next - r.end

module _ (s : Bytes) (at : ℕ) (r : LineAt) (is : IsLineAt s at r) where
  pub unbroken : r.next - r.end ≡ 0 → breaks_of (cut (drop at s)) ≡ []
  unbroken w = by_cases (onward s at r is)
    where
      by_cases : Onward s at r → breaks_of (cut (drop at s)) ≡ []
      by_cases (nothing e f) = rw f
      by_cases (a_break k e f) = absurd (some_width k (omega arith))

  pub broken : r.next - r.end ≢ 0 → Broken s at r
  broken h = by_cases (onward s at r is)
    where
      by_cases : Onward s at r → Broken s at r
      by_cases (nothing e f) = absurd (h (omega arith))
      by_cases (a_break k e f) =
          let w : r.next - r.end ≡ length (break_bytes k) = omega arith in
          record { breaks = rw (w, its_kind k, f); width = rw (w, its_kind k) }
