-- Lines in front of any bytes, each with its break after it: what they are cut into, and which bytes come first. Assumes nothing.
use Prim.Native.Nat.{ℕ, ◌+◌}
use native.Mathlib.Omega.{arith}
use mathlib.Core.List.Memᴰ
use mathlib.Core.List.{List, [], ◌∷◌, ◌++◌, append-nil, append_assoc}
use mathlib.Core.Path.{◌≡◌, refl, sym, ap, ◌∙◌}
use lib.ListN.{length, take, length-append}
use lib.Seq.{take-append-add}
use Rattle.sieve.specs.declared.Break.{Break}
use Rattle.sieve.specs.Bytes.{Bytes}
use Rattle.sieve.specs.Lawful.{Clean}
use Rattle.sieve.specs.Lines.{break_bytes, cut}
use Rattle.sieve.proofs.Cutting.{Each, nexts, cut_break, cut_clean}
use Rattle.lines.proofs.LinesAt.{behind}

abbrev pub leading : Break → List Bytes → Bytes → Bytes
leading k [] t = t
leading k (l ∷ ls) t = l ++ (break_bytes k ++ leading k ls t)

module _ (k : Break) where
  pub cut_leading : (l : Bytes) (ls : List Bytes) (t : Bytes) → Each Clean (l ∷ ls) → cut (leading k (l ∷ ls) t) ≡ record { first = l; rest = nexts k ls ++ behind k t }
  cut_leading l [] t h = rw (cut_clean l (break_bytes k ++ t) (h l (Memᴰ.head refl)), cut_break k t, append-nil)
  cut_leading l (m ∷ ls) t h =
      let r = leading k (m ∷ ls) t in
      rw (cut_clean l (break_bytes k ++ r) (h l (Memᴰ.head refl)), cut_break k r, cut_leading m ls t (λ n i. h n (Memᴰ.tail i)), append-nil)

  then_rest : (ls : List Bytes) (t : Bytes) → leading k ls t ≡ leading k ls [] ++ t
  then_rest [] t = refl
  then_rest (l ∷ ls) t = rw (then_rest ls t) (simp append_assoc)

  -- some bytes more than the lines and their breaks have
  pub take_leading : (ls : List Bytes) (t : Bytes) (n : ℕ) → take (length (leading k ls []) + n) (leading k ls t) ≡ leading k ls (take n t)
  take_leading ls t n = ap (take (length (leading k ls []) + n)) (then_rest ls t) ∙ take-append-add (leading k ls []) t n ∙ sym (then_rest ls (take n t))

  pub length_leading : (l : Bytes) (ls : List Bytes) → length (leading k (l ∷ ls) []) ≡ length l + length (break_bytes k) + length (leading k ls [])
  length_leading l ls = omega (arith, length-append l (break_bytes k ++ leading k ls []), length-append (break_bytes k) (leading k ls []))
