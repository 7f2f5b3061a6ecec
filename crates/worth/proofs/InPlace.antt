-- A slip in a line of a payload is the same slip in the payload itself, as far on as the line starts. Assumes nothing.
use Prim.Native.Nat.{ℕ, suc, ◌+◌, ◌<◌}
use native.Mathlib.Omega.{arith}
use mathlib.Core.List.{List, [], ◌∷◌, ◌++◌, append_assoc}
use mathlib.Core.Path.{◌≡◌, refl, sym, ap, ◌∙◌}
use lib.ListN.{length, get_or, set, take, drop, get_or-append}
use lib.Seq.{take-append-le, drop-append-le, take-append-add, drop-append-add, get_or-append-add, set_split, set-get_or}
use Rattle.sieve.specs.declared.Break.{Break}
use Rattle.sieve.specs.Bytes.{Bytes}
use Rattle.sieve.specs.Lines.{break_bytes, after_breaks, joined}
use Rattle.sieve.specs.Pointing.{before_breaks}
use Rattle.worth.specs.Slips.{changed, swapped}

-- bytes before a text and behind it
module _ (a s c : Bytes) where
  changed_inside : (i y : ℕ) → i < length s → changed (length a + i) y (a ++ (s ++ c)) ≡ a ++ (changed i y s ++ c)
  changed_inside i y h =
      let far : length a + i + 1 ≡ length a + (i + 1) = omega arith in
      rw (far, take-append-add a (s ++ c) i, drop-append-add a (s ++ c) (i + 1), take-append-le i s c (omega arith), drop-append-le (i + 1) s c (omega arith))
      (simp append_assoc)

  byte_inside : (i : ℕ) → i < length s → get_or (a ++ (s ++ c)) (length a + i) 0 ≡ get_or s i 0
  byte_inside i h = get_or-append-add a (s ++ c) i 0 ∙ get_or-append s c 0 i h

  swapped_inside : (i : ℕ) → i + 1 < length s → swapped (length a + i) (a ++ (s ++ c)) ≡ a ++ (swapped i s ++ c)
  swapped_inside i h =
      let next : length a + i + 1 ≡ length a + (i + 1) = omega arith in
      let far : length a + i + 2 ≡ length a + (i + 2) = omega arith in
      rw (
        next,
        far,
        byte_inside i (omega arith),
        byte_inside (i + 1) h,
        take-append-add a (s ++ c) i,
        drop-append-add a (s ++ c) (i + 2),
        take-append-le i s c (omega arith),
        drop-append-le (i + 2) s c (omega arith),
      )
      (simp append_assoc)

-- lines before a line and behind it
module _ (k : Break) (l : Bytes) (after : List Bytes) where
  after_apart : (before : List Bytes) → after_breaks k (before ++ (l ∷ after)) ≡ break_bytes k ++ (before_breaks k before ++ (l ++ after_breaks k after))
  after_apart [] = refl
  after_apart (b ∷ before) = rw (after_apart before) (simp append_assoc)

  joined_apart : (before : List Bytes) → joined k (before ++ (l ∷ after)) ≡ before_breaks k before ++ (l ++ after_breaks k after)
  joined_apart [] = refl
  joined_apart (b ∷ before) = rw (after_apart before) (simp append_assoc)

module _ (k : Break) (ls : List Bytes) (m : ℕ) (h : m < length ls) where
  -- lines with another as line m + 1
  with_other : (t : Bytes) → joined k (set ls m t) ≡ before_breaks k (take m ls) ++ (t ++ after_breaks k (drop (suc m) ls))
  with_other t = ap (joined k) (set_split ls m t h) ∙ joined_apart k t (drop (suc m) ls) (take m ls)

  with_own : joined k ls ≡ before_breaks k (take m ls) ++ (get_or ls m [] ++ after_breaks k (drop (suc m) ls))
  with_own = ap (joined k) (sym (set-get_or ls m [])) ∙ with_other (get_or ls m [])

  pub changed_in_line : (i y : ℕ) → i < length (get_or ls m []) → changed (length (before_breaks k (take m ls)) + i) y (joined k ls) ≡ joined k (set ls m (changed i y (get_or ls m [])))
  changed_in_line i y b =
      ap (changed (length (before_breaks k (take m ls)) + i) y) with_own
      ∙ changed_inside (before_breaks k (take m ls)) (get_or ls m []) (after_breaks k (drop (suc m) ls)) i y b
      ∙ sym (with_other (changed i y (get_or ls m [])))

  pub swapped_in_line : (i : ℕ) → i + 1 < length (get_or ls m []) → swapped (length (before_breaks k (take m ls)) + i) (joined k ls) ≡ joined k (set ls m (swapped i (get_or ls m [])))
  swapped_in_line i b =
      ap (swapped (length (before_breaks k (take m ls)) + i)) with_own
      ∙ swapped_inside (before_breaks k (take m ls)) (get_or ls m []) (after_breaks k (drop (suc m) ls)) i b
      ∙ sym (with_other (swapped i (get_or ls m [])))
