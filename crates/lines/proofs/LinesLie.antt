-- Where lines lie: the part at a line's place is the line; with one kind of break the lines lie as `placed` says; and how they go on from a place. Assumes nothing.
use Prim.Native.Nat.{ℕ, zero, suc, ◌+◌, ◌-◌}
use native.Mathlib.Omega.{arith}
use mathlib.Core.List.{List, [], ◌∷◌, ◌++◌, map, append_assoc, Memᴰ}
use mathlib.Core.Logic.{◌≢◌}
use mathlib.Core.Path.{◌≡◌, refl, sym, ap, ap₂, ◌∙◌}
use lib.ListN.{length, get_or, take, drop, length-append}
use Rattle.sieve.specs.declared.Break.{Break}
use Rattle.sieve.specs.Bytes.{Bytes}
use Rattle.sieve.specs.Lines.{Next, break_bytes, glued_after, cut, lines_of, breaks_of}
use Rattle.sieve.specs.Places.{Placed, placed}
use Rattle.sieve.specs.Rules.{line}
use Rattle.sieve.proofs.Cutting.{glued_cut}
use Rattle.sieve.proofs.Placing.{part_here}
use Rattle.lines.specs.declared.LineAt.{LineAt}
use Rattle.lines.specs.declared.Place.{Place}
use Rattle.lines.specs.Results.{IsLineAt, IsPlaceOf}
use Rattle.lines.specs.LinesIn.{lines_from, lines_in, line_of, lines_at}
use Rattle.lines.proofs.LinesAt.{some_width, Onward, nothing, a_break, onward}

-- a line that is not there
abbrev pub absent : Bytes → Placed
absent s = record { start = length s; text = [] }

-- the part of some bytes at a line's place is the line
abbrev Lies : Bytes → Placed → Type 0
Lies s l = take (length l.text) (drop l.start s) ≡ l.text

lie : (ns : List Next) (before l : Bytes) (at i : ℕ) → length before ≡ at → (s : Bytes) → before ++ (l ++ glued_after ns) ≡ s
    → Lies s (get_or (lines_from at l ns) i (absent s))
unfolding lines_from
lie [] before l at zero h s e = rw (← e) (part_here before l [] at h)
lie [] before l at (suc i) h s e = refl
lie (n ∷ ns) before l at zero h s e = rw (← e) (part_here before l (glued_after (n ∷ ns)) at h)
lie (n ∷ ns) before l at (suc i) h s e =
    let b = break_bytes n.break in
    let longer = before ++ (l ++ b) in
    lie ns longer n.line (at + length l + length b) i (omega (arith, length-append before (l ++ b), length-append l b)) s (simp append_assoc e)

pub line_lies : (s : Bytes) (n : ℕ) → let l = line_of s n in take (length l.text) (drop l.start s) ≡ l.text
unfolding line_of lines_in
line_lies s n = lie (cut s).rest [] (cut s).first 0 (n - 1) refl s (glued_cut s)

-- the text of line n, as it lies, is line n
texts : (s : Bytes) (at : ℕ) (l : Bytes) (ns : List Next) (i : ℕ) → (get_or (lines_from at l ns) i (absent s)).text ≡ get_or (l ∷ map (λ n. n.line) ns) i []
unfolding lines_from
texts s at l [] zero = refl
texts s at l [] (suc i) = refl
texts s at l (n ∷ ns) zero = refl
texts s at l (n ∷ ns) (suc i) = texts s (at + length l + length (break_bytes n.break)) n.line ns i

pub line_text : (s : Bytes) (n : ℕ) → (line_of s n).text ≡ line n (lines_of (cut s))
unfolding line_of lines_in
line_text s n = texts s 0 (cut s).first (cut s).rest (n - 1)

as_placed : (k : Break) (ns : List Next) (at : ℕ) (l : Bytes) → ((j : Break) → Memᴰ j (map (λ n. n.break) ns) → j ≡ k) → lines_from at l ns ≡ placed at k (l ∷ map (λ n. n.line) ns)
unfolding lines_from placed
as_placed k [] at l h = refl
as_placed k (n ∷ ns) at l h =
    ap (λ (ls : List Placed). record { start = at; text = l } ∷ ls)
    (rw (h n.break (Memᴰ.head refl)) (as_placed k ns _ n.line (λ j m. h j (Memᴰ.tail m))))

pub lines_placed : (s : Bytes) (k : Break) → ((j : Break) → Memᴰ j (breaks_of (cut s)) → j ≡ k) → lines_in s ≡ placed 0 k (lines_of (cut s))
unfolding lines_in
lines_placed s k h = as_placed k (cut s).rest 0 (cut s).first h

first_of : (at : ℕ) (l : Bytes) (ns : List Next) (d : Placed) → get_or (lines_from at l ns) 0 d ≡ record { start = at; text = l }
unfolding lines_from
first_of at l [] d = refl
first_of at l (n ∷ ns) d = refl

module _ (s : Bytes) (at : ℕ) (r : LineAt) (is : IsLineAt s at r) where
  -- the first of them is this line
  pub this_line : IsPlaceOf (get_or (lines_at s at) 0 (absent s)) (record { start = at; bytes = r.end - at })
  this_line =
      let e = first_of at (cut (drop at s)).first (cut (drop at s)).rest (absent s) in
      record { start = rw e; bytes = rw e (omega (arith, is.end)) }

  -- past the last there is none
  pub past_last : r.next ≡ r.end → (i : ℕ) → get_or (lines_at s at) (suc i) (absent s) ≡ absent s
  unfolding lines_from
  past_last w i = by_cases (onward s at r is)
    where
      by_cases : Onward s at r → get_or (lines_at s at) (suc i) (absent s) ≡ absent s
      by_cases (nothing e f) = rw f
      by_cases (a_break k e f) = absurd (some_width k (omega arith))

  -- those after it are those from the next place on
  pub after_this : r.next ≢ r.end → (i : ℕ) → get_or (lines_at s at) (suc i) (absent s) ≡ get_or (lines_at s r.next) i (absent s)
  unfolding lines_from
  after_this h i = by_cases (onward s at r is)
    where
      by_cases : Onward s at r → get_or (lines_at s at) (suc i) (absent s) ≡ get_or (lines_at s r.next) i (absent s)
      by_cases (nothing e f) = absurd (h e)
      by_cases (a_break k e f) =
          let q : at + length (cut (drop at s)).first + length (break_bytes k) ≡ r.next = omega (arith, is.end) in
          rw (f, q)

-- a line has one place
pub one_place : (l : Placed) (r q : Place) → IsPlaceOf l r → IsPlaceOf l q → r ≡ q
one_place l r q h k = ap₂ {C = Place} (λ (a b : ℕ). record { start = a; bytes = b }) (h.start ∙ sym k.start) (h.bytes ∙ sym k.bytes)
