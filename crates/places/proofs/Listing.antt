-- The list of places, line by line. Assumes nothing.
use Prim.Native.Nat.{ℕ, zero, suc, ◌+◌, ◌-◌, ◌*◌, ◌≤◌, ◌<◌}
use native.Mathlib.Omega.{arith}
use mathlib.Core.List.{List, [], ◌∷◌, ◌++◌, append-nil, append_assoc}
use mathlib.Core.Path.{◌≡◌, refl, sym, ap, ◌∙◌}
use lib.ListN.{length, take, drop, set, length-drop, length-append}
use lib.Seq.{drop-length, take_all}
use Rattle.sieve.specs.Bytes.{Bytes}
use Rattle.sieve.specs.Lines.{break_bytes, cut}
use Rattle.sieve.specs.Places.{entries, walk_lines, walk_numbers}
use Rattle.sieve.proofs.Cutting.{glued_cut}
use Rattle.sieve.proofs.Setting.{two_more}
use Rattle.lines.specs.declared.LineAt.{LineAt}
use Rattle.lines.specs.Results.{IsLineAt}
use Rattle.lines.specs.LinesIn.{lines_from, lines_at}
use Rattle.lines.proofs.LinesAt.{Onward, nothing, a_break, onward}
use Rattle.places.specs.Listed.{listed, Filled}

-- past the end there are only absent lines, which look like one empty line there
at_end : (p : Bytes) (n : ℕ) → entries n (length p) (lines_at p (length p)) ≡ entries n (length p) []
unfolding entries lines_from cut
at_end p zero = refl
at_end p (suc n) = rw (drop-length p)

-- a line with nothing after it ends at the end
last_ends : (p : Bytes) (at : ℕ) → at ≤ length p → (cut (drop at p)).rest ≡ [] → at + length (cut (drop at p)).first ≡ length p
last_ends p at h e =
    let g : (cut (drop at p)).first ++ [] ≡ drop at p = rw e at (glued_cut (drop at p)) in
    omega (arith, ap length g, length-append (cut (drop at p)).first [], length-drop at p)

-- an entry for the line at a place, and then the entries of those from the next place on
one_entry : (p : Bytes) (n at : ℕ) (r : LineAt) → IsLineAt p at r → at ≤ length p
    → entries (suc n) (length p) (lines_at p at) ≡ at ∷ (r.end - at) ∷ entries n (length p) (lines_at p r.next)
unfolding entries lines_from
one_entry p n at r is h = by_cases (onward p at r is)
  where
    bytes : r.end - at ≡ length (cut (drop at p)).first
    bytes = omega (arith, is.end)

    by_cases : Onward p at r → entries (suc n) (length p) (lines_at p at) ≡ at ∷ (r.end - at) ∷ entries n (length p) (lines_at p r.next)
    by_cases (nothing e f) =
        let q : r.next ≡ length p = e ∙ is.end ∙ last_ends p at h f in
        rw (f, q, bytes) (ap (λ (t : List ℕ). at ∷ length (cut (drop at p)).first ∷ t) (sym (at_end p n)))
    by_cases (a_break k e f) =
        let q : at + length (cut (drop at p)).first + length (break_bytes k) ≡ r.next = omega (arith, is.end) in
        rw (f, q, bytes)

-- one line more is noted
pub filled_more : (p : Bytes) (l : List ℕ) (at n : ℕ) (r : LineAt) → IsLineAt p at r → at ≤ length p → n < walk_lines → length l ≡ walk_numbers → Filled p l at n
    → Filled p (set (set l (2 * n) at) (2 * n + 1) (r.end - at)) r.next (n + 1)
filled_more p l at n r is h k size e =
    let two : 2 * (n + 1) ≡ 2 * n + 2 = omega arith in
    let m : suc (walk_lines - (n + 1)) ≡ walk_lines - n = omega arith in
    let rest = entries (walk_lines - (n + 1)) (length p) (lines_at p r.next) in
    let more : entries (walk_lines - n) (length p) (lines_at p at) ≡ at ∷ (r.end - at) ∷ rest = rw (← m) (one_entry p (walk_lines - (n + 1)) at r is h) in
    rw (two, two_more l (2 * n) at (r.end - at) (omega arith), append_assoc (take (2 * n) l) (at ∷ (r.end - at) ∷ []) rest)
    (ap (λ (t : List ℕ). take (2 * n) l ++ t) (sym more) ∙ e)

pub filled_all : (p : Bytes) (l : List ℕ) (at n : ℕ) → walk_lines ≤ n → n ≤ walk_lines → length l ≡ walk_numbers → Filled p l at n → l ≡ listed p
unfolding entries
filled_all p l at n h k size e =
    let q : n ≡ walk_lines = omega arith in
    sym (take_all walk_numbers l (omega arith)) ∙ sym (append-nil (take walk_numbers l)) ∙ rw q at e
