-- What the list of places says of each line: where it lies in the payload. Assumes nothing.
use Prim.Native.Nat.{ℕ, zero, suc, ◌+◌, ◌-◌, ◌*◌, ◌≤◌}
use native.Mathlib.Omega.{arith}
use mathlib.Core.List.{List, [], ◌∷◌, ◌++◌}
use mathlib.Core.Path.{◌≡◌, ap, ◌∙◌}
use lib.ListN.{length, get_or, take, drop, length-append}
use Rattle.sieve.specs.Places.{walk_lines, walk_numbers}
use Rattle.sieve.specs.Bytes.{Bytes}
use Rattle.sieve.specs.Lines.{break_bytes, Next, glued_after, cut, lines_of}
use Rattle.sieve.specs.Rules.{line}
use Rattle.sieve.proofs.Cutting.{glued_cut}
use Rattle.sieve.proofs.Placing.{entries_length, entry_at}
use Rattle.lines.specs.LinesIn.{lines_from, lines_in, line_of}
use Rattle.lines.proofs.LinesLie.{line_lies, line_text}
use Rattle.places.specs.Listed.{listed}

pub listed_length : (p : Bytes) → length (listed p) ≡ walk_numbers
unfolding listed
listed_length p = entries_length walk_lines (length p) (lines_in p)

inside : (at : ℕ) (l : Bytes) (ns : List Next) (i end : ℕ) → at + length (l ++ glued_after ns) ≡ end → let m = get_or (lines_from at l ns) i (record { start = end; text = [] }) in m.start + length m.text ≤ end
unfolding lines_from
inside at l [] zero end h = omega (arith, length-append l [])
inside at l [] (suc i) end h = omega arith
inside at l (n ∷ ns) zero end h = omega (arith, length-append l (glued_after (n ∷ ns)))
inside at l (n ∷ ns) (suc i) end h =
    inside (at + length l + length (break_bytes n.break)) n.line ns i end (omega (arith, length-append l (glued_after (n ∷ ns)), length-append (break_bytes n.break) (n.line ++ glued_after ns)))

-- where the list says that line n lies
pub record LineAtPlace (p : Bytes) (n start bytes : ℕ) : Type 0 where
  pub within : start + bytes ≤ length p
  pub is : take bytes (drop start p) ≡ line n (lines_of (cut p))

pub listed_line : (p : Bytes) (n : ℕ) → 1 ≤ n → n ≤ walk_lines → LineAtPlace p n (get_or (listed p) (2 * n - 2) 0) (get_or (listed p) (2 * n - 1) 0)
unfolding listed lines_in line_of
listed_line p n h k =
    let i = n - 1 in
    let (a, b) = entry_at walk_lines i (length p) (lines_in p) (omega arith) in
    let start : 2 * n - 2 ≡ 2 * i = omega arith in
    let bytes : 2 * n - 1 ≡ 2 * i + 1 = omega arith in
    rw (start, bytes, a, b)
    (record {
      within = inside 0 (cut p).first (cut p).rest i (length p) (omega (arith, ap length (glued_cut p)));
      is = line_lies p n ∙ line_text p n;
    })

-- the part from its start to its end is the line
pub part_is_line : {p : Bytes} {n start bytes : ℕ} → LineAtPlace p n start bytes → take (start + bytes - start) (drop start p) ≡ line n (lines_of (cut p))
part_is_line {start = start} {bytes = bytes} l = let e : start + bytes - start ≡ bytes = omega arith in rw e l.is
