-- `desk::line::add` meets its contract: what is laid in the tail ends in the line. Assumes nothing.
use Rattle.std.proofs.Common.{ℕ, ◌+◌, ◌-◌, ◌≤◌, length, drop, arith, length-drop}
use borrow.Rule.Slice.PartMut.{mid_of, same_len_mid}
use Rattle.sieve.specs.Bytes.{Bytes}
use Rattle.runs.specs.Laid.{fitting}
use Rattle.runs.proofs.Lays.{room_fits, lent}
use Rattle.desk.proofs.line.add.Goals as goal

-- what is laid behind the first n ends in d
ends : (n : ℕ) (d l : Bytes) → n ≤ length d → n + fitting (mid_of n (length d - n) d) l ≤ length d
ends n d l h = rw (lent n d) (omega (arith, room_fits (drop n d) l, length-drop n d))

pub overflow_add-result : goal.overflow_add-result
overflow_add-result c =
    let a = c.args in
    omega (arith, c.lay.ensures.value, ends a.at a.line.now a.text.now (omega arith))

pub returns : goal.returns
returns c =
    let a = c.args in
    rw (same_len_mid a.at (length a.line.now - a.at) a.line.now c.lay.new.dest c.lay.auto.dest)
    (omega (arith, c.lay.ensures.value, ends a.at a.line.now a.text.now (omega arith)))
