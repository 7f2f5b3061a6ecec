-- `shown::fill_lines` meets its contract: line after line, three numbers each. Assumes nothing.
use Prim.Native.Nat.{◌+◌, ◌-◌, ◌*◌}
use native.Mathlib.Omega.{arith}
use mathlib.Core.Path.{◌≡◌}
use lib.ListN.{get_or, drop, length-take}
use Rattle.sieve.specs.Characters.{characters}
use Rattle.shown.proofs.Plain.{plain_line}
use Rattle.shown.proofs.Filling.{line_at, one_filled, all_filled}
use Rattle.shown.proofs.fill_lines.Goals as goal
use Rattle.shown.proofs.fill_lines.Goals.{After-counted-n}

-- the characters of line i + 1 were counted
line_counted : (c : After-counted-n)
    → let a = c.args in
    c.counted-n.result ≡ characters (line_at a.payload.now a.places.now c.loop-i.i)
line_counted c =
    let a = c.args in
    let start = get_or a.places.now (2 * c.loop-i.i) 0 in
    let bytes = get_or a.places.now (2 * c.loop-i.i + 1) 0 in
    let e : start + bytes - start ≡ bytes = omega arith in
    rw e at c.counted-n.ensures

pub counted-n-requires : goal.counted-n-requires
counted-n-requires c =
    let a = c.args in
    let pre = c.requires in
    let start = get_or a.places.now (2 * c.loop-i.i) 0 in
    let bytes = get_or a.places.now (2 * c.loop-i.i + 1) 0 in
    let e : start + bytes - start ≡ bytes = omega arith in
    record {
      few = rw e (omega (arith, length-take bytes (drop start a.payload.now), c.type_inv.places (2 * c.loop-i.i + 1)));
      one_each = plain_line _ _ start (start + bytes - start) a.payload.now pre.one_per_byte_if.0 pre.one_per_byte_if.1;
    }

pub loop-i-preserved : goal.loop-i-preserved
loop-i-preserved c =
    let a = c.args in
    let filled = one_filled a.payload.now a.places.now c.loop-i.invariant c.loop-i-test.true c.requires.inside_two.1 in
    rw (line_counted c) filled

pub returns : goal.returns
returns c =
    let a = c.args in
    all_filled a.payload.now a.places.now c.loop-i.invariant c.loop-i-test.false
