-- `mod97::run_by_two` meets its contract. The invariant: what is left, after the remainder so far, leaves the same remainder. Assumes nothing.
use Prim.Native.Nat.{◌+◌, ◌*◌}
use native.Mathlib.Omega.{arith}
use mathlib.Core.Path.{◌≡◌}
use Rattle.mod97.proofs.Remainders.{two_turns, no_turn}
use Rattle.mod97.proofs.run_by_two.Goals as goal

pub loop-i-preserved : goal.loop-i-preserved
loop-i-preserved c =
    let i = c.loop-i.i in
    let two : 2 * (i + 1) ≡ 2 * i + 2 = omega arith in
    rw (c.stepped-r.ensures, c.stepped.ensures, two)
    record { small = omega arith; all = two_turns c.args.n c.loop-i.r c.args.s.now (2 * i) (omega arith) c.loop-i.invariant.all }

pub returns : goal.returns
returns c = no_turn c.args.n c.loop-i.r c.args.s.now (2 * c.loop-i.i) (omega arith) c.loop-i.invariant.small c.loop-i.invariant.all
