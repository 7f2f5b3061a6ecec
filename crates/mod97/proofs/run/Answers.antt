-- `mod97::run` meets its contract: an odd text is a character and an even text. Assumes nothing.
use native.Mathlib.Omega.{arith}
use mathlib.Core.Path.{◌∙◌}
use Rattle.mod97.proofs.Remainders.{first_turn}
use Rattle.mod97.proofs.run.Goals as goal

pub returns-then-s-eq1 : goal.returns-then-s-eq1
returns-then-s-eq1 c =
    let a = c.args in
    c.run_by_two.ensures ∙ rw c.stepped.ensures (first_turn a.n a.s.now (omega arith))
