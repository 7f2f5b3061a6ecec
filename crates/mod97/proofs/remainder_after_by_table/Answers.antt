-- `mod97::remainder_after_by_table` meets its contract: only the remainder of what stands before counts. Assumes nothing.
use mathlib.Core.Path.{sym, ◌∙◌}
use Rattle.mod97.proofs.Remainders.{carried}
use Rattle.mod97.proofs.remainder_after_by_table.Goals as goal

pub returns : goal.returns
returns c =
    let a = c.args in
    c.run.ensures ∙ sym (carried a.n a.s.now)
