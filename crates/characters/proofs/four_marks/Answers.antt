-- `characters::four_marks` meets its contract. Assumes nothing.
use native.Mathlib.Omega.{arith}
use borrow.Author.Rules.{rules}
use Rattle.characters.proofs.Marked.{in_four}
use Rattle.characters.proofs.four_marks.Goals as goal

pub returns : goal.returns
returns c =
    let a = c.args in
    (omega (arith, in_four 1 a.s.now a.at (search rules), c.mark.ensures.0, c.mark-2.ensures.0, c.mark-3.ensures.0, c.mark-4.ensures.0), omega (arith, c.mark.ensures.1, c.mark-2.ensures.1, c.mark-3.ensures.1, c.mark-4.ensures.1))
