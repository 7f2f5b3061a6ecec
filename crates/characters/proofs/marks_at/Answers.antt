-- `characters::marks_at` meets its contract. Assumes nothing.
use native.Mathlib.Omega.{arith}
use borrow.Author.Rules.{rules}
use Rattle.characters.proofs.Marked.{in_four}
use Rattle.characters.proofs.marks_at.Goals as goal

pub returns : goal.returns
returns c =
    let a = c.args in
    omega (arith, in_four 4 a.s.now a.at (search rules), c.four_marks.ensures.0, c.four_marks-2.ensures.0, c.four_marks-3.ensures.0, c.four_marks-4.ensures.0)
