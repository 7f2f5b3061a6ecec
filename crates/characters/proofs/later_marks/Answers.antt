-- `characters::later_marks` meets its contract. Assumes nothing.
use borrow.Author.Rules.{rules}
use Rattle.characters.proofs.Lowest.{left_out}
use Rattle.characters.proofs.later_marks.Goals as goal

pub returns : goal.returns
returns c = left_out c.args.marks (search rules) (search rules)
