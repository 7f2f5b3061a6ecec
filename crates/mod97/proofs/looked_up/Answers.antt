-- `mod97::looked_up` meets its contract, by the rule of the table at one entry. Assumes nothing.
use mathlib.Core.Path.{◌∙◌}
use borrow.Author.Rules.{rules}
use Rattle.mod97.proofs.Entries.{remainder_at}
use Rattle.mod97.proofs.looked_up.Goals as goal

pub returns : goal.returns
returns c =
    let a = c.args in
    c.wide.ensures ∙ remainder_at a.table.now a.place c.requires.0 (search rules)
