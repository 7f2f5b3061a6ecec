-- `swift::Draft::lay_remittance` meets its contract: the rows are filled in turn, then laid out, and what is left of the message is cut. Assumes nothing.
use native.Mathlib.Omega.{arith}
use mathlib.Core.Path.{ap, ◌∙◌}
use Rattle.sieve.specs.Characters.{characters}
use Rattle.runs.proofs.Parts.{rest}
use Rattle.swift.proofs.Rows.{few_left}
use Rattle.swift.proofs.Remitting.{all_remitted}
use Rattle.swift.proofs.Draft.lay_remittance.Goals as goal

pub overflow_add-cut : goal.overflow_add-cut
overflow_add-cut c =
    let at = c.fill_rows-filled.result.at in
    let message = c.args.message.now in
    omega (arith, c.requires.small_line.0.few, c.requires.small_line.2, c.characters.ensures ∙ ap characters (rest at message), few_left message at)

pub overflow_add-self : goal.overflow_add-self
overflow_add-self c =
    let at = c.fill_rows-filled.result.at in
    let message = c.args.message.now in
    omega (arith, c.lay_rows.ensures.cut, c.requires.ready.2, c.requires.small_line.0.few, c.requires.small_line.2, c.characters.ensures ∙ ap characters (rest at message), few_left message at)

pub returns : goal.returns
returns c =
    let told = c.characters.ensures ∙ ap characters (rest c.fill_rows-filled.result.at c.args.message.now) in
    all_remitted {reference = c.args.reference} c.requires.small_line.1 c.requires.small_line.0 c.requires.small_line.2 c.fill_rows-filled.ensures told c.lay_rows.ensures
