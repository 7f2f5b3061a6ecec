-- `swift::add` meets its contract: what finds no room in the row is what the filling leaves of the text. Assumes nothing.
use native.Mathlib.Omega.{arith}
use mathlib.Core.Path.{ap, ◌∙◌}
use Rattle.sieve.specs.Characters.{characters}
use Rattle.runs.proofs.Parts.{rest}
use Rattle.swift.proofs.Rows.{few_left, text_added}
use Rattle.swift.proofs.add.Goals as goal

pub overflow_add-cut : goal.overflow_add-cut
overflow_add-cut c =
    let at = c.fill-filled.result.at in
    omega (arith, c.requires.0.few, c.requires.1, c.characters.ensures ∙ ap characters (rest at c.args.text.now), few_left c.args.text.now at)

pub returns : goal.returns
returns c =
    let filled = c.fill-filled in
    text_added c.args.line c.args.text.now filled.result c.characters.result filled.ensures
    (c.characters.ensures ∙ ap characters (rest filled.result.at c.args.text.now))
