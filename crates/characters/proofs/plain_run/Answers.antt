-- `characters::plain_run` meets its contract: the run ends at the first byte that does not pass the test. Assumes nothing.
use mathlib.Core.Path.{◌∙◌}
use Rattle.std.proofs.Common.{rules}
use Rattle.std.proofs.iter.runs.Made.{chains}
use Rattle.sieve.specs.Latin.{in_one}
use Rattle.characters.proofs.Runs.{first_other}
use Rattle.characters.proofs.plain_run.Goals as goal

pub returns : goal.returns
returns c = c.unwrap_or.ensures ∙ first_other in_one c.position.result c.args.s.now (search (rules, chains))
