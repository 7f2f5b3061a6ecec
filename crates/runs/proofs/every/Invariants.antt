use mathlib.Core.Bool.{◌&&◌}
use mathlib.Core.Path.{◌≡◌}
use lib.ListN.{drop}
use Rattle.sieve.specs.Bytes.{every}
use Rattle.runs.specs.CharacterKinds.{of_kind}
use Rattle.runs.proofs.every.Given as goal

abbrev pub invariant-loop-x : goal.invariant-loop-x
invariant-loop-x l = every (of_kind l.kind) l.s ≡ l.all && every (of_kind l.kind) (drop l.x-index l.s)
