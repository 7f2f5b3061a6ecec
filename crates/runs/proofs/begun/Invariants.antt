use Prim.Native.Nat.{◌+◌, ◌≤◌}
use mathlib.Core.Path.{◌≡◌}
use lib.ListN.{drop}
use Rattle.sieve.specs.Characters.{characters}
use Rattle.runs.proofs.begun.Given as goal

abbrev pub invariant-loop-x : goal.invariant-loop-x
invariant-loop-x l = record { few : l.n ≤ l.x-index; all : characters l.s ≡ l.n + characters (drop l.x-index l.s) }
