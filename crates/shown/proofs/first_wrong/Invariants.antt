use Prim.Native.Nat.{◌≤◌}
use mathlib.Core.Bool.{true}
use mathlib.Core.Path.{◌≡◌}
use lib.ListN.{length}
use Rattle.sieve.specs.Characters.{characters}
use Rattle.shown.specs.Shown.{first_wrong}
use Rattle.shown.proofs.FirstWrong.{wrong_from}
use Rattle.shown.proofs.first_wrong.Given as goal

abbrev pub invariant-loop-i : goal.invariant-loop-i
invariant-loop-i l = (l.plain ≡ true → characters l.text ≡ length l.text) × (l.i ≤ l.count) × (first_wrong l.text l.list l.count ≡ wrong_from l.text l.list l.count l.i)
