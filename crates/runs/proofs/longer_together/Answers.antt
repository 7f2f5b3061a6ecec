-- `runs::longer_together` meets its contract: bytes that are not too many hold no more characters. Assumes nothing.
use Prim.Native.Nat.{◌+◌}
use native.Mathlib.Omega.{arith}
use mathlib.Core.Path.{sym}
use borrow.Author.Tests.{le-ltb}
use Rattle.sieve.specs.Characters.{characters}
use Rattle.runs.proofs.Counts.{characters_few}
use Rattle.runs.proofs.longer_together.Goals as goal

pub returns-then-a-b : goal.returns-then-a-b
returns-then-a-b c =
    let a = c.args in
    sym (le-ltb a.most (characters a.a.now + characters a.b.now) (omega (arith, characters_few a.a.now, characters_few a.b.now)))

pub overflow_add-result : goal.overflow_add-result
overflow_add-result c =
    let a = c.args in
    omega (arith, characters_few a.a.now, characters_few a.b.now)
