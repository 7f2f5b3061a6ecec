-- `runs::longer` meets its contract: bytes that are not too many hold no more characters. Assumes nothing.
use native.Mathlib.Omega.{arith}
use mathlib.Core.Path.{sym}
use borrow.Author.Tests.{le-ltb}
use Rattle.sieve.specs.Characters.{characters}
use Rattle.runs.proofs.Counts.{characters_few}
use Rattle.runs.proofs.longer.Goals as goal

pub returns-then-s-most : goal.returns-then-s-most
returns-then-s-most c =
    let a = c.args in
    sym (le-ltb a.most (characters a.s.now) (omega (arith, characters_few a.s.now)))
