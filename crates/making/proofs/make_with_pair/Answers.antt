-- `making::make_with_pair` meets its contract: room is asked for before anything is laid. Assumes nothing.
use Prim.Native.Nat.{◌+◌}
use native.Mathlib.Omega.{arith}
use mathlib.Core.List.{◌++◌}
use mathlib.Core.Path.{◌≡◌, refl}
use lib.ListN.{length, length-append}
use Rattle.sieve.specs.Bytes.{Bytes}
use Rattle.sieve.specs.Pairs.{due_pair}
use Rattle.making.specs.Made.{with_pair}
use Rattle.making.proofs.Promise.{no_room, is_laid}
use Rattle.making.proofs.make_with_pair.Goals as goal

-- how many bytes a head, a pair and a rest of two parts are
made_length : (head first second : Bytes) → length head ≡ 2 → length (with_pair head (first ++ second)) ≡ 4 + length first + length second
unfolding due_pair
made_length head first second h =
    let pair = due_pair head (first ++ second) in
    omega (arith, length-append head (pair ++ (first ++ second)), length-append pair (first ++ second), length-append first second)

pub returns-then-dest-n : goal.returns-then-dest-n
returns-then-dest-n c =
    let a = c.args in
    no_room refl (omega (arith, c.if-dest-n.true, made_length a.head.now a.first.now a.second.now c.requires.two))

pub returns : goal.returns
returns c =
    let a = c.args in
    let size = made_length a.head.now a.first.now a.second.now c.requires.two in
    is_laid refl (omega (arith, size, c.if-dest-n.false)) (omega (arith, size)) c.lay_with_pair.ensures
