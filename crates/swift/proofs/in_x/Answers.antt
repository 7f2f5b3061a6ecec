-- `swift::in_x` meets its contract: the bits are those of the set, computed over all bytes. Assumes nothing.
use Prim.Native.Nat.{ℕ, ◌/◌, ◌%◌, ◌^◌, ◌<◌}
use mathlib.Core.Bool.{Bool, true, beq, cond}
use mathlib.Core.Path.{◌≡◌, refl, ◌∙◌}
use lib.Dec.{eqb, ltb}
use borrow.Author.Rules.{rules}
use borrow.Author.Tests.{lt-ltb, le-ltb}
use Rattle.sieve.proofs.Below.{below, agree}
use Rattle.swift.specs.Letters.{in_x}
use Rattle.swift.proofs.in_x.Goals as goal
use Rattle.swift.proofs.in_x.Goals.{then-x-lt128, else-x-lt128, then-x-lt64, else-x-lt64}

abbrev bit : ℕ → ℕ → Bool
bit set i = eqb (set / 2 ^ i % 2) 1

-- the number that has a byte's bit, if one has
abbrev set_of : ℕ → ℕ
set_of x = cond (ltb x 64) 0x87FFFB8100000000 (cond (ltb x 128) 0x7FFFFFE07FFFFFE 0)

abbrev tested : ℕ → Bool
tested x = bit (set_of x) (x % 64)

all_bits : below (λ x. beq (tested x) (in_x x)) 256 ≡ true
unfolding in_x
all_bits = refl

each_bit : (x : ℕ) → x < 256 → tested x ≡ in_x x
each_bit = agree tested in_x 256 all_bits

pub returns : goal.returns
returns c =
    let x = c.args.x in
    let high : c.if-x-lt128.high ≡ cond (ltb x 128) 0x7FFFFFE07FFFFFE 0 = elim c.if-x-lt128.branch [ then-x-lt128 w ↦ w.high-is ∙ rw (lt-ltb x 128 w.if-x-lt128.true) | else-x-lt128 w ↦ w.high-is ∙ rw (le-ltb x 128 w.if-x-lt128.false) ] in
    let set_is : c.if-x-lt64.set ≡ set_of x = elim c.if-x-lt64.branch [ then-x-lt64 w ↦ w.set-is ∙ rw (lt-ltb x 64 w.if-x-lt64.true) | else-x-lt64 w ↦ w.set-is ∙ rw (le-ltb x 64 w.if-x-lt64.false) high ] in
    rw set_is (each_bit x (search rules))
