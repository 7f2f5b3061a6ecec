-- A character stands for at most 35, so that k characters make a number below 100 ^ k. Assumes nothing.
use Prim.Native.Nat.{ℕ, ◌+◌, ◌^◌, ◌≤◌, ◌<◌}
use native.Mathlib.Nat.{mul-le-mul_right}
use native.Mathlib.Numerals.{add-one}
use native.Mathlib.Omega.{arith}
use mathlib.Core.Bool.{cond}
use Rattle.sieve.specs.Letters.{digit, capital, small}
use Rattle.sieve.specs.Mod97.{value, onto}
use Rattle.sieve.proofs.Bounds.{is_within, case_at_most}

pub value_small : (x : ℕ) → value x ≤ 35
value_small x =
    case_at_most 35 (digit x) (λ e. omega (arith, is_within 48 57 x e))
    (case_at_most 35 (capital x) (λ e. omega (arith, is_within 65 90 x e)) (case_at_most 35 (small x) (λ e. omega (arith, is_within 97 122 x e)) (omega arith)))

-- one character more takes at most two digits more
pub onto_small : (k n x : ℕ) → n < 100 ^ k → onto n x < 100 ^ (k + 1)
onto_small k n x h =
    let p : cond (digit x) 10 100 ≤ 100 = case_at_most 100 (digit x) (λ e. omega arith) (omega arith) in
    rw add-one (omega (arith, value_small x, mul-le-mul_right n p))
