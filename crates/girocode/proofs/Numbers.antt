-- Which numbers and line counts a verdict on a girocode has. Assumes nothing.
use Prim.Native.Nat.{ℕ, ◌≤◌}
use mathlib.Core.Bool.{true}
use mathlib.Core.List.{flatten}
use mathlib.Core.Logic.{◌≢◌}
use mathlib.Core.Path.{◌≡◌, refl}
use lib.Dec.{lit≤}
use Rattle.sieve.specs.declared.Break.{Break}
use Rattle.sieve.specs.Bytes.{Bytes}
use Rattle.sieve.specs.Verdict.{Refusal, accepted, refused, verdict}
use Rattle.sieve.proofs.Numbers as sieve
use Rattle.girocode.specs.Girocode.{rules, girocode}
use Rattle.girocode.proofs.Serves.{girocode_serves}

-- no rule of the girocode has a number over 17
low_rules : sieve.numbers_to 17 rules ≡ true
unfolding rules sieve.numbers_to flatten
low_rules = refl

pub low_number : (p : Bytes) (r : Refusal) → verdict girocode p ≡ refused r → r.number ≤ 17
unfolding girocode
low_number = sieve.verdict_number girocode 17 (lit≤ tt) low_rules

-- no verdict is 14 or 15
pub never_14_or_15 : (p : Bytes) (r : Refusal) → verdict girocode p ≡ refused r → (r.number ≢ 14) × (r.number ≢ 15)
never_14_or_15 = sieve.never_14_or_15 girocode_serves

-- an accepted payload has 7 to 12 lines
pub line_count : (p : Bytes) (n : ℕ) (k : Break) → verdict girocode p ≡ accepted n k → (7 ≤ n) × (n ≤ 12)
unfolding girocode
line_count = sieve.line_count girocode_serves
