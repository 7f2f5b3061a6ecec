-- Lazy verdicts on the Swiss bill do not have the property of demand 3: each is held against a payload that tells it apart. Assumes nothing.
use Prim.Native.Nat.{ℕ}
use native.Mathlib.Omega.{arith}
use mathlib.Core.List.{◌++◌, flatten}
use mathlib.Core.Path.{refl}
use Rattle.sieve.specs.declared.Break.{Break}
use Rattle.sieve.specs.declared.Break.TheVariants.{Lf, CrLf}
use Rattle.sieve.specs.Bytes.{first_such}
use Rattle.sieve.specs.Lines.{cut, bill_of, joined}
use Rattle.sieve.specs.Characters.{break_width, passes, walk, bad_place, characters, line_feeds}
use Rattle.sieve.specs.Verdict.{Refusal, under, accepted, refused, findings, first, verdict}
use Rattle.sieve.specs.Demand.{AcceptsExactly, RefusesEarliest}
use Rattle.sieve.specs.Latin.{latin}
use Rattle.sieve.specs.Mod97.{numeral, remainder97}
use Rattle.sieve.specs.Mod10.{carry, check_digit}
use Rattle.sieve.specs.Cases.{lines, put}
use Rattle.sieve.proofs.LazyVerdicts as any
use Rattle.sieve.proofs.LazyVerdicts.{last_broken, saying_count, saying_break, Telling}
use Rattle.swiss.specs.Swiss.{rules, swiss}
use Rattle.swiss.specs.Base.{B}
use Rattle.swiss.proofs.DemandThree.{swiss_demand_three}

-- an empty line more; CR LF; no currency, and wrong check digits in the reference
telling : Telling swiss
unfolding verdict swiss rules latin bill_of cut break_width passes walk bad_place characters line_feeds first_such findings first numeral remainder97 carry check_digit flatten
telling =
    record {
      with_lf = joined Lf (B ++ lines "");
      count_lf = 32;
      lf = refl;
      with_crlf = joined CrLf B;
      count_crlf = 31;
      crlf = refl;
      counts_differ = omega arith;
      twice_broken = joined Lf (put 20 "" (put 29 "RF18539007547035" B));
      earlier = under 8 20;
      earliest = refl;
      later = under 11 29;
      latest = refl;
      lines_differ = omega arith;
    }

-- one that refuses everything
pub not_refuse_all : (r : Refusal) → AcceptsExactly swiss (λ p. refused r) → ⊥
not_refuse_all = any.not_refuse_all swiss swiss_demand_three telling

-- one that accepts everything
pub not_accept_all : (n : ℕ) (k : Break) → AcceptsExactly swiss (λ p. accepted n k) → ⊥
not_accept_all = any.not_accept_all swiss swiss_demand_three telling

-- one that always says the same line count, 31 too
pub not_always_count : (m : ℕ) → AcceptsExactly swiss (λ p. saying_count m (verdict swiss p)) → ⊥
not_always_count = any.not_always_count swiss swiss_demand_three telling

-- one that always answers LF, or CR LF
pub not_always_break : (j : Break) → AcceptsExactly swiss (λ p. saying_break j (verdict swiss p)) → ⊥
not_always_break = any.not_always_break swiss swiss_demand_three telling

-- one that accepts exactly the bills, and gives the last broken rule instead of the earliest

pub last_accepts_exactly : AcceptsExactly swiss (last_broken swiss)
last_accepts_exactly = any.last_accepts_exactly swiss swiss_demand_three telling

pub not_a_later_rule : RefusesEarliest swiss (last_broken swiss) → ⊥
not_a_later_rule = any.not_a_later_rule swiss swiss_demand_three telling
