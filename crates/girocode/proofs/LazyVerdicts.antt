-- Lazy verdicts on the girocode do not have the property of demand 3: each is held against a payload that tells it apart. Assumes nothing.
use Prim.Native.Nat.{ℕ}
use native.Mathlib.Omega.{arith}
use mathlib.Core.List.{flatten}
use mathlib.Core.Path.{refl}
use lib.ListN.{take}
use Rattle.sieve.specs.declared.Break.{Break}
use Rattle.sieve.specs.declared.Break.TheVariants.{Lf, CrLf}
use Rattle.sieve.specs.Bytes.{first_such}
use Rattle.sieve.specs.Lines.{cut, bill_of, joined}
use Rattle.sieve.specs.Characters.{break_width, passes, walk, bad_place, characters, line_feeds}
use Rattle.sieve.specs.Verdict.{Refusal, under, accepted, refused, findings, first, verdict}
use Rattle.sieve.specs.Demand.{AcceptsExactly, RefusesEarliest}
use Rattle.sieve.specs.Latin.{latin}
use Rattle.sieve.specs.Iso8859.{iso8859}
use Rattle.sieve.specs.Mod97.{numeral, remainder97}
use Rattle.sieve.specs.Cases.{put}
use Rattle.sieve.proofs.LazyVerdicts as any
use Rattle.sieve.proofs.LazyVerdicts.{last_broken, saying_count, saying_break, Telling}
use Rattle.girocode.specs.Girocode.{rules, girocode}
use Rattle.girocode.specs.Base.{G}
use Rattle.girocode.proofs.DemandThree.{girocode_demand_three}

-- the fewest lines; CR LF; no name, and wrong check digits in the IBAN
telling : Telling girocode
unfolding verdict girocode rules iso8859 latin bill_of cut break_width passes walk bad_place characters line_feeds first_such findings first numeral remainder97 flatten
telling =
    record {
      with_lf = joined Lf (take 7 G);
      count_lf = 7;
      lf = refl;
      with_crlf = joined CrLf G;
      count_crlf = 12;
      crlf = refl;
      counts_differ = omega arith;
      twice_broken = joined Lf (put 6 "" (put 7 "AT682011131032423629" G));
      earlier = under 8 6;
      earliest = refl;
      later = under 11 7;
      latest = refl;
      lines_differ = omega arith;
    }

-- one that refuses everything
pub not_refuse_all : (r : Refusal) → AcceptsExactly girocode (λ p. refused r) → ⊥
not_refuse_all = any.not_refuse_all girocode girocode_demand_three telling

-- one that accepts everything
pub not_accept_all : (n : ℕ) (k : Break) → AcceptsExactly girocode (λ p. accepted n k) → ⊥
not_accept_all = any.not_accept_all girocode girocode_demand_three telling

-- one that always says the same line count
pub not_always_count : (m : ℕ) → AcceptsExactly girocode (λ p. saying_count m (verdict girocode p)) → ⊥
not_always_count = any.not_always_count girocode girocode_demand_three telling

-- one that always answers LF, or CR LF
pub not_always_break : (j : Break) → AcceptsExactly girocode (λ p. saying_break j (verdict girocode p)) → ⊥
not_always_break = any.not_always_break girocode girocode_demand_three telling

-- one that accepts exactly the girocodes, and gives the last broken rule instead of the earliest

pub last_accepts_exactly : AcceptsExactly girocode (last_broken girocode)
last_accepts_exactly = any.last_accepts_exactly girocode girocode_demand_three telling

pub not_a_later_rule : RefusesEarliest girocode (last_broken girocode) → ⊥
not_a_later_rule = any.not_a_later_rule girocode girocode_demand_three telling
