-- Demand 3, as a statement about any function from bytes to verdicts. Assumes nothing.
use Rattle.std.specs.Prelude.{ℕ, ◌≤◌, ◌≡◌, length}
use Rattle.sieve.specs.declared.Break.{Break}
use Rattle.sieve.specs.Bytes.{Bytes}
use Rattle.sieve.specs.Lines.{Bill, written}
use Rattle.sieve.specs.Rules.{Layout}
use Rattle.sieve.specs.Verdict.{Refusal, Verdict, accepted, refused}
use Rattle.sieve.specs.Keeps.{Keeps}
use Rattle.sieve.specs.Breaks.{Breaks}

-- b is the bill that the payload p is, with n lines and break k
pub record Is (L : Layout) (p : Bytes) (n : ℕ) (k : Break) (b : Bill) : Type 0 where
  pub keeps : Keeps L b
  pub writes : written b ≡ p
  pub count : length b.lines ≡ n
  pub break : b.break ≡ k

-- a payload is accepted exactly when some bill that keeps every rule is written as those bytes
pub record AcceptsExactly (L : Layout) (f : Bytes → Verdict) : Type 0 where
  -- what is accepted is such a bill
  pub sound : (p : Bytes) (n : ℕ) (k : Break) → f p ≡ accepted n k → (b : Bill) × Is L p n k b
  -- every such bill is accepted, with its count and its break
  pub complete : (b : Bill) → Keeps L b → f (written b) ≡ accepted (length b.lines) b.break
  -- there is one such bill, line count and break included
  pub unique : (b c : Bill) → Keeps L b → Keeps L c → written b ≡ written c → b ≡ c

-- r is what a refusal says under the earliest rule that p breaks
pub record Earliest (L : Layout) (p : Bytes) (r : Refusal) : Type 0 where
  pub position : ℕ
  pub breaks : Breaks L p position r
  pub before_all : (i : ℕ) (q : Refusal) → Breaks L p i q → position ≤ i

pub record RefusesEarliest (L : Layout) (f : Bytes → Verdict) : Type 0 where
  -- a refusal is under the earliest rule that the payload breaks
  pub earliest : (p : Bytes) (r : Refusal) → f p ≡ refused r → Earliest L p r
  -- a payload that breaks a rule is refused
  pub refuses : (p : Bytes) (i : ℕ) (q : Refusal) → Breaks L p i q → (r : Refusal) × (f p ≡ refused r)

pub record DemandThree (L : Layout) (f : Bytes → Verdict) : Type 0 where
  pub accepts : AcceptsExactly L f
  pub refuses : RefusesEarliest L f
