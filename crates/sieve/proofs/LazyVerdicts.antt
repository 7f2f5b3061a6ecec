-- Lazy verdicts over any layout do not have the property of demand 3, given payloads that tell them apart. Assumes nothing.
use Prim.Native.Nat.{ℕ}
use native.Mathlib.Omega.{arith}
use mathlib.Core.List.{List, [], ◌∷◌}
use mathlib.Core.Logic.{◌≢◌}
use mathlib.Core.Option.{Option, some, none, none-ne-some}
use mathlib.Core.Path.{◌≡◌, refl, sym, ◌∙◌, ap}
use Rattle.sieve.specs.declared.Break.{Break}
use Rattle.sieve.specs.declared.Break.TheVariants.{Lf, CrLf}
use Rattle.sieve.specs.Bytes.{Bytes}
use Rattle.sieve.specs.Lines.{Bill, bill_of, written}
use Rattle.sieve.specs.Rules.{Layout}
use Rattle.sieve.specs.Verdict.{Refusal, under, Verdict, accepted, refused, findings, first, decided, verdict}
use Rattle.sieve.specs.Breaks.{no_bytes}
use Rattle.sieve.specs.Demand.{AcceptsExactly, RefusesEarliest, DemandThree}
use Rattle.sieve.proofs.Findings.{settled_accepts, verdict_is}
use Rattle.sieve.proofs.DemandThree.{accepts_same, refuses_same}

-- the last broken rule instead of the first
abbrev pub last : List (Option Refusal) → Option Refusal
last [] = none
last (o ∷ os) = elim (last os) [ some r ↦ some r | none ↦ o ]

abbrev pub last_broken : Layout → Bytes → Verdict
last_broken L p = decided (bill_of p) (last (findings L p))

-- always the same line count, or the same break
abbrev pub saying_count : ℕ → Verdict → Verdict
saying_count m (accepted n k) = accepted m k
saying_count m (refused r) = refused r

abbrev pub saying_break : Break → Verdict → Verdict
saying_break j (accepted n k) = accepted n j
saying_break j (refused r) = refused r

-- payloads that tell lazy verdicts apart
pub record Telling (L : Layout) : Type 0 where
  -- two that are accepted, one with LF and one with CR LF, whose counts differ
  pub with_lf : Bytes
  pub count_lf : ℕ
  pub lf : verdict L with_lf ≡ accepted count_lf Lf
  pub with_crlf : Bytes
  pub count_crlf : ℕ
  pub crlf : verdict L with_crlf ≡ accepted count_crlf CrLf
  pub counts_differ : count_lf ≢ count_crlf
  -- one that breaks two rules, which name different lines
  pub twice_broken : Bytes
  pub earlier : Refusal
  pub earliest : verdict L twice_broken ≡ refused earlier
  pub later : Refusal
  pub latest : last_broken L twice_broken ≡ refused later
  pub lines_differ : earlier.line ≢ later.line

-- verdicts are equal only if what they say is

clash : {n : ℕ} {k : Break} {r : Refusal} → accepted n k ≡ refused r → ⊥
clash h = let z : ◌≡◌ {A = ℕ} 0 1 = cc in omega arith

same_count : {n m : ℕ} {k j : Break} → accepted n k ≡ accepted m j → n ≡ m
same_count h = cc

same_break_lem : {n m : ℕ} {k j : Break} → accepted n k ≡ accepted m j → k ≡ j
same_break_lem h = cc

-- the last of a list is none exactly where the first is

last_none : (os : List (Option Refusal)) → last os ≡ none → first os ≡ none
unfolding first
last_none [] h = refl
last_none (o ∷ os) h = by_cases (last os) o refl (last_none os) h
  where
    by_cases : (l o : Option Refusal) → last os ≡ l → (last os ≡ none → first os ≡ none) → ◌≡◌ {A = Option Refusal} (elim l [ some r ↦ some r | none ↦ o ]) none → first (o ∷ os) ≡ none
    by_cases none none e ih h = ih e
    by_cases none (some r) e ih h = absurd (none-ne-some r (sym h))
    by_cases (some r) o e ih h = absurd (none-ne-some r (sym h))

none_last : (os : List (Option Refusal)) → first os ≡ none → last os ≡ none
unfolding first
none_last [] h = refl
none_last (none ∷ os) h = rw (none_last os h, last)
none_last (some r ∷ os) h = absurd (none-ne-some r (sym h))

settled_alike : {n : ℕ} {k : Break} (b : Bill) (o q : Option Refusal) → (o ≡ none → q ≡ none) → decided b o ≡ accepted n k → decided b q ≡ accepted n k
settled_alike b o q f h = let e = (settled_accepts b o h).0 in rw (f e) (rw e at h)

module _ (L : Layout) (D : DemandThree L (verdict L)) (T : Telling L) where
  -- what accepts exactly the bills, and is made of the verdict, leaves a verdict that accepts as it is
  must_leave : (f : Verdict → Verdict) → AcceptsExactly L (λ p. f (verdict L p)) → (p : Bytes) {n : ℕ} {k : Break} → verdict L p ≡ accepted n k → f (accepted n k) ≡ accepted n k
  must_leave f F p {n} {k} h = sym (ap f h) ∙ accepts_same L (verdict L) (λ q. f (verdict L q)) D.accepts F p n k h

  -- one that refuses everything
  pub not_refuse_all : (r : Refusal) → AcceptsExactly L (λ p. refused r) → ⊥
  not_refuse_all r F = clash (sym (must_leave (λ v. refused r) F T.with_lf T.lf))

  -- one that accepts everything, no bytes too
  pub not_accept_all : (n : ℕ) (k : Break) → AcceptsExactly L (λ p. accepted n k) → ⊥
  not_accept_all n k F =
      let (r, h) = D.refuses.refuses [] 0 (under 1 0) (no_bytes refl) in
      clash (sym (accepts_same L (λ p. accepted n k) (verdict L) F D.accepts [] n k refl) ∙ h)

  -- one that always says the same line count
  pub not_always_count : (m : ℕ) → AcceptsExactly L (λ p. saying_count m (verdict L p)) → ⊥
  not_always_count m F = T.counts_differ (sym (same_count (must_leave (saying_count m) F T.with_lf T.lf)) ∙ same_count (must_leave (saying_count m) F T.with_crlf T.crlf))

  -- one that always answers the same break
  pub not_always_break : (j : Break) → AcceptsExactly L (λ p. saying_break j (verdict L p)) → ⊥
  not_always_break j F =
      let e = sym (same_break_lem (must_leave (saying_break j) F T.with_lf T.lf)) ∙ same_break_lem (must_leave (saying_break j) F T.with_crlf T.crlf) in
      let z : ◌≡◌ {A = ℕ} 0 1 = cc in omega arith

  -- one that accepts exactly the bills, and gives the last broken rule instead of the earliest

  pub last_accepts_exactly : AcceptsExactly L (last_broken L)
  last_accepts_exactly =
      let A = D.accepts in
      record {
        sound = λ p n k h. A.sound p n k (verdict_is L p ∙ settled_alike (bill_of p) (last (findings L p)) (first (findings L p)) (last_none (findings L p)) h);
        complete = λ b h.
            let p = written b in
            settled_alike (bill_of p) (first (findings L p)) (last (findings L p)) (none_last (findings L p)) (sym (verdict_is L p) ∙ A.complete b h);
        unique = A.unique;
      }

  pub not_a_later_rule : RefusesEarliest L (last_broken L) → ⊥
  not_a_later_rule F =
      let e = refuses_same L (verdict L) (last_broken L) D.refuses F T.twice_broken T.earlier T.later T.earliest T.latest in
      T.lines_differ (ap (λ r. r.line) e)
