-- The amount of a bill that 2.2 accepts: what line 19 and line 20 then are, what the bill adds to each sum, and how much at most. Assumes nothing.
use Prim.Native.Nat.{ℕ, ◌≤◌}
use Prim.Native.String.{String}
use native.Mathlib.Omega.{arith}
use mathlib.Core.Bool.{Bool, true, false, ◌&&◌, ◌||◌, not, true≢false}
use mathlib.Core.List.{List, [], ◌∷◌, map, flatten}
use mathlib.Core.Logic.{◌≢◌, ◌⊎◌, inl, inr, ⊎_elim}
use mathlib.Core.Option.{none}
use mathlib.Core.Path.{◌≡◌, refl, sym, ap, ◌∙◌}
use lib.Dec.{eqb, lit≤}
use lib.ListN.{length, get_or}
use borrow.Author.Tests.{ltb-false, eqb-true, ne_eqb}
use Rattle.sieve.specs.declared.Break.{Break}
use Rattle.sieve.specs.Bytes.{Bytes, ascii, same}
use Rattle.sieve.specs.Lines.{cut, lines_of, bill_of}
use Rattle.sieve.specs.Mod97.{numeral}
use Rattle.sieve.specs.Rules.{line, is, no_text}
use Rattle.sieve.specs.Verdict.{Refusal, Verdict, accepted, refused, about_lines, findings, first, verdict}
use Rattle.sieve.proofs.Bounds.{same_is, case_at_most}
use Rattle.sieve.proofs.Findings.{found_none, each_none, settled_accepts, verdict_is, clear}
use Rattle.swiss.specs.declared.Edition.TheVariants.{V22}
use Rattle.swiss.specs.Cents.{cents}
use Rattle.swiss.specs.Forms.{amount}
use Rattle.swiss.specs.Limits.{francs, euros}
use Rattle.swiss.specs.Swiss.{rules, swiss_in}
use Rattle.swiss.proofs.Amounts.{Due, amount_due}
use Rattle.season.specs.declared.Outcome.{Outcome}
use Rattle.season.specs.Season.{cents_in, adds, AmountLine, IsOutcome}

abbrev pub most_cents : ℕ
most_cents = 99999999999

-- an empty line stands for nothing
pub nothing_due_lem : (s : Bytes) → length s ≡ 0 → cents s ≡ 0
unfolding cents numeral
nothing_due_lem [] h = refl
nothing_due_lem (x ∷ s) h = absurd (omega arith)

-- a line that is not empty and may be an amount is one
is_amount : (s : Bytes) (a : Bool) → length s ≢ 0 → (not (no_text s) && not a) ≡ false → a ≡ true
is_amount s true h k = refl
is_amount s false h k = absurd (true≢false (rw (ne_eqb (length s) 0 h) at k))

pub line_due : (s : Bytes) → AmountLine s → length s ≢ 0 → Due s
line_due s l h = amount_due s (is_amount s (amount s) h l.formed) l.short

line_most_lem : (s : Bytes) → AmountLine s → cents s ≤ most_cents
line_most_lem s l = by_cases (eqb (length s) 0) refl
  where
    by_cases : (b : Bool) → eqb (length s) 0 ≡ b → cents s ≤ most_cents
    by_cases true e = rw (nothing_due_lem s (eqb-true _ _ e)) (omega arith)
    by_cases false e = (line_due s l (λ z. true≢false (sym (rw z) ∙ e))).most

-- a bill that 2.2 accepts

module _ (p : Bytes) {n : ℕ} {k : Break} (h : verdict (swiss_in V22) p ≡ accepted n k) where
  abbrev ls : List Bytes
  ls = lines_of (cut p)

  found_at : (i : ℕ) → get_or (map (about_lines ls) (rules V22)) i none ≡ none
  found_at =
      let nothing = (settled_accepts (bill_of p) (first (findings (swiss_in V22) p)) (sym (verdict_is (swiss_in V22) p) ∙ h)).0 in
      each_none (map (about_lines ls) (rules V22)) (clear (swiss_in V22) p nothing).kept

  pub accepted_line : AmountLine (line 19 ls)
  unfolding rules flatten
  accepted_line = record { short = ltb-false _ _ (found_none _ _ (found_at 32)); formed = found_none _ _ (found_at 33) }

  -- its currency is CHF or EUR
  either_currency : (is 20 francs ls || is 20 euros ls) ≡ true
  unfolding rules flatten
  either_currency = by_cases (no_text (line 20 ls)) (is 20 francs ls || is 20 euros ls) (found_none _ _ (found_at 34)) (found_none _ _ (found_at 35))
    where
      by_cases : (a b : Bool) → a ≡ false → (not a && not b) ≡ false → b ≡ true
      by_cases true b x y = absurd (true≢false x)
      by_cases false true x y = refl
      by_cases false false x y = absurd (true≢false y)

  chosen : (a b : Bool) → is 20 francs ls ≡ a → is 20 euros ls ≡ b → (a || b) ≡ true → (line 20 ls ≡ ascii francs) ⊎ (line 20 ls ≡ ascii euros)
  chosen true b x y h = inl (same_is (line 20 ls) (ascii francs) x)
  chosen false true x y h = inr (same_is (line 20 ls) (ascii euros) y)
  chosen false false x y h = absurd (true≢false (sym h))

  -- so its first letter is there, and tells which

  pub currency : (line 20 ls ≡ ascii francs) ⊎ (line 20 ls ≡ ascii euros)
  currency = chosen (is 20 francs ls) (is 20 euros ls) refl refl either_currency

  pub first_letter : 1 ≤ length (line 20 ls)
  first_letter = ⊎_elim (λ e. rw e (lit≤ tt)) (λ e. rw e (lit≤ tt)) currency

  pub in_francs : get_or (line 20 ls) 0 0 ≡ 67 → is 20 francs ls ≡ true
  in_francs h = ⊎_elim (λ e. rw e) (λ e. let z : ◌≡◌ {A = ℕ} 69 67 = sym (ap (λ (l : Bytes). get_or l 0 0) e) ∙ h in absurd (omega arith)) currency

  pub in_euros : get_or (line 20 ls) 0 0 ≢ 67 → is 20 francs ls ≡ false
  in_euros h = ⊎_elim (λ e. absurd (h (ap (λ (l : Bytes). get_or l 0 0) e))) (λ e. rw e) currency

  pub adds_its : (currency : String) → adds currency p ≡ cents_in currency ls
  unfolding adds
  adds_its currency = rw h

  pub francs_added : is 20 francs ls ≡ true → (adds francs p ≡ cents (line 19 ls)) × (adds euros p ≡ 0)
  francs_added e =
      let other : is 20 euros ls ≡ false = ap (λ (l : Bytes). same l (ascii euros)) (same_is (line 20 ls) (ascii francs) e) in
      (adds_its francs ∙ rw e, adds_its euros ∙ rw other)

  pub euros_added : is 20 francs ls ≡ false → (adds francs p ≡ 0) × (adds euros p ≡ cents (line 19 ls))
  euros_added e = let other : is 20 euros ls ≡ true = rw e at either_currency in (adds_its francs ∙ rw e, adds_its euros ∙ rw other)

-- a bill that 2.2 refuses adds nothing
pub nothing_added : (p : Bytes) {r : Refusal} → verdict (swiss_in V22) p ≡ refused r → (currency : String) → adds currency p ≡ 0
unfolding adds
nothing_added p h currency = rw h

-- no bill adds more than the greatest amount
pub adds_most : (currency : String) (p : Bytes) → adds currency p ≤ most_cents
adds_most currency p = by_cases (verdict (swiss_in V22) p) refl
  where
    by_cases : (v : Verdict) → verdict (swiss_in V22) p ≡ v → adds currency p ≤ most_cents
    by_cases (refused r) e = rw (nothing_added p e currency) (omega arith)
    by_cases (accepted n k) e = rw (adds_its p e currency) (case_at_most most_cents (is 20 currency (lines_of (cut p))) (λ t. line_most_lem _ (accepted_line p e)) (omega arith))

-- nor is more told of it
pub outcome_most : {p : Bytes} {differs : Bool} {o : Outcome} → IsOutcome p differs o → (o.francs ≤ most_cents) × (o.euros ≤ most_cents)
outcome_most {p} h = (rw h.in_francs (adds_most francs p), rw h.in_euros (adds_most euros p))
