-- The verdict refuses under the earliest rule that a payload breaks, and refuses every payload that breaks one. Assumes nothing.
use Prim.Native.Nat.{ℕ, zero, suc, ◌+◌, ◌<◌}
use native.Mathlib.Nat.{suc-ne-zero, zero-add}
use native.Mathlib.Omega.{arith}
use mathlib.Core.Bool.{Bool, true, false, false≢true, not, ◌&&◌, and-false}
use mathlib.Core.List.{List, [], ◌∷◌, ◌++◌, map, Memᴰ}
use mathlib.Core.Logic.{◌≢◌, ◌⊎◌, inl, inr, ⊎_elim}
use mathlib.Core.Option.{some, none, none-ne-some, some-injective, map-eq-some_iff}
use mathlib.Core.Path.{◌≡◌, refl, sym, ◌∙◌, ap, subst, subst₂}
use lib.Dec.{leb}
use lib.ListN.{length, get_or, take, get_elem?}
use lib.Seq.{take_at}
use borrow.Author.Tests.{eqb-true, eq-eqb, ltb-true, lt-ltb, leb-false, lt-leb}
use Rattle.sieve.specs.declared.Break.{Break}
use Rattle.sieve.specs.Bytes.{Bytes, within, first_such}
use Rattle.sieve.specs.Lines.{cut, lines_of, breaks_of, kind, same_break, bill_of}
use Rattle.sieve.specs.Characters.{passes, walk, bad_place, line_feeds}
use Rattle.sieve.specs.Rules.{Rule, Layout}
use Rattle.sieve.specs.Verdict.{Refusal, under, under_at, refused, bad_character_refusal, mixed_breaks_refusal, line_count_refusal, about_lines, findings, verdict}
use Rattle.sieve.specs.Breaks.{Passed, Breaks, no_bytes, too_many_bytes, bad_character, mixed_breaks, too_few_lines, too_many_lines, a_line_rule}
use Rattle.sieve.specs.Demand.{Earliest, RefusesEarliest}
use Rattle.sieve.proofs.Likeness.{like, like_itself, unlike, unlike_found}
use Rattle.sieve.proofs.Walking.{walk_passed, walk_stops, stops}
use Rattle.sieve.proofs.Findings.{found_some, settled_refuses, verdict_is, first_at, found_first, such_at, at_such}

no_length : (p : Bytes) → length p ≡ 0 → p ≡ []
no_length [] h = refl
no_length (x ∷ p) h = absurd (suc-ne-zero _ h)

outside : (lo hi n : ℕ) → not (within lo hi n) ≡ true → (n < lo) ⊎ (hi < n)
outside lo hi n = by_cases (leb lo n) (leb n hi) refl refl
  where
    by_cases : (a b : Bool) → leb lo n ≡ a → leb n hi ≡ b → not (a && b) ≡ true → (n < lo) ⊎ (hi < n)
    by_cases false b e f h = inl (leb-false lo n e)
    by_cases true false e f h = inr (leb-false n hi f)
    by_cases true true e f h = absurd (false≢true h)

run_in_front : (a s p : Bytes) (n : ℕ) → a ++ s ≡ p → length a ≡ n → take n p ≡ a
run_in_front a s p n e h = ap (take n) (sym e) ∙ take_at a s n h

five_more : (j : ℕ) → 5 + j ≡ suc (suc (suc (suc (suc j))))
five_more j = omega arith

-- a rule about lines is found broken exactly where it is broken

rule_found : (ls : List Bytes) (rs : List Rule) (j : ℕ) (r : Refusal) → get_or (map (about_lines ls) rs) j none ≡ some r
    → (q : Rule) × (get_elem? rs j ≡ some q) × (q.broken ls ≡ true) × (under q.number q.line ≡ r)
rule_found ls [] j r h = absurd (none-ne-some r h)
rule_found ls (q ∷ rs) zero r h = let (t, e) = found_some (q.broken ls) _ r h in (q, refl, t, e)
rule_found ls (q ∷ rs) (suc j) r h = rule_found ls rs j r h

rule_broken : (ls : List Bytes) (rs : List Rule) (j : ℕ) (q : Rule) → get_elem? rs j ≡ some q → q.broken ls ≡ true
    → get_or (map (about_lines ls) rs) j none ≡ some (under q.number q.line)
rule_broken ls [] j q g t = absurd (none-ne-some q g)
rule_broken ls (r ∷ rs) zero q g t = let e : r ≡ q = cc in rw (e, t)
rule_broken ls (r ∷ rs) (suc j) q g t = rule_broken ls rs j q g t

module _ (L : Layout) (p : Bytes) where
  abbrev ls : List Bytes
  ls = lines_of (cut p)

  abbrev ks : List Break
  ks = breaks_of (cut p)

  -- what is found is broken

  character_found : (r : Refusal) → bad_character_refusal L p ls ≡ some r → Breaks L p 2 r
  unfolding bad_place
  character_found r h =
      let (at, e, f) = (map-eq-some_iff _ _).0 h in
      let s = stops (L.width ls) 0 p 0 at e in
      let whole : s.run ++ s.bad ≡ p = rw (no_length s.skipped s.skips) at s.whole in
      let place : length s.run ≡ at = omega (arith, s.place, s.skips) in
      let says : under_at 3 (1 + line_feeds s.run) (length s.run) ≡ r =
      ap (λ (t : Bytes). under_at 3 (1 + line_feeds t) (length s.run)) (sym (run_in_front s.run s.bad p at whole place)) ∙ ap (under_at 3 (1 + line_feeds (take at p))) place ∙ f in
      subst (Breaks L p 2) says (bad_character s.run s.bad whole s.passed s.more s.begins_none)

  break_found : (r : Refusal) → mixed_breaks_refusal ks ≡ some r → Breaks L p 3 r
  break_found r h =
      let (n, e, f) = (map-eq-some_iff _ _).0 h in
      let s = such_at (λ k. not (same_break (kind ks) k)) 1 ks n e in
      let place : suc (length s.before) ≡ n = omega (arith, s.place) in
      subst (Breaks L p 3) (ap (under 4) place ∙ f)
      (mixed_breaks s.before s.after s.such s.whole (λ k m. like (kind ks) k (s.none_before k m)) (unlike (kind ks) s.such s.passes))

  count_found : (r : Refusal) → line_count_refusal L ls ≡ some r → Breaks L p 4 r
  count_found r h = let (t, e) = found_some _ _ r h in subst (Breaks L p 4) e (⊎_elim too_few_lines too_many_lines (outside L.fewest_lines L.most_lines (length ls) t))

  found_broken : (i : ℕ) (r : Refusal) → get_or (findings L p) i none ≡ some r → Breaks L p i r
  unfolding findings
  found_broken zero r h = let (t, e) = found_some _ _ r h in subst (Breaks L p 0) e (no_bytes (no_length p (eqb-true _ _ t)))
  found_broken (suc zero) r h = let (t, e) = found_some _ _ r h in subst (Breaks L p 1) e (too_many_bytes (ltb-true _ _ t))
  found_broken (suc (suc zero)) r h = character_found r h
  found_broken (suc (suc (suc zero))) r h = break_found r h
  found_broken (suc (suc (suc (suc zero)))) r h = count_found r h
  found_broken (suc (suc (suc (suc (suc j))))) r h = let (q, g, t, e) = rule_found ls L.rules j r h in subst₂ (Breaks L p) (five_more j) e (a_line_rule j q g t)

  -- and what is broken is found

  character_broken : (a s : Bytes) → a ++ s ≡ p → Passed (L.width ls) s a → s ≢ [] → passes (L.width ls) s ≡ 0 → bad_character_refusal L p ls ≡ some (under_at 3 (1 + line_feeds a) (length a))
  unfolding bad_place
  character_broken a s e q m b =
      let w = L.width ls in
      let place : walk w 0 p 0 ≡ some (length a) = ap (λ (t : Bytes). walk w 0 t 0) (sym e) ∙ walk_passed q 0 ∙ walk_stops w s (0 + length a) m b ∙ ap some (zero-add (length a)) in
      rw (place, run_in_front a s p (length a) e refl)

  break_broken : (is js : List Break) (j : Break) → ks ≡ is ++ (j ∷ js) → ((k : Break) → Memᴰ k is → k ≡ kind ks) → j ≢ kind ks → mixed_breaks_refusal ks ≡ some (under 4 (suc (length is)))
  break_broken is js j e h u =
      let test : Break → Bool = λ k. not (same_break (kind ks) k) in
      let n : first_such test 1 ks ≡ some (1 + length is) = ap (first_such test 1) e ∙ at_such test 1 is j js (λ k m. rw (h k m) (like_itself (kind ks))) (unlike_found (kind ks) j u) in
      rw n (ap (λ (i : ℕ). some (under 4 i)) (omega arith))

  broken_found : {i : ℕ} {r : Refusal} → Breaks L p i r → get_or (findings L p) i none ≡ some r
  unfolding findings
  broken_found (no_bytes e) = rw (eq-eqb (length p) 0 (ap length e))
  broken_found (too_many_bytes h) = rw (lt-ltb _ _ h)
  broken_found (bad_character a s e q m b) = character_broken a s e q m b
  broken_found (mixed_breaks is js j e h u) = break_broken is js j e h u
  broken_found (too_few_lines h) = rw (lt-leb L.fewest_lines _ h)
  broken_found (too_many_lines h) = rw (lt-leb (length ls) L.most_lines h, and-false)
  broken_found (a_line_rule j q g t) = rw (five_more j) (rule_broken ls L.rules j q g t)

  -- a rule says one thing of a payload that breaks it
  pub breaks_one : {i : ℕ} {q r : Refusal} → Breaks L p i q → Breaks L p i r → q ≡ r
  breaks_one a b = some-injective _ _ (sym (broken_found a) ∙ broken_found b)

  -- the verdict's refusal is the first that is found

  pub refused_earliest : (r : Refusal) → verdict L p ≡ refused r → Earliest L p r
  refused_earliest r h =
      let f = first_at (findings L p) r (settled_refuses (bill_of p) _ r (sym (verdict_is L p) ∙ h)) in
      record { position = f.at; breaks = found_broken f.at r f.is; before_all = λ i q b. f.before_all i q (broken_found b) }

  pub broken_refused : (i : ℕ) (q : Refusal) → Breaks L p i q → (r : Refusal) × (verdict L p ≡ refused r)
  broken_refused i q b = let (r, e) = found_first (findings L p) i q (broken_found b) in (r, verdict_is L p ∙ rw e)

pub refuses_earliest : (L : Layout) → RefusesEarliest L (verdict L)
refuses_earliest L = record { earliest = refused_earliest L; refuses = broken_refused L }
