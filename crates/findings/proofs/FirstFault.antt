-- What rules find first, as the code answers it: group after group, and as the paper says it. Assumes nothing.
use Prim.Native.Nat.{ℕ, suc, ◌≤◌}
use native.Mathlib.Nat.{le_antisymm}
use native.Mathlib.Omega.{arith}
use mathlib.Core.Bool.{Bool, true, false, cond, ◌&&◌, ◌||◌, and-eq-true_iff}
use mathlib.Core.List.{List, [], ◌∷◌, ◌++◌, map}
use mathlib.Core.Option.{Option, some, none}
use mathlib.Core.Path.{◌≡◌, refl, sym, ap, ◌∙◌}
use lib.Dec.{eqb}
use borrow.Author.Tests.{eqb-true, eqb-false}
use Rattle.std.specs.Prelude.{Result, Ok, Err, ⊤}
use Rattle.sieve.specs.declared.Fault.{Fault}
use Rattle.sieve.specs.Bytes.{Bytes, within}
use Rattle.sieve.specs.Rules.{Rule}
use Rattle.sieve.specs.Verdict.{Refusal, under, about_lines, first}
use Rattle.sieve.specs.Paper.{paper_fault}
use Rattle.sieve.proofs.Bounds.{is_within}
use Rattle.findings.specs.Findings.{unless, and_then, finds, fault_of}

-- the numbers that rules about lines have
abbrev of_rule : ℕ → Bool
of_rule n = within 6 13 n || eqb n 17

-- rules so numbered
unfoldable pub numbered : List Rule → Bool
numbered [] = true
numbered (r ∷ rs) = of_rule r.number && numbered rs

-- the fault of such a number says that number and the line

says_to_13 : (n i : ℕ) → within 6 13 n ≡ true → paper_fault (fault_of n i) ≡ under n i
says_to_13 n i h =
    let (least, most) = is_within 6 13 n h in
    or 6 _ _ least (λ e. rw e) (λ a. or 7 _ _ a (λ e. rw e) (λ b. or 8 _ _ b (λ e. rw e) (λ c. or 9 _ _ c (λ e. rw e)
    (λ d. or 10 _ _ d (λ e. rw e) (λ f. or 11 _ _ f (λ e. rw e) (λ g. or 12 _ _ g (λ e. rw e) (λ j. let last : n ≡ 13 = le_antisymm most j in rw last)))))))
  where
    or : (k : ℕ) (f g : Fault) → k ≤ n → (n ≡ k → paper_fault f ≡ under n i) → (suc k ≤ n → paper_fault g ≡ under n i) → paper_fault (cond (eqb n k) f g) ≡ under n i
    or k f g least here there = by_cases (eqb n k) refl
      where
        by_cases : (b : Bool) → eqb n k ≡ b → paper_fault (cond b f g) ≡ under n i
        by_cases true e = here (eqb-true n k e)
        by_cases false e = there (let other = eqb-false n k e in omega (arith, other, least))

fault_says : (n i : ℕ) → of_rule n ≡ true → paper_fault (fault_of n i) ≡ under n i
fault_says n i h = by_cases (within 6 13 n) refl h
  where
    by_cases : (b : Bool) → within 6 13 n ≡ b → (b || eqb n 17) ≡ true → paper_fault (fault_of n i) ≡ under n i
    by_cases true e h = says_to_13 n i e
    by_cases false e h = let is-17 = eqb-true n 17 h in rw is-17

module _ (ls : List Bytes) where
  -- two groups, one after the other
  pub finds_append : (rs ss : List Rule) → finds (rs ++ ss) ls ≡ and_then (finds rs ls) (finds ss ls)
  unfolding finds
  finds_append [] ss = refl
  finds_append (r ∷ rs) ss = by_cases (unless (r.broken ls) (fault_of r.number r.line)) (finds_append rs ss)
    where
      by_cases : (a : Result ⊤ Fault) → finds (rs ++ ss) ls ≡ and_then (finds rs ls) (finds ss ls) → and_then a (finds (rs ++ ss) ls) ≡ and_then (and_then a (finds rs ls)) (finds ss ls)
      by_cases (Ok u) ih = ih
      by_cases (Err f) ih = refl

  -- what the paper says: nothing, or a refusal
  abbrev said : Result ⊤ Fault → Option Refusal
  said (Ok u) = none
  said (Err f) = some (paper_fault f)

  -- the code finds what the paper finds
  finds_first : (rs : List Rule) → numbered rs ≡ true → said (finds rs ls) ≡ first (map (about_lines ls) rs)
  unfolding finds numbered first
  finds_first [] h = refl
  finds_first (r ∷ rs) h = let (a, b) = (and-eq-true_iff _ _).0 h in by_cases (r.broken ls) refl a (finds_first rs b)
    where
      by_cases : (b : Bool) → r.broken ls ≡ b → of_rule r.number ≡ true → said (finds rs ls) ≡ first (map (about_lines ls) rs) → said (finds (r ∷ rs) ls) ≡ first (map (about_lines ls) (r ∷ rs))
      by_cases true e a ih = rw (e, finds, first) (ap some (fault_says r.number r.line a))
      by_cases false e a ih = rw (e, finds, first) ih

  pub found_nothing : (rs : List Rule) → numbered rs ≡ true → finds rs ls ≡ Ok tt → first (map (about_lines ls) rs) ≡ none
  found_nothing rs h e = sym (finds_first rs h) ∙ ap said e

  pub found_fault : (rs : List Rule) {f : Fault} → numbered rs ≡ true → finds rs ls ≡ Err f → first (map (about_lines ls) rs) ≡ some (paper_fault f)
  found_fault rs h e = sym (finds_first rs h) ∙ ap said e
