-- What is found first, one finding after another. Assumes nothing.
use Prim.Native.Nat.{◌<◌}
use native.Mathlib.Omega.{arith}
use mathlib.Core.List.{List, [], ◌∷◌, ◌++◌}
use mathlib.Core.Option.{Option, some, none}
use mathlib.Core.Path.{◌≡◌, refl, ap, ◌∙◌}
use Rattle.sieve.specs.Verdict.{Refusal, first}

-- what is found first in two lists
pub first_append : (os ps : List (Option Refusal)) → first (first os ∷ ps) ≡ first (os ++ ps)
unfolding first
first_append [] ps = refl
first_append (none ∷ os) ps = first_append os ps
first_append (some r ∷ os) ps = refl

-- what is found hangs on these findings alone: those before them are none
abbrev pub Hangs : Option Refusal → List (Option Refusal) → Type 0
Hangs found os = found ≡ first os

-- a finding that is none is passed, and one that is not settles what is found
module _ {found o : Option Refusal} (os : List (Option Refusal)) (h : Hangs found (o ∷ os)) where
  pub passed : o ≡ none → Hangs found os
  unfolding first
  passed e = h ∙ rw (e, first)

  pub stopped : {r : Refusal} → o ≡ some r → found ≡ some r
  unfolding first
  stopped e = h ∙ rw (e, first)

-- one finding alone
pub alone : (o : Option Refusal) → first (o ∷ []) ≡ o
unfolding first
alone none = refl
alone (some r) = refl

-- what is found first is the first finding; or that is none, and it is found among the others
pub now_or_later : {P : Type 0} {r : Refusal} (o : Option Refusal) (os : List (Option Refusal)) → (o ≡ some r → P) → (o ≡ none → first os ≡ some r → P) → first (o ∷ os) ≡ some r → P
unfolding first
now_or_later none os now later h = later refl h
now_or_later (some q) os now later h = now h

-- refusals of two numbers are two
pub numbers_apart : {A : Type 0} (q r : Refusal) → q ≡ r → q.number < r.number → A
numbers_apart q r e h = let same : q.number ≡ r.number = ap (λ (s : Refusal). s.number) e in absurd (omega arith)
