-- The list of rules, group after group; the first group looks at no other lines than the four that it takes. Assumes nothing.
use mathlib.Core.List.{List, [], ◌∷◌, ◌++◌, flatten}
use mathlib.Core.Path.{◌≡◌, refl}
use Rattle.sieve.specs.Bytes.{Bytes}
use Rattle.sieve.specs.Rules.{line}
use Rattle.girocode.specs.Girocode.{header, receiver, payment, rules}
use Rattle.findings.specs.Findings.{and_then, finds}
use Rattle.findings.proofs.FirstFault.{finds_append}
use Rattle.giro_rules.specs.Parts.{back}

module _ (ls : List Bytes) where
  of_header : finds header ls ≡ finds header (line 1 ls ∷ line 2 ls ∷ line 3 ls ∷ line 4 ls ∷ [])
  unfolding finds
  of_header = refl

  pub of_all : finds rules ls ≡ and_then (finds header (line 1 ls ∷ line 2 ls ∷ line 3 ls ∷ line 4 ls ∷ [])) (and_then (finds receiver ls) (and_then (finds payment ls) (finds back ls)))
  unfolding rules flatten
  of_all = rw (finds_append ls header (receiver ++ payment ++ back), finds_append ls receiver (payment ++ back), finds_append ls payment back, of_header)
