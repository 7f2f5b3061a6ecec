-- The list of rules of an edition, in three parts; what is found in a line with a number; an account that is one; a reference by its type. Assumes nothing.
use Rattle.std.specs.Prelude.{ℕ, Bool, true, ◌&&◌, not, ◌≡◌, Result, ⊤}
use mathlib.Core.List.{List, [], ◌∷◌, flatten}
use Rattle.std.specs.Borrow.{Bor}
use denote.Triple.Both.{Both}
use Rattle.sieve.specs.declared.Fault.{Fault}
use Rattle.sieve.specs.declared.Fault.TheVariants.{Missing, BadForm, BadCheckDigits}
use Rattle.sieve.specs.Bytes.{Bytes}
use Rattle.sieve.specs.Kinds.{filled, formed, checked}
use Rattle.sieve.specs.Lines.{cut, lines_of}
use Rattle.sieve.specs.Rules.{Rule, no_text, is_empty, has, always, never}
use Rattle.swiss.specs.declared.Edition.{Edition}
use Rattle.swiss.specs.Forms.{iban}
use Rattle.swiss.specs.Swiss.{header, account, address, reserved, payment, reference, information, procedures, pairing, together}
use Rattle.findings.specs.Findings.{unless, and_then}

-- what is found in a line that must be filled, of its form and with right check digits
abbrev pub number_found : Bytes → ℕ → Bool → Bool → Result ⊤ Fault
number_found l n form check = and_then (unless (no_text l) (Missing n)) (and_then (unless (not (no_text l) && not form) (BadForm n)) (unless (not check) (BadCheckDigits n)))

-- line 4 of a payload is an IBAN
abbrev pub HasAccount : Bytes → Type 0
HasAccount p = has 4 iban (lines_of (cut p)) ≡ true

-- the reference on line 29, of a form and with check digits
abbrev pub reference_of : (Bytes → Bool) → (Bytes → Bool) → List Rule
reference_of form check = filled 29 always ∷ formed 29 (has 29 form) ∷ checked 29 (has 29 check) ∷ []

-- lines 30 to 32, of what a call is lent
abbrev pub information_lines : (message trailer billing : Both (Bor Bytes) (Bor Bytes)) → List Bytes
information_lines message trailer billing = message.entry.now ∷ trailer.entry.now ∷ billing.entry.now ∷ []

-- lines 1 to 11
unfoldable pub front : Edition → List Rule
front e = flatten (header ∷ account ∷ address e 5 never ∷ [])

-- lines 12 to 27
unfoldable pub middle : Edition → List Rule
middle e = flatten (reserved ∷ payment ∷ address e 21 (is_empty 21) ∷ [])

-- lines 28 to 34, and those that go together
unfoldable pub back : Edition → List Rule
back e = flatten (reference ∷ information ∷ procedures ∷ (pairing e ∷ together ∷ []) ∷ [])
