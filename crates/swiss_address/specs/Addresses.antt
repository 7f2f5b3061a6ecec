-- What is found in a text; seven lines from line n on, an address that is there, of type S or K, and one that is not. Assumes nothing.
use Rattle.std.specs.Prelude.{ℕ, zero, suc, ◌+◌, Bool, ◌&&◌, List, [], ◌∷◌, ltb, Result, ⊤}
use Rattle.sieve.specs.declared.Fault.{Fault}
use Rattle.sieve.specs.declared.Fault.TheVariants.{Missing, TooLong}
use Rattle.sieve.specs.Bytes.{Bytes}
use Rattle.sieve.specs.Characters.{characters}
use Rattle.sieve.specs.Kinds.{empty, filled, at_most, formed}
use Rattle.sieve.specs.Rules.{Rule, no_text, is, has, always}
use Rattle.swiss.specs.Forms.{country}
use Rattle.swiss.specs.Limits.{name_most, street_most, house_number_most, address_line_most, postcode_most, town_most, structured}
use Rattle.findings.specs.Findings.{unless, and_then}

-- what is found in a line of at most so many characters, which is not empty when that is asked
abbrev pub text_found : Bytes → ℕ → Bool → ℕ → Result ⊤ Fault
text_found l n when most = and_then (unless (when && no_text l) (Missing n)) (unless (ltb most (characters l)) (TooLong n))

-- an address that is there, from line n on: its first four lines, and the other three
abbrev pub addressee : ℕ → List Rule
addressee n =
    filled n always ∷ formed n (is n structured)
    ∷ filled (n + 1) always ∷ at_most name_most (n + 1)
    ∷ at_most street_most (n + 2)
    ∷ at_most house_number_most (n + 3)
    ∷ []

abbrev pub locality : ℕ → List Rule
locality n =
    filled (n + 4) always ∷ at_most postcode_most (n + 4)
    ∷ filled (n + 5) always ∷ at_most town_most (n + 5)
    ∷ filled (n + 6) always ∷ formed (n + 6) (has (n + 6) country)
    ∷ []

-- behind the type K: name and two address lines; the country alone
abbrev pub address_lines : ℕ → List Rule
address_lines n =
    filled (n + 1) always ∷ at_most name_most (n + 1)
    ∷ at_most address_line_most (n + 2)
    ∷ filled (n + 3) always ∷ at_most address_line_most (n + 3)
    ∷ []

abbrev pub country_alone : ℕ → List Rule
country_alone n = empty (n + 4) always ∷ empty (n + 5) always ∷ filled (n + 6) always ∷ formed (n + 6) (has (n + 6) country) ∷ []

-- so many lines from line n on that must be empty; seven of them
unfoldable pub empty_from : ℕ → ℕ → List Rule
empty_from n zero = []
empty_from n (suc k) = empty n always ∷ empty_from (n + 1) k

abbrev pub vacant : ℕ → List Rule
vacant n = empty_from n 7
