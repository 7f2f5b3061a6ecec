-- Worked examples of what every layout shares, which the prover computes: check digits, and lengths in characters. Assumes nothing.
use Rattle.std.specs.Prelude.{Bool, ◌&&◌, not, [], ◌∷◌, T}
use Rattle.sieve.specs.Bytes.{Bytes, ascii}
use Rattle.sieve.specs.Mod97.{numeral, remainder97, checks97}
use Rattle.sieve.specs.Mod10.{carry, check_digit, checks10}
use Rattle.sieve.specs.Characters.{characters}
use Rattle.sieve.specs.Kinds.{at_most}

-- two characters in four bytes
abbrev two_umlauts : Bytes
two_umlauts = 0xC3 ∷ 0xBC ∷ 0xC3 ∷ 0xBC ∷ []

-- an IBAN and creditor references, one in small letters; of pairs that leave the remainder 1 alike the one that is due; QR references; a line of at most two characters
abbrev worked : Bool
worked =
    checks97 (ascii "CH5800791123000889012") && not (checks97 (ascii "CH5800791123000889013"))
    && checks97 (ascii "RF18539007547034") && checks97 (ascii "RF68AB2G5") && checks97 (ascii "RF68ab2g5")
    && checks97 (ascii "RF9772") && not (checks97 (ascii "RF0072")) && checks97 (ascii "RF9854") && not (checks97 (ascii "RF0154"))
    && checks97 (ascii "RF0236") && not (checks97 (ascii "RF9936"))
    && checks10 (ascii "210000000003139471430009017") && not (checks10 (ascii "123456789098765432101234567"))
    && not ((at_most 2 1).broken (two_umlauts ∷ [])) && (at_most 1 1).broken (two_umlauts ∷ [])

pub the_worked_examples : T worked
unfolding numeral remainder97 carry check_digit characters
the_worked_examples = tt
