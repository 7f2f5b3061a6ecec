-- Which bytes are of a kind. Assumes nothing.
use Rattle.std.specs.Prelude.{ℕ, Bool, eqb}
use Rattle.sieve.specs.Latin.{in_one}
use Rattle.sieve.specs.Letters.{digit, capital, digit_or_capital, alphanumeric}
use Rattle.runs.specs.declared.Kind.{Kind}
use Rattle.runs.specs.declared.Kind.TheVariants.{Digit, Capital, DigitOrCapital, Alphanumeric, Zero, Plain}

abbrev pub of_kind : Kind → ℕ → Bool
of_kind Digit = digit
of_kind Capital = capital
of_kind DigitOrCapital = digit_or_capital
of_kind Alphanumeric = alphanumeric
of_kind Zero = λ x. eqb x 48
of_kind Plain = in_one
