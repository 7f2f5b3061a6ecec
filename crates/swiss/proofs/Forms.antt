-- What a form says of a line's length. Assumes nothing.
use mathlib.Core.Bool.{true, and-eq-true_iff}
use mathlib.Core.Path.{◌≡◌}
use lib.Dec.{eqb}
use lib.ListN.{length}
use borrow.Author.Tests.{eqb-true}
use Rattle.sieve.specs.Bytes.{Bytes}
use Rattle.swiss.specs.Forms.{iban}

pub iban_length_lem : (l : Bytes) → iban l ≡ true → length l ≡ 21
iban_length_lem l h =
    let (a, _) = (and-eq-true_iff _ _).0 h in
    let (b, _) = (and-eq-true_iff _ _).0 a in
    let (c, _) = (and-eq-true_iff (eqb (length l) 21) _).0 b in
    eqb-true (length l) 21 c
