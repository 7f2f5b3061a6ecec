-- `swiss_forms::scor_right` meets its contract: the length, RF, and digits that are right. Assumes nothing.
use native.Mathlib.Omega.{arith}
use mathlib.Core.Bool.{true}
use mathlib.Core.Path.{◌≡◌, sym, ◌∙◌}
use lib.ListN.{take, drop}
use Rattle.sieve.specs.Bytes.{ascii, every}
use Rattle.sieve.specs.Letters.{digit}
use Rattle.sieve.specs.Mod97.{numeral}
use Rattle.sieve.proofs.Bounds.{same_is}
use Rattle.runs.proofs.Parts.{rest}
use Rattle.swiss_forms.proofs.Digits.{split}
use Rattle.swiss_forms.proofs.scor_right.Goals as goal
use Rattle.swiss_forms.proofs.scor_right.Goals.{Then-every}

-- digits alone are behind RF
all : (c : Then-every) → every digit (drop 2 c.args.s.now) ≡ true
all c = sym (rw (rest 2 c.args.s.now) at c.every.ensures) ∙ c.if-every.true

pub checks97_with-requires : goal.checks97_with-requires
unfolding numeral
checks97_with-requires c =
    let s = c.args.s.now in
    let rf = same_is (take 2 s) (ascii "RF") (sym c.same.ensures ∙ c.if-same.true) in
    record {
      in_bounds = omega arith;
      s_value = (rw rf, (split 2 s (all (goal.at.checks97_with-requires c).Then-every)).0);
      letters_value = (rw rf, rw (rest 4 s) at c.decimal.ensures);
    }
