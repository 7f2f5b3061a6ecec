-- `mod97::checks97_with` meets its contract: the first four characters are read behind the remainder of what follows them. Assumes nothing.
use Prim.Native.Nat.{◌^◌, ◌<◌}
use native.Mathlib.Omega.{arith}
use Rattle.mod97.proofs.FirstFour.{has_four, head_small, checks_with}
use Rattle.mod97.proofs.checks97_with.Goals as goal
use Rattle.mod97.proofs.checks97_with.Goals.{After-wide_digit-2}

-- the letters are few
few : (c : After-wide_digit-2) → c.args.letters < 100 ^ 2
few c = rw c.requires.letters_value.0 (head_small (has_four c.args.s.now c.requires.in_bounds))

pub overflow_mul-result-2 : goal.overflow_mul-result-2
overflow_mul-result-2 c = omega (arith, few (goal.at.overflow_mul-result-2 c).After-wide_digit-2)

pub overflow_add-result : goal.overflow_add-result
overflow_add-result c = omega (arith, few (goal.at.overflow_add-result c).After-wide_digit-2)

pub overflow_add-result-2 : goal.overflow_add-result-2
overflow_add-result-2 c = omega (arith, few (goal.at.overflow_add-result-2 c).After-wide_digit-2)

pub returns : goal.returns
returns c =
    let a = c.args in
    let r = c.requires in
    rw (c.wide_digit.ensures.0, c.wide_digit-2.ensures.0)
    (checks_with a.s.now a.letters a.rest r.in_bounds r.s_value.0 r.s_value.1 r.letters_value.0 r.letters_value.1)
