-- `glance::fourth_start` meets its contract: text after text, until one is not there. Assumes nothing.
use native.Mathlib.Omega.{arith}
use lib.ListN.{drop}
use borrow.Author.Tests.{ne_eqb}
use Rattle.sieve.specs.Bytes.{ascii}
use Rattle.swiss.specs.Limits.{qr_type, version}
use Rattle.glance.specs.FixedLines.{fourth_start}
use Rattle.glance.proofs.Fronts.{not_far}
use Rattle.glance.proofs.fourth_start.Goals as goal

pub returns-in_err-second : goal.returns-in_err-second
unfolding fourth_start
returns-in_err-second c = rw c.from_residual.ensures (rw c.in_err-second.ensures)

pub gone_past-requires-2 : goal.gone_past-requires-2
gone_past-requires-2 c = omega (arith, not_far (ascii qr_type) 0 c.args.head.now, c.in_ok-second.ensures.0)

pub returns-in_err-third : goal.returns-in_err-third
unfolding fourth_start
returns-in_err-third c =
    let (second, some) = c.in_ok-second.ensures in
    rw c.from_residual-in_err-third.ensures (rw (← second, ne_eqb c.in_ok-second.second 0 (λ e. omega arith), c.in_err-third.ensures))

pub gone_past-requires-3 : goal.gone_past-requires-3
gone_past-requires-3 c =
    let s = c.args.head.now in
    let second = c.in_ok-second.second in
    omega (arith, not_far (ascii qr_type) 0 s, c.in_ok-second.ensures.0, not_far (ascii version) second (drop second s), c.in_ok-third.ensures.0)

pub returns : goal.returns
unfolding fourth_start
returns c =
    let (second, some) = c.in_ok-second.ensures in
    let (third, more) = c.in_ok-third.ensures in
    rw (← second, ne_eqb c.in_ok-second.second 0 (λ e. omega arith), ← third, ne_eqb c.in_ok-third.third 0 (λ e. omega arith)) c.gone_past-3.ensures
