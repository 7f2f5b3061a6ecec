-- `capi::qrbill_glance` meets its contract: an account stands in the first 37 bytes. Assumes nothing.
use native.Mathlib.Omega.{arith}
use mathlib.Core.Path.{◌≡◌, sym, ◌∙◌}
use Rattle.glance.specs.Glance.{glance, known, account_as}
use Rattle.glance.proofs.Promise.{stands_within}
use Rattle.capi.proofs.qrbill_glance.Goals as goal
use Rattle.capi.proofs.qrbill_glance.Goals.{In-Some}

account-is : (c : In-Some) → account_as (glance c.args.payload.now) ≡ known c.in-Some.place.start c.in-Some.place.bytes
account-is c = sym c.glance.ensures ∙ c.in-Some.is

pub overflow_cast-place : goal.overflow_cast-place
overflow_cast-place c = omega (arith, stands_within _ _ _ (account-is (goal.at.overflow_cast-place c).In-Some))

pub overflow_cast-place-in-Some : goal.overflow_cast-place-in-Some
overflow_cast-place-in-Some c = omega (arith, stands_within _ _ _ (account-is (goal.at.overflow_cast-place-in-Some c).In-Some))
