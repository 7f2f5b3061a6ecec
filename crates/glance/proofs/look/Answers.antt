-- `glance::look` meets its contract: behind the fixed lines the rules of line 4 are asked of 21 bytes, and what stands after them. Assumes nothing.
use Prim.Native.Nat.{◌+◌, ◌-◌}
use native.Mathlib.Omega.{arith}
use mathlib.Core.Bool.{cond, ◌&&◌}
use mathlib.Core.Path.{◌≡◌, sym, ap, ◌∙◌}
use lib.Seq.{drop-drop}
use Rattle.std.specs.Prelude.{None}
use Rattle.glance.specs.Glance.{look, known, account_as}
use Rattle.glance.proofs.Begun.{start_within, short_unknown, look_from_lem}
use Rattle.glance.proofs.Measured.{too_short, answer}
use Rattle.glance.proofs.look.Goals as goal
use Rattle.glance.proofs.look.Goals.{After-ends_at}

pub returns-then-head-lt-FEWEST : goal.returns-then-head-lt-FEWEST
returns-then-head-lt-FEWEST c = sym (ap account_as (short_unknown c.args.head.now c.args.more c.if-head-lt-FEWEST.true))

pub returns-in_err-start : goal.returns-in_err-start
returns-in_err-start c = c.from_residual.ensures ∙ sym (ap account_as (look_from_lem c.args.head.now c.args.more (sym c.in_err-start.ensures)))

pub overflow_add-end : goal.overflow_add-end
overflow_add-end c = omega (arith, start_within c.args.head.now c.in_ok-start.ensures.0)

pub returns-then-head-end : goal.returns-then-head-end
returns-then-head-end c =
    let a = c.args in
    sym (ap account_as (look_from_lem a.head.now a.more c.in_ok-start.ensures.0 ∙ too_short a.head.now c.in_ok-start.start a.more c.if-head-end.true))

-- what the code says, once the 21 bytes and what stands after them were looked at
said : (c : After-ends_at) → let at = c.in_ok-start.start in let a = c.args in
    cond (c.is_ok.result && c.ends_at.result) (known at 21) None ≡ account_as (look a.head.now a.more)
said c =
    let found = c.account-found in
    let at = c.in_ok-start.start in
    let a = c.args in
    let s = a.head.now in
    let size : at + 21 - at ≡ 21 = omega arith in
    rw c.is_ok.ensures.value (answer s at a.more found.result c.ends_at.result (rw size at found.ensures) (c.ends_at.ensures ∙ rw (drop-drop 21 at s)) (λ none. omega (arith, c.in_ok-start.ensures.1)))
    ∙ sym (ap account_as (look_from_lem s a.more c.in_ok-start.ensures.0))

pub returns-then-is_ok-ends_at : goal.returns-then-is_ok-ends_at
returns-then-is_ok-ends_at c = rw c.if-is_ok-ends_at.true at (said (goal.at.returns-then-is_ok-ends_at c).After-ends_at)

pub returns : goal.returns
returns c = rw c.if-is_ok-ends_at.false at (said (goal.at.returns c).After-ends_at)
