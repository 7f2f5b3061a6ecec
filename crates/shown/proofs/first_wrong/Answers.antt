-- `shown::first_wrong` meets its contract: what was not found before is found among the lines from here on. Assumes nothing.
use Prim.Native.Nat.{◌+◌, ◌-◌, ◌*◌}
use native.Mathlib.Omega.{arith}
use mathlib.Core.Path.{◌≡◌, sym, ap, ◌∙◌}
use lib.ListN.{get_or, drop, length-take}
use borrow.Author.Tests.{eqb-true}
use Rattle.sieve.specs.Characters.{characters}
use Rattle.shown.specs.Shown.{wrong_as}
use Rattle.shown.proofs.Plain.{plain_part}
use Rattle.shown.proofs.FirstWrong.{line_at3, wrong_first, wrong_none, wrong_here, wrong_later}
use Rattle.shown.proofs.first_wrong.Goals as goal
use Rattle.shown.proofs.first_wrong.Goals.{After-counted-n}

-- the characters of line i + 1 were counted
line_counted : (c : After-counted-n)
    → let a = c.args in
    c.counted-n.result ≡ characters (line_at3 a.text.now a.list.now c.loop-i.i)
line_counted c =
    let a = c.args in
    let start = get_or a.list.now (3 * c.loop-i.i) 0 in
    let bytes = get_or a.list.now (3 * c.loop-i.i + 1) 0 in
    let e : start + bytes - start ≡ bytes = omega arith in
    rw e at c.counted-n.ensures

pub loop-i-init : goal.loop-i-init
loop-i-init c =
    let a = c.args in
    (λ e. sym c.characters.ensures ∙ eqb-true _ _ e, omega arith, wrong_first a.text.now a.list.now a.count)

pub counted-n-requires : goal.counted-n-requires
counted-n-requires c =
    let a = c.args in
    let start = get_or a.list.now (3 * c.loop-i.i) 0 in
    let bytes = get_or a.list.now (3 * c.loop-i.i + 1) 0 in
    let e : start + bytes - start ≡ bytes = omega arith in
    record {
      few = rw e (omega (arith, length-take bytes (drop start a.text.now), c.type_inv.list (3 * c.loop-i.i + 1)));
      one_each = λ plain. plain_part (start + bytes - start) start a.text.now (c.loop-i.invariant.0 plain);
    }

pub returns-then-n-told : goal.returns-then-n-told
returns-then-n-told c =
    let a = c.args in
    let h = c.loop-i-test.true in
    ap wrong_as
    (sym
    (c.loop-i.invariant.2
    ∙ wrong_here a.text.now a.list.now a.count c.loop-i.i h c.requires.size (λ e. omega (arith, c.if-n-told.true, line_counted (goal.at.returns-then-n-told c).After-counted-n))))

pub loop-i-preserved : goal.loop-i-preserved
loop-i-preserved c =
    let a = c.args in
    let h = c.loop-i-test.true in
    let e = sym (line_counted (goal.at.loop-i-preserved c).After-counted-n) ∙ c.if-n-told.false in
    (c.loop-i.invariant.0, omega arith, c.loop-i.invariant.2 ∙ wrong_later a.text.now a.list.now a.count c.loop-i.i h c.requires.size e)

pub returns : goal.returns
returns c =
    let a = c.args in
    ap wrong_as (sym (c.loop-i.invariant.2 ∙ wrong_none a.text.now a.list.now a.count c.loop-i.i c.loop-i-test.false))
