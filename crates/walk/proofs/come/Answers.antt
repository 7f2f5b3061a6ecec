-- `walk::come` meets its contract. Both loops keep where the walk has come to. Assumes nothing.
use Prim.Native.Nat.{ℕ, ◌+◌, ◌-◌, ◌≤◌, ◌<◌}
use native.Mathlib.Omega.{arith}
use mathlib.Core.Path.{◌≡◌, refl, sym, ap, ◌∙◌}
use lib.Dec.{eqb}
use lib.ListN.{length, drop, get_or}
use mathlib.Core.Bool.{true, ◌&&◌}
use Rattle.runs.proofs.Parts.{rest}
use Rattle.sieve.specs.Latin.{in_one}
use Rattle.characters.specs.Runs.{run}
use Rattle.sieve.specs.Places.{walk_numbers}
use Rattle.walk.specs.declared.Behind.{Behind}
use Rattle.walk.specs.Here.{Here}
use Rattle.walk.specs.Walking.{noted, behind_one_passed}
use Rattle.walk.proofs.Stepping.{stops_here, ends_here}
use Rattle.walk.proofs.Coming.{begins, line_feed, carriage_return, no_break, a_break_passed, passable, run_passed, row_passed, no_row}
use Rattle.walk.proofs.come.Goals as goal
use Rattle.walk.proofs.come.Goals.{After-plain_run-at, Else-at-s, Else-n-eq0}

-- where a run of characters by themselves ends
behind : (p : After-plain_run-at) → Here p.args.set p.args.s.now p.loop-at.places (p.loop-at.at + p.plain_run-at.result) p.loop-at.passed
behind p = run_passed _ _ _ _ _ _ (p.plain_run-at.ensures ∙ ap (run in_one) (rest p.loop-at.at p.args.s.now)) p.loop-at.invariant.1

-- a byte stands there, if it is not the end
there : (e : Else-at-s) → e.loop-at.at + e.plain_run-at.result ≤ length e.args.s.now → e.loop-at.at + e.plain_run-at.result < length e.args.s.now
there e h = omega (arith, h, e.if-at-s.false)

-- where the walk comes to, if a break of b bytes ends the line
abbrev Ended : Else-at-s → ℕ → Type 0
Ended e b =
    let end = e.loop-at.at + e.plain_run-at.result in
    let passed = e.loop-at.passed in
    Here e.args.set e.args.s.now (noted e.loop-at.places passed.feeds passed.start (end - passed.start)) (end + b) (behind_one_passed passed end b)

feed_passed : (e : Else-at-s) → Here e.args.set e.args.s.now e.loop-at.places (e.loop-at.at + e.plain_run-at.result) e.loop-at.passed → length e.loop-at.places ≡ walk_numbers → get_or e.args.s.now (e.loop-at.at + e.plain_run-at.result) 0 ≡ 10 → Ended e 1
feed_passed e b long is =
    let h = there e b.within in
    let (z, w) = line_feed e.args.set e.args.s.now _ h is in
    a_break_passed _ _ _ _ _ b long 1 h z w (λ h. omega arith)

return_passed : (e : Else-at-s) → Here e.args.set e.args.s.now e.loop-at.places (e.loop-at.at + e.plain_run-at.result) e.loop-at.passed → length e.loop-at.places ≡ walk_numbers → eqb (get_or e.args.s.now (e.loop-at.at + e.plain_run-at.result) 0) 13 && eqb (get_or (drop (e.loop-at.at + e.plain_run-at.result) e.args.s.now) 1 0) 10 ≡ true → Ended e 2
return_passed e b long is =
    let h = there e b.within in
    let (fits, (z, w)) = carriage_return e.args.set e.args.s.now _ h is in
    a_break_passed _ _ _ _ _ b long 2 h z w (λ h. omega arith)

-- a row of characters is passed
on_row : (c : Else-n-eq0) → Here c.args.set c.args.s.now c.loop-at.places (c.loop-at.at + c.plain_run-at.result) c.loop-at.passed → Here c.args.set c.args.s.now c.loop-at.places (c.loop-at.at + c.plain_run-at.result + c.characters_in-n.result) c.loop-at.passed
on_row c b = row_passed _ _ _ _ _ _ c.characters_in-n.ensures c.if-n-eq0.false b

pub lines-init : goal.lines-init
lines-init c = (begins _ _ _, (λ h. refl), refl)

pub overflow_add-at : goal.overflow_add-at
overflow_add-at c = omega (arith, (behind (goal.at.overflow_add-at c).After-plain_run-at).within)

pub bounds-s-at : goal.bounds-s-at
bounds-s-at c = let at = goal.at.bounds-s-at c in there at.Else-at-s (behind at.After-plain_run-at).within

pub pass-passed-requires : goal.pass-passed-requires
pass-passed-requires c =
    let at = goal.at.pass-passed-requires c in
    let b = behind at.After-plain_run-at in
    (c.pass-arg-1.given.0.1, passable 1 b (omega arith) (omega (arith, (feed_passed at.Else-at-s b c.pass-arg-1.given.0.1 c.if-x-eq10.true).within)))

pub lines-preserved-then-x-eq10 : goal.lines-preserved-then-x-eq10
lines-preserved-then-x-eq10 c =
    let at = goal.at.lines-preserved-then-x-eq10 c in (
      rw (c.pass-passed.ensures.places_after, c.pass-passed.ensures.value) (feed_passed at.Else-at-s (behind at.After-plain_run-at) c.pass-arg-1.given.0.1 c.if-x-eq10.true),
      (λ h. ap (λ (p : Behind). p.start) c.pass-passed.ensures.value),
      c.loop-at.invariant.2,
    )

pub feed_after-requires : goal.feed_after-requires
feed_after-requires c = let at = goal.at.feed_after-requires c in there at.Else-at-s (behind at.After-plain_run-at).within

pub pass-passed-requires-then-x-feed_after : goal.pass-passed-requires-then-x-feed_after
pass-passed-requires-then-x-feed_after c =
    let at = goal.at.pass-passed-requires-then-x-feed_after c in
    let b = behind at.After-plain_run-at in
    let long = c.pass-arg-then-x-feed_after-1.given.0.1 in
    (long, passable 2 b (omega arith) (omega (arith, (return_passed at.Else-at-s b long (rw c.feed_after.ensures at c.if-x-feed_after.true)).within)))

pub lines-preserved : goal.lines-preserved
lines-preserved c =
    let at = goal.at.lines-preserved c in
    let passed = c.pass-passed-then-x-feed_after.ensures in (
      rw (passed.places_after, passed.value) (return_passed at.Else-at-s (behind at.After-plain_run-at) c.pass-arg-then-x-feed_after-1.given.0.1 (rw c.feed_after.ensures at c.if-x-feed_after.true)),
      (λ h. ap (λ (p : Behind). p.start) passed.value),
      c.loop-at.invariant.2,
    )

pub overflow_add-at-in-loop-at : goal.overflow_add-at-in-loop-at
overflow_add-at-in-loop-at c =
    let at = goal.at.overflow_add-at-in-loop-at c in
    omega (arith, (on_row at.Else-n-eq0 (behind at.After-plain_run-at)).within)

pub loop-at-preserved : goal.loop-at-preserved
loop-at-preserved c =
    let at = goal.at.loop-at-preserved c in
    (omega (arith, c.loop-at.invariant.0), on_row at.Else-n-eq0 (behind at.After-plain_run-at), c.loop-at.invariant.2)

pub returns-after-lines : goal.returns-after-lines
returns-after-lines c = ends_here c.lines.invariant.0 c.lines-test.false c.lines.invariant.2

pub returns-then-at-s : goal.returns-then-at-s
returns-then-at-s c = ends_here (behind (goal.at.returns-then-at-s c).After-plain_run-at) (omega (arith, c.if-at-s.true)) c.loop-at.invariant.2

pub returns-then-n-eq0 : goal.returns-then-n-eq0
returns-then-n-eq0 c =
    let at = goal.at.returns-then-n-eq0 c in
    let b = behind at.After-plain_run-at in
    let s = c.args.s.now in
    let no_character = no_row c.args.set (drop (c.loop-at.at + c.plain_run-at.result) s) (sym c.characters_in-n.ensures ∙ c.if-n-eq0.true) in
    let neither = no_break s _ c.if-x-eq10.false (rw c.feed_after.ensures at c.if-x-feed_after.false) in
    stops_here b (there at.Else-at-s b.within) no_character neither
