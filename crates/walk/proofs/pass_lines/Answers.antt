-- `walk::pass_lines` meets its contract. Both loops keep where the walk stands, the inner one by how many sixteens it has gone on. Assumes nothing.
use Prim.Native.Nat.{ℕ, ◌+◌, ◌-◌, ◌*◌, ◌%◌, ◌^◌, ◌≤◌, ◌<◌}
use native.Mathlib.Omega.{arith}
use mathlib.Core.Bool.{Bool, true, false, cond}
use mathlib.Core.Path.{◌≡◌, refl}
use lib.Bits.{bit_and}
use lib.Dec.{ltb}
use lib.ListN.{length}
use lib.Pow.{shl_exact}
use borrow.Author.Tests.{ltb-false, le-ltb}
use Rattle.walk.specs.Here.{Among, Inside, GoneThrough}
use Rattle.walk.proofs.BySixteens.{told, standing, and_through, On, among_kept, all_before, the_last, on_to_mark, past}
use Rattle.walk.proofs.pass_lines.Goals as goal
use Rattle.walk.proofs.pass_lines.Goals.{At-loop-from-2, After-marks_at, After-pass_returns-returned, After-first_marked, Else-from-s}

-- where the walk stands, at the inner loop and behind the marks
on : (l : At-loop-from-2) → On l.args.s.now l.args.places.now l.args.passed.start l.args.passed l.loop-from-2.places l.loop-from-2.from l.loop-from-2.keep l.loop-from-2.p
on l = l.loop-from-2.invariant.on _ _ _ l.loop-from.invariant

on_marks : (m : After-marks_at) → On m.args.s.now m.args.places.now m.args.passed.start m.args.passed m.loop-from-2.places m.loop-from-2.from m.loop-from-2.keep m.loop-from-2.p
on_marks m = m.loop-from-2.invariant.on _ _ _ m.loop-from.invariant

whole : (m : After-marks_at) → m.loop-from-2.from + 16 ≤ length m.args.s.now
whole m = omega (arith, m.loop-from-2-test.true, m.if-s-lt-WINDOW.false)

-- the marks that are kept
among : (m : After-marks_at) → Among m.args.s.now m.loop-from-2.from (on_marks m).skip (bit_and m.marks_at.result m.loop-from-2.keep)
among m = among_kept (on_marks m) (whole m) _ m.marks_at.ensures

inside : (m : After-marks_at) → Inside m.args.s.now m.loop-from-2.places m.loop-from-2.from (record { passed = m.loop-from-2.p; left = bit_and m.marks_at.result m.loop-from-2.keep })
inside m =
    let pre = m.requires in
    record { behind = (on_marks m).skip; among = among m; reached = record { set = pre.set; here = (on_marks m).going.onward pre.set pre.here } }

-- through the sixteen bytes, from where lines that end with CR LF are passed too
gone : (r : After-pass_returns-returned) → GoneThrough r.args.s.now r.loop-from-2.places r.loop-from-2.from (record { passed = r.loop-from-2.p; left = bit_and r.marks_at.result r.loop-from-2.keep }) r.pass_returns-returned.new.places r.pass_returns-returned.result
gone r = and_through r.pass_feeds-fed.ensures r.pass_returns-returned.ensures

-- a mark that is left, and where it is found
some : (f : After-first_marked) → 0 < f.pass_returns-returned.result.left
some f = omega (arith, f.if-returned-ne0.true)

-- the walk is not past the end
in_bytes : (l : At-loop-from-2) → l.loop-from-2.from ≤ length l.args.s.now
in_bytes l = let pre = l.requires in omega (arith, ((on l).going.onward pre.set pre.here).within)

-- fewer than sixteen bytes are left, but some
near : (e : Else-from-s) → e.loop-from-2.from ≤ length e.args.s.now → (length e.args.s.now - 16 < e.loop-from-2.from) × (e.loop-from-2.from < length e.args.s.now)
near e h = (omega (arith, e.loop-from-2-test.false), omega (arith, h, e.if-from-s.false))

-- where the last sixteen bytes are asked again, they were not the last to be asked
ends : (size last from place n : ℕ) → last + 16 ≡ size → place ≡ from + 16 * n → last < place → place < size → cond (ltb last last) (size + 1) (size - last) < cond (ltb last from) (size + 1) (size - from)
ends size last from place n whole on past within = rw (le-ltb last last (omega arith)) (by_cases (ltb last from) refl)
  where
    by_cases : (b : Bool) → ltb last from ≡ b → size - last < cond b (size + 1) (size - from)
    by_cases true e = omega arith
    by_cases false e = omega (arith, ltb-false last from e)

pub pass_feeds-fed-requires : goal.pass_feeds-fed-requires
pass_feeds-fed-requires c = inside (goal.at.pass_feeds-fed-requires c).After-marks_at

pub pass_returns-returned-requires : goal.pass_returns-returned-requires
pass_returns-returned-requires c = standing (inside (goal.at.pass_returns-returned-requires c).After-marks_at) c.pass_feeds-fed.ensures

pub returns-then-returned-ne0 : goal.returns-then-returned-ne0
returns-then-returned-ne0 c =
    let at = goal.at.returns-then-returned-ne0 c in
    let m = at.After-marks_at in
    told (on_to_mark (on_marks m) (gone at.After-pass_returns-returned (on_marks m).skip (among m)) (some at.After-first_marked) c.first_marked.ensures)

pub loop-from-2-preserved : goal.loop-from-2-preserved
loop-from-2-preserved c =
    let at = goal.at.loop-from-2-preserved c in
    record {
      sixteens = c.loop-from-2.invariant.sixteens + 1;
      place = omega (arith, c.loop-from-2.invariant.place);
      on = λ l₀ from p₀ o. let here = c.loop-from-2.invariant.on l₀ from p₀ o in past here (gone at.After-pass_returns-returned here.skip (among_kept here (whole at.After-marks_at) _ c.marks_at.ensures)) c.if-returned-ne0.false;
    }

pub returns-then-from-s : goal.returns-then-from-s
returns-then-from-s c = told (all_before (on (goal.at.returns-then-from-s c).At-loop-from-2) (omega (arith, c.loop-from-2-test.false, c.if-s-lt-WINDOW.false)))

pub overflow_cast-keep : goal.overflow_cast-keep
overflow_cast-keep c =
    let at = goal.at.overflow_cast-keep c in
    record { fits = omega (arith, (near at.Else-from-s (in_bytes at.At-loop-from-2)).1) }

pub overflow_shl-keep : goal.overflow_shl-keep
overflow_shl-keep c =
    let at = goal.at.overflow_shl-keep c in
    omega (arith, (near at.Else-from-s (in_bytes at.At-loop-from-2)).1)

pub loop-from-smaller : goal.loop-from-smaller
loop-from-smaller c =
    let at = goal.at.loop-from-smaller c in
    let few = near at.Else-from-s (in_bytes at.At-loop-from-2) in
    ends _ _ c.loop-from.from _ c.loop-from-2.invariant.sixteens (omega (arith, c.if-s-lt-WINDOW.false)) c.loop-from-2.invariant.place few.0 few.1

pub loop-from-preserved : goal.loop-from-preserved
loop-from-preserved c =
    let at = goal.at.loop-from-preserved c in
    let few = near at.Else-from-s (in_bytes at.At-loop-from-2) in
    let last = length c.args.s.now - 16 in
    let skip = c.loop-from-2.from - last in
    let exact : 0xFFFF * 2 ^ skip % 2 ^ 32 ≡ 0xFFFF * 2 ^ skip = shl_exact 16 skip 32 (omega arith) (omega (arith, few.1)) in
    rw exact (the_last (on at.At-loop-from-2) last (omega (arith, c.if-s-lt-WINDOW.false)) few.0 few.1)
