-- `characters::accented` meets its contract. The invariant: the bytes passed, and those of the row that is left. Assumes nothing.
use native.Mathlib.Omega.{arith}
use mathlib.Core.Path.{sym, ap, ◌∙◌}
use lib.ListN.{length, length-append}
use Rattle.std.specs.Slice.Iter.{chunks_exact_rest}
use Rattle.characters.proofs.Accents.{accent_first, other_first, too_short, too_few}
use Rattle.characters.proofs.accented.Goals as goal

pub returns-then-s-from : goal.returns-then-s-from
returns-then-s-from c = omega (arith, too_few c.args.s.now c.args.from (omega arith))

pub loop-two-preserved : goal.loop-two-preserved
loop-two-preserved c =
    let (size, (parts, two), left) = c.in-Some.ensures.steps in
    let first = accent_first c.in-Some.two.now (chunks_exact_rest c.next.new.self) (omega arith) (sym c.accent.ensures ∙ c.if-not-accent.false) in
    record {
      few = omega (arith, simp length-append at (ap length parts));
      by_two = omega arith;
      all = omega (arith, c.loop-two.invariant.all, rw (← parts) at first);
    }

pub returns-then-not-accent : goal.returns-then-not-accent
returns-then-not-accent c =
    let (size, (parts, two), left) = c.in-Some.ensures.steps in
    let none = other_first c.in-Some.two.now (chunks_exact_rest c.next.new.self) (omega arith) (sym c.accent.ensures ∙ c.if-not-accent.true) in
    omega (arith, c.loop-two.invariant.all, rw (← parts) at none)

pub returns : goal.returns
returns c =
    let (size, (few, same), left) = c.in-None.ensures.steps in
    omega (arith, c.loop-two.invariant.all, too_short (chunks_exact_rest c.loop-two.two-iterator) (omega arith))
