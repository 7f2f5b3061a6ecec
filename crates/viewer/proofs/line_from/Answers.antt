-- `viewer::line_from` meets its contract: the line is the part from the place to the line's end. Assumes nothing.
use Prim.Native.Nat.{◌-◌}
use native.Mathlib.Omega.{arith}
use mathlib.Core.List.{[]}
use mathlib.Core.Path.{◌≡◌, refl, sym, ◌∙◌}
use lib.ListN.{length, drop, take}
use borrow.Author.Tests.{lt-ltb, le-ltb}
use Rattle.sieve.specs.Bytes.{Bytes}
use Rattle.viewer.proofs.Onward.{no_bytes}
use Rattle.lines.proofs.LinesAt.{line_is, within}
use Rattle.viewer.specs.View.{line_from}
use Rattle.viewer.proofs.line_from.Goals as goal

pub returns-then-payload-at : goal.returns-then-payload-at
returns-then-payload-at c = record { memory = refl; start = rw (lt-ltb _ _ c.if-payload-at.true) (omega arith); bytes = empty c.args.payload.now ∙ sym (no_bytes _ _ (omega arith)) }
  where
    empty : (p : Bytes) → take (length p - length p) (drop (length p) p) ≡ []
    empty p =
        let z : length p - length p ≡ 0 = omega arith in
        rw z

pub slice_bounds-result-end-2 : goal.slice_bounds-result-end-2
slice_bounds-result-end-2 c = omega (arith, within c.args.payload.now c.args.at c.line_at-line.result c.line_at-line.ensures c.if-payload-at.false, c.line_at-line.ensures.next)

pub returns : goal.returns
unfolding line_from
returns c = record { memory = refl; start = rw (le-ltb _ _ c.if-payload-at.false) (omega arith); bytes = line_is c.args.payload.now c.args.at c.line_at-line.result c.line_at-line.ensures }
