-- `mender::pass_byte` meets its contract, by what step 1 makes of the byte. Assumes nothing.
use mathlib.Core.Path.{sym, ◌∙◌}
use borrow.Author.Tests.{ne_eqb, eq-eqb}
use Rattle.mender.proofs.Passing.{after_byte, after_lone, after_pair}
use Rattle.mender.proofs.pass_byte.Goals as goal

pub returns-then-x-ne13 : goal.returns-then-x-ne13
returns-then-x-ne13 c =
    let put = c.put-reach.ensures in
    after_byte c.args.payload.now c.args.i c.args.t c.args.room.now c.requires (ne_eqb _ _ c.if-x-ne13.true) put.farther put.carries

pub returns-then-feed_after : goal.returns-then-feed_after
returns-then-feed_after c =
    after_pair c.args.payload.now c.args.i c.args.t c.args.room.now c.requires (eq-eqb _ _ c.if-x-ne13.false) (sym c.feed_after.ensures ∙ c.if-feed_after.true)

pub returns : goal.returns
returns c =
    let put = c.put-reach-2.ensures in
    after_lone c.args.payload.now c.args.i c.args.t c.args.room.now c.requires (eq-eqb _ _ c.if-x-ne13.false) (sym c.feed_after.ensures ∙ c.if-feed_after.false) put.farther put.carries
