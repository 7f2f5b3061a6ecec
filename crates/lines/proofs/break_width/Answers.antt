-- `lines::break_width` meets its contract: its tests are those of `break_width`, in the same order. Assumes nothing.
use Prim.Native.Nat.{ℕ, ◌<◌}
use mathlib.Core.Path.{◌≡◌}
use lib.ListN.{length, get_or, drop}
use borrow.Author.Tests.{ne_eqb}
use Rattle.sieve.specs.Bytes.{Bytes}
use Rattle.sieve.specs.Characters.{break_width}
use Rattle.runs.proofs.ByteByByte.{next}
use Rattle.lines.proofs.break_width.Goals as goal

here : (s : Bytes) (at : ℕ) → at < length s → get_or (drop at s) 0 0 ≡ get_or s at 0
here s at h = rw (next s at h)

pub returns-then-x-eq10 : goal.returns-then-x-eq10
unfolding break_width
returns-then-x-eq10 c =
    rw (here c.args.s.now c.args.at c.requires, c.if-x-eq10.true)

pub returns-then-x-feed_after : goal.returns-then-x-feed_after
unfolding break_width
returns-then-x-feed_after c =
    rw (here c.args.s.now c.args.at c.requires, ne_eqb _ 10 c.if-x-eq10.false, ← c.feed_after.ensures, c.if-x-feed_after.true)

pub returns : goal.returns
unfolding break_width
returns c =
    rw (here c.args.s.now c.args.at c.requires, ne_eqb _ 10 c.if-x-eq10.false, ← c.feed_after.ensures, c.if-x-feed_after.false)
