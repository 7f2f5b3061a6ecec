-- `glance::glance` meets its contract: of a longer payload the first 37 bytes are looked at, of any other all. Assumes nothing.
use native.Mathlib.Nat.{sub-zero}
use mathlib.Core.Path.{◌≡◌, sym, ◌∙◌}
use lib.ListN.{take}
use lib.Seq.{take_all, take-length}
use Rattle.glance.specs.Glance.{looked, glance}
use Rattle.glance.proofs.glance.Goals as goal
use Rattle.glance.proofs.glance.Goals.{Joined-more, then-more, else-more}

-- the bytes up to the end that the code takes are those that are looked at
chosen : (c : Joined-more) → take c.if-more.end c.args.payload.now ≡ take looked c.args.payload.now
chosen c =
    let p = c.args.payload.now in
    elim c.if-more.branch [ then-more w ↦ rw w.end-is | else-more w ↦ rw w.end-is (take-length p ∙ sym (take_all looked p w.if-more.false)) ]

pub returns : goal.returns
unfolding glance
returns c = rw (sub-zero c.if-more.end, chosen (goal.at.returns c).Joined-more) at c.look.ensures
