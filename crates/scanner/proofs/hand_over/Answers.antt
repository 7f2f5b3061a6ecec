-- `scanner::hand_over` meets its contract: the bit is laid in the front of the tail that is lent. Assumes nothing.
use Prim.Native.Nat.{ℕ, ◌+◌, ◌≤◌, ◌<◌}
use native.Mathlib.Omega.{arith}
use mathlib.Core.Path.{◌≡◌, sym, ap, ◌∙◌}
use lib.ListN.{length}
use Rattle.sieve.specs.Bytes.{Bytes}
use Rattle.runs.proofs.Lays.{tail_laid}
use Rattle.swiss.specs.Limits.{most_bytes}
use Rattle.scanner.specs.Scanning.{held_in, most_in}
use Rattle.scanner.proofs.Handing.{handed_over_lem, handed_in}
use Rattle.scanner.proofs.hand_over.Goals as goal
use Rattle.scanner.proofs.hand_over.Goals.{Joined-held-most, then-held-most, else-held-most}

-- the less of the limit and the room

as_room : (room : Bytes) {most : ℕ} → most ≡ length room → length room < most_bytes → most ≡ most_in room
as_room room is few = omega arith

as_limit : (room : Bytes) {most : ℕ} → most ≡ most_bytes → most_bytes ≤ length room → most ≡ most_in room
as_limit room is many = omega arith

chosen : (c : Joined-held-most) → c.if-held-most.most ≡ most_in c.args.held.now
chosen c = let room = c.args.held.now in elim c.if-held-most.branch [ then-held-most w ↦ as_room room w.most-is w.if-held-most.true | else-held-most w ↦ as_limit room w.most-is w.if-held-most.false ]

pub returns-then-most-length : goal.returns-then-most-length
returns-then-most-length c = sym (handed_over_lem _ _ (omega (arith, chosen (goal.at.returns-then-most-length c).Joined-held-most, c.if-most-length.true)))

pub returns-then-most-length-2 : goal.returns-then-most-length-2
returns-then-most-length-2 c = sym (handed_over_lem _ _ (omega (arith, chosen (goal.at.returns-then-most-length-2 c).Joined-held-most, c.if-most-length.false, c.if-most-length-2.true)))

pub returns : goal.returns
returns c =
    let a = c.args in
    let n = a.length in
    let room = a.held.now in
    let bit = a.bit.now in
    let fits : n + length bit ≤ most_in room = omega (arith, chosen (goal.at.returns c).Joined-held-most, c.if-most-length.false, c.if-most-length-2.false) in
    ap (λ (after : Bytes). held_in after (n + length bit)) (rw c.lay.ensures.dest_after (tail_laid n room bit (omega (arith, fits)))) ∙ sym (handed_in (held_in room n) bit fits)
