use Prim.Native.Nat.{◌+◌, ◌≤◌}
use mathlib.Core.Path.{◌≡◌}
use lib.ListN.{length}
use Rattle.sieve.specs.Lines.{break_bytes}
use Rattle.joining.specs.Handing.{handed_bytes}
use Rattle.joining.proofs.Handing.{left, latest, breaks_all}
use Rattle.joining.proofs.Joinable.joined_length.Given as goal

abbrev pub invariant-loop-i : goal.invariant-loop-i
invariant-loop-i l =
    let k = l.self.lines.brk in
    (l.i ≤ l.self.lines.count) × (l.bytes ≤ latest l.i) × (length (handed_bytes l.self.lines) + length (break_bytes k) ≡ l.bytes + breaks_all k (left l.self.lines l.i))
