use Prim.Native.Nat.{◌≤◌}
use mathlib.Core.Path.{◌≡◌}
use Rattle.sieve.specs.Places.{placed}
use Rattle.sieve.specs.Writing.{stray_break}
use Rattle.joining.specs.Handing.{handed_lines}
use Rattle.joining.proofs.Handing.{latest, stray_from}
use Rattle.joining.proofs.Joinable.first_stray.Given as goal

abbrev pub invariant-loop-i : goal.invariant-loop-i
invariant-loop-i l =
    (l.i ≤ l.self.lines.count) × (l.at ≤ latest l.i) × (stray_break 1 (placed 0 l.self.lines.brk (handed_lines l.self.lines)) ≡ stray_from l.self.lines l.i l.at)
