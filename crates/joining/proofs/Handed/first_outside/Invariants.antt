use Prim.Native.Nat.{◌≤◌}
use mathlib.Core.Path.{◌≡◌}
use Rattle.joining.specs.Handing.{handed_outside}
use Rattle.joining.proofs.Handing.{outside_from}
use Rattle.joining.proofs.Handed.first_outside.Given as goal

abbrev pub invariant-loop-i : goal.invariant-loop-i
invariant-loop-i l = (l.i ≤ l.self.count) × (handed_outside l.self ≡ outside_from l.self.text.now l.self.list.now l.self.count l.i)
