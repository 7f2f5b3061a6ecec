use Prim.Native.Nat.{◌≤◌}
use mathlib.Core.Path.{◌≡◌}
use Rattle.joining.proofs.Handing.{outside_from}
use Rattle.pile.specs.Pile.{bills_outside}
use Rattle.pile.proofs.Bills.first_outside.Given as goal

abbrev pub invariant-loop-i : goal.invariant-loop-i
invariant-loop-i l = (l.i ≤ l.self.count) × (bills_outside l.self ≡ outside_from l.self.buffer.now l.self.places.now l.self.count l.i)
