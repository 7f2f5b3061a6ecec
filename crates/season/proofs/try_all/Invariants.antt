use Prim.Native.Nat.{◌≤◌}
use Rattle.season.proofs.Trying.{Trying}
use Rattle.season.proofs.try_all.Given as goal

abbrev pub invariant-loop-i : goal.invariant-loop-i
invariant-loop-i l =
    let b = l.gathered.bills in
    (l.i ≤ b.count) × Trying b.buffer.now b.places.now b.count l.initial.list l.i l.n l.francs l.euros l.list
