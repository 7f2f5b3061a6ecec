use Rattle.std.proofs.Common.{◌≡◌, ◌≤◌, length}
use Rattle.desk.proofs.writing.gather.Given as goal

abbrev pub invariant-loop-i : goal.invariant-loop-i
invariant-loop-i l =
    (l.at ≤ length l.text) × (length l.text ≡ length l.initial.text) × (length l.list ≡ length l.initial.list)
