use Rattle.swift.proofs.Rows.{Going}
use Rattle.swift.proofs.fill.Given as goal

abbrev pub invariant-loop-at : goal.invariant-loop-at
invariant-loop-at l = Going (record { bytes = l.initial.bytes; length = l.initial.length; replaced = l.initial.replaced }) l.text l.from (record { bytes = l.bytes; length = l.length; replaced = l.replaced }) l.at
