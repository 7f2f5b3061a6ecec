-- The contract of each public function leaves one answer. Assumes nothing.
use mathlib.Core.Path.{refl, sym, ◌∙◌}
use Rattle.sieve.specs.OneAnswer.{OneAnswer}
use Rattle.packing.specs.contracts as contracts
use Rattle.packing.proofs as fn

pub one_packed_refusal : OneAnswer contracts.packed_refusal.ended fn.packed_refusal.Reads.Learnt
one_packed_refusal κs a x y v w h k = (h ∙ sym k, refl)

pub one_packed_place : OneAnswer contracts.packed_place.ended fn.packed_place.Reads.Learnt
one_packed_place κs a x y v w h k = (h ∙ sym k, refl)

pub one_told_count : OneAnswer contracts.told_count.ended fn.told_count.Reads.Learnt
one_told_count κs a x y v w h k = (h ∙ sym k, refl)

pub one_room_beside : OneAnswer contracts.room_beside.ended fn.room_beside.Reads.Learnt
one_room_beside κs a x y v w h k = (h.0 ∙ sym k.0, refl)

pub one_break_for : OneAnswer contracts.break_for.ended fn.break_for.Reads.Learnt
one_break_for κs a x y v w h k = (h ∙ sym k, refl)

pub one_packed_answer : OneAnswer contracts.packed_answer.ended fn.packed_answer.Reads.Learnt
one_packed_answer κs a x y v w h k = (h ∙ sym k, refl)

pub one_packed_verdict : OneAnswer contracts.packed_verdict.ended fn.packed_verdict.Reads.Learnt
one_packed_verdict κs a x y v w h k = (h ∙ sym k, refl)

pub one_packed_laying : OneAnswer contracts.packed_laying.ended fn.packed_laying.Reads.Learnt
one_packed_laying κs a x y v w h k = (h ∙ sym k, refl)

pub one_packed_line : OneAnswer contracts.packed_line.ended fn.packed_line.Reads.Learnt
one_packed_line κs a x y v w h k = (h ∙ sym k, refl)
