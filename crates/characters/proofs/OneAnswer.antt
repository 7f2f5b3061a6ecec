-- The contract of each public function leaves one answer. Assumes nothing.
use mathlib.Core.Path.{refl, sym, ◌∙◌}
use Rattle.sieve.specs.OneAnswer.{OneAnswer}
use Rattle.characters.specs.contracts as contracts
use Rattle.characters.proofs as fn

pub one_plain_run : OneAnswer contracts.plain_run.ended fn.plain_run.Reads.Learnt
one_plain_run κs a x y v w h k = (h ∙ sym k, refl)

pub one_characters_in : OneAnswer contracts.characters_in.ended fn.characters_in.Reads.Learnt
one_characters_in κs a x y v w h k = (h ∙ sym k, refl)

pub one_marks_at : OneAnswer contracts.marks_at.ended fn.marks_at.Reads.Learnt
one_marks_at κs a x y v w h k = (h ∙ sym k, refl)

pub one_first_marked : OneAnswer contracts.first_marked.ended fn.first_marked.Reads.Learnt
one_first_marked κs a x y v w h k = (h ∙ sym k, refl)

pub one_later_marks : OneAnswer contracts.later_marks.ended fn.later_marks.Reads.Learnt
one_later_marks κs a x y v w h k = (h ∙ sym k, refl)
