-- The contract of each public function leaves one answer. Assumes nothing.
use mathlib.Core.Path.{refl, sym, ◌∙◌}
use Rattle.sieve.specs.OneAnswer.{OneAnswer}
use Rattle.lines.proofs.LinesAt.{one_line}
use Rattle.lines.proofs.LinesLie.{one_place}
use Rattle.lines.specs.contracts as contracts
use Rattle.lines.proofs as fn

pub one_line_at : OneAnswer contracts.line_at.ended fn.line_at.Reads.Learnt
one_line_at κs a x y v w h k = (one_line _ _ x y h k, refl)

pub one_line_place : OneAnswer contracts.line_place.ended fn.line_place.Reads.Learnt
one_line_place κs a x y v w h k = (one_place _ x y h k, refl)

pub one_stray_break : OneAnswer contracts.stray_break.ended fn.stray_break.Reads.Learnt
one_stray_break κs a x y v w h k = (h ∙ sym k, refl)

pub one_break_length : OneAnswer contracts.break_length.ended fn.break_length.Reads.Learnt
one_break_length κs a x y v w h k = (h ∙ sym k, refl)

pub one_feed_after : OneAnswer contracts.feed_after.ended fn.feed_after.Reads.Learnt
one_feed_after κs a x y v w h k = (h ∙ sym k, refl)

pub one_parts : OneAnswer contracts.parts.ended fn.parts.Reads.Learnt
one_parts κs a x y v w h k = (h ∙ sym k, refl)
