-- The contract of each public function leaves one answer. Assumes nothing.
use mathlib.Core.Path.{refl, sym, ◌∙◌}
use Rattle.sieve.specs.OneAnswer.{OneAnswer}
use Rattle.findings.specs.contracts as contracts
use Rattle.findings.proofs as fn

pub one_rule : OneAnswer contracts.rule.ended fn.rule.Reads.Learnt
one_rule κs a x y v w h k = (h ∙ sym k, refl)

pub one_fixed : OneAnswer contracts.fixed.ended fn.fixed.Reads.Learnt
one_fixed κs a x y v w h k = (h ∙ sym k, refl)

pub one_empty : OneAnswer contracts.empty.ended fn.empty.Reads.Learnt
one_empty κs a x y v w h k = (h ∙ sym k, refl)

pub one_filled : OneAnswer contracts.filled.ended fn.filled.Reads.Learnt
one_filled κs a x y v w h k = (h ∙ sym k, refl)

pub one_at_most : OneAnswer contracts.at_most.ended fn.at_most.Reads.Learnt
one_at_most κs a x y v w h k = (h ∙ sym k, refl)

pub one_formed : OneAnswer contracts.formed.ended fn.formed.Reads.Learnt
one_formed κs a x y v w h k = (h ∙ sym k, refl)

pub one_checked : OneAnswer contracts.checked.ended fn.checked.Reads.Learnt
one_checked κs a x y v w h k = (h ∙ sym k, refl)
