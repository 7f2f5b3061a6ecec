-- The contract of each public function leaves one answer. Assumes nothing.
use mathlib.Core.Path.{refl, sym, ap, ◌∙◌}
use mir.Syntax.{Dict}
use denote.Param.Laws.{Laws, IsCopy}
use denote.RattleType.{RattleType}
use Rattle.std.specs.declared.clone.Clone as Clone
use Rattle.sieve.specs.OneAnswer.{OneAnswer}
use Rattle.runs.specs.contracts as contracts
use Rattle.runs.proofs as fn

pub one_characters : OneAnswer contracts.characters.ended fn.characters.Reads.Learnt
one_characters κs a x y v w h k = (h ∙ sym k, refl)

pub one_longer : OneAnswer contracts.longer.ended fn.longer.Reads.Learnt
one_longer κs a x y v w h k = (h ∙ sym k, refl)

pub one_longer_together : OneAnswer contracts.longer_together.ended fn.longer_together.Reads.Learnt
one_longer_together κs a x y v w h k = (h ∙ sym k, refl)

pub one_same : OneAnswer contracts.same.ended fn.same.Reads.Learnt
one_same κs a x y v w h k = (h ∙ sym k, refl)

pub one_every : OneAnswer contracts.every.ended fn.every.Reads.Learnt
one_every κs a x y v w h k = (h ∙ sym k, refl)

-- at every type of item; the destination at exit too
pub one_lay : (T : RattleType) (laws : Laws T) (copy : IsCopy T) (clone : Clone.Ghosts T.Denot) (d : Dict) → OneAnswer (contracts.lay.ended T clone d) (fn.lay.Reads.Learnt T laws copy clone d)
one_lay T laws copy clone d κs a x y v w h k = (h.0 ∙ sym k.0, ap (λ d. (d, w.1)) (h.1 ∙ sym k.1))

pub one_of_kind : OneAnswer contracts.of_kind.ended fn.of_kind.Reads.Learnt
one_of_kind κs a x y v w h k = (h ∙ sym k, refl)
