-- The contract of each public function leaves one answer, and one content of a list that is lent. Assumes nothing.
use mathlib.Core.Path.{◌≡◌, refl, sym, ap, ◌∙◌}
use contract.Lifetimes.{Lfts}
use denote.Ref.{Bor}
use denote.Triple.Entry.{Args}
use denote.Triple.Clauses.{AtExit}
use Rattle.sieve.specs.Bytes.{Bytes}
use Rattle.sieve.specs.OneAnswer.{OneAnswer}
use Rattle.places.specs.contracts as contracts
use Rattle.places.proofs as fn

pub one_clear : OneAnswer contracts.clear.ended fn.clear.Reads.Learnt
one_clear κs a x y v w h k = (refl, ap (λ l. (l, w.1)) (h ∙ sym k))

-- a part that is handed out is known by its bytes
pub one_line : (κs : Lfts 3) (a : Args contracts.Payload.line.signature κs) (x y : Bor Bytes) (e f : AtExit contracts.Payload.line.ended κs) → fn.Payload.line.Reads.Learnt κs a x e → fn.Payload.line.Reads.Learnt κs a y f → x.now ≡ y.now
one_line κs a x y e f h k = h ∙ sym k

pub one_new : OneAnswer contracts.Payload.new.ended fn.Payload.new.Reads.Learnt
one_new κs a x y v w h k = (h ∙ sym k, refl)
