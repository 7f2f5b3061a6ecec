-- The contract of each public function leaves one answer. Of the four that take or make a viewer these are readings of their contracts, and that each contract says just that. Assumes nothing.
use Prim.Native.Nat.{ℕ}
use mathlib.Core.Path.{◌≡◌, refl, sym, ◌∙◌}
use seplogic.Ra.Ura.{Ura}
use base.Logic.{SProp}
use prog.Memory.{Memory}
use prog.Routine.{Routine}
use types.Logic.{Logic}
use contract.Lifetimes.{Lfts}
use contract.Monad.{Fun, fact}
use denote.Ref.{Bor}
use denote.Triple.Entry.{Args, Res}
use denote.Triple.Clauses.{Ended, AtExit, Clauses}
use Rattle.sieve.specs.Bytes.{Bytes}
use Rattle.sieve.specs.OneAnswer.{Learns, OneAnswer}
use Rattle.sieve.proofs.PaperLosesNothing.{one_answer}
use Rattle.viewer.specs.Held.{IsOpened, IsLine, IsNext}
use Rattle.viewer.proofs.Promise.{MayDone, MayLine}
use Rattle.viewer.specs.contracts as contracts
use Rattle.viewer.proofs as fn

abbrev Open : Learns contracts.open.ended
Open κs a r e = IsOpened a.0 r

abbrev Done : Learns contracts.done.ended
Done κs a r e = MayDone a.0 r

abbrev Line : Learns contracts.line.ended
Line κs a r e = MayLine a.0 r

abbrev Next : Learns contracts.next.ended
Next κs a r e = IsNext a.0 r

-- in any model, a contract says what its reading says and nothing else
module _ {M : Type 1} {𝓤 : Ura M} (𝓛 : Logic 𝓤) (mem : Memory → SProp 𝓤) (run : Routine → Fun 𝓤) where
  abbrev Says : (T : Ended) → Learns T → Clauses 𝓤 T → Type 2
  Says T Learnt clauses =
      (κs : Lfts T.signature.lifetimes) (a : Args T.signature κs) (g : (clauses κs a).ghost) (r : Res T.signature κs) (e : AtExit T κs) → (clauses κs a).ensures g r e ≡ fact 𝓤 (Learnt κs a r e)

  open_says : Says contracts.open.ended Open (contracts.open.clauses 𝓛 mem run)
  open_says κs a g r e = refl

  done_says : Says contracts.done.ended Done (contracts.done.clauses 𝓛 mem run)
  done_says κs a g r e = refl

  line_says : Says contracts.line.ended Line (contracts.line.clauses 𝓛 mem run)
  line_says κs a g r e = refl

  next_says : Says contracts.next.ended Next (contracts.next.clauses 𝓛 mem run)
  next_says κs a g r e = refl

pub one_open : OneAnswer contracts.open.ended Open
one_open κs a x y v w h k =
    (λ i. record { payload = (h.payload ∙ sym k.payload) i; at = (h.at ∙ sym k.at) i; answer = one_answer x.answer y.answer (h.answer ∙ sym k.answer) i }, refl)

pub one_done : OneAnswer contracts.done.ended Done
one_done κs a x y v w h k = (h ∙ sym k, refl)

pub one_done_after : OneAnswer contracts.done_after.ended fn.done_after.Reads.Learnt
one_done_after κs a x y v w h k = (h ∙ sym k, refl)

pub one_next : OneAnswer contracts.next.ended Next
one_next κs a x y v w h k = (λ i. record { payload = (h.payload ∙ sym k.payload) i; at = (h.at ∙ sym k.at) i; answer = (h.answer ∙ sym k.answer) i }, refl)

-- a part that is handed out is its memory, its place there and its bytes; a reference's ghost name is there for proofs alone, and means nothing at run time
abbrev SamePart : Bor Bytes → Bor Bytes → Type 0
SamePart x y = (x.ref_ptr ≡ y.ref_ptr) × (x.now ≡ y.now)

one_part : (lent : Bor Bytes) (at : ℕ) (x y : Bor Bytes) → IsLine lent at x → IsLine lent at y → SamePart x y
one_part lent at x y h k = (λ i. ((h.memory ∙ sym k.memory) i, (h.start ∙ sym k.start) i), h.bytes ∙ sym k.bytes)

pub one_line : (κs : Lfts 1) (a : Args contracts.line.signature κs) (x y : Bor Bytes) (e f : AtExit contracts.line.ended κs) → Line κs a x e → Line κs a y f → SamePart x y
one_line κs a x y e f h k = one_part _ _ x y h k

pub one_line_after : (κs : Lfts 1) (a : Args contracts.line_after.signature κs) (x y : Bor Bytes) (e f : AtExit contracts.line_after.ended κs) → fn.line_after.Reads.Learnt κs a x e → fn.line_after.Reads.Learnt κs a y f → SamePart x y
one_line_after κs a x y e f h k = one_part _ _ x y h k
