-- Where a viewer stands that was opened and moved on, by the contracts of `open` and `next` alone. Assumes nothing.
use Prim.Native.Nat.{ℕ, zero, suc}
use mathlib.Core.Bool.{Bool}
use mathlib.Core.Path.{◌≡◌, refl, subst, ◌∙◌, ap}
use denote.Ref.{Bor}
use Rattle.sieve.specs.Bytes.{Bytes}
use Rattle.viewer.specs.View.{past, is_done, next_from, standing, moved_from}
use Rattle.viewer.specs.Held.{IsOpened, IsNext, IsLine}
use Rattle.viewer.specs.declared.Viewer.{Viewer}
use Rattle.viewer.proofs.Onward.{stays_past}

-- one move more, at the end as at the front
move_last : (p : Bytes) (i at : ℕ) → moved_from p i (next_from p at) ≡ next_from p (moved_from p i at)
unfolding moved_from
move_last p zero at = refl
move_last p (suc i) at = move_last p i (next_from p at)

pub moved_standing : (p : Bytes) (i : ℕ) → moved_from p i (standing p 0) ≡ standing p i
unfolding moved_from standing
moved_standing p zero = refl
moved_standing p (suc i) = move_last p i (standing p 0) ∙ ap (next_from p) (moved_standing p i)

-- past the last line no move changes anything
pub no_further : (p : Bytes) (i : ℕ) → moved_from p i (past p) ≡ past p
unfolding moved_from
no_further p zero = refl
no_further p (suc i) = ap (moved_from p i) (stays_past p) ∙ no_further p i

-- a viewer of the payload s that was moved on i times
pub record Stands (s : Bor Bytes) (i : ℕ) (r : Viewer) : Type 0 where
  pub payload : r.payload ≡ s
  pub at : r.at ≡ standing s.now i

module _ (s : Bor Bytes) where
  pub opened_stands : (r : Viewer) → IsOpened s r → Stands s 0 r
  unfolding standing
  opened_stands r o = record { payload = o.payload; at = o.at }

  pub next_stands : (i : ℕ) (r t : Viewer) → Stands s i r → IsNext r t → Stands s (suc i) t
  unfolding standing
  next_stands i r t st n = record { payload = n.payload ∙ st.payload; at = n.at ∙ (λ j. next_from (st.payload j).now (st.at j)) }

  pub line_stands : (i : ℕ) (r : Viewer) (x : Bor Bytes) → Stands s i r → IsLine r.payload r.at x → IsLine s (standing s.now i) x
  line_stands i r x st l = subst (λ (z : Bor Bytes × ℕ). IsLine z.0 z.1 x) (λ j. (st.payload j, st.at j)) l

  pub done_stands : (i : ℕ) (r : Viewer) (x : Bool) → Stands s i r → x ≡ is_done r.payload.now r.at → x ≡ is_done s.now (standing s.now i)
  done_stands i r x st e = e ∙ (λ j. is_done (st.payload j).now (st.at j))
