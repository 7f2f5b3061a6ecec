-- What the viewer's functions answer. Assumes nothing.
use Rattle.std.specs.Prelude.{ℕ, zero, suc, ◌+◌, cond, ◌≡◌, length}
use Rattle.std.specs.Borrow.{Bor}
use Rattle.sieve.specs.Bytes.{Bytes}
use Rattle.sieve.specs.Paper.{paper}
use Rattle.sieve.specs.Verdict.{verdict}
use Rattle.swiss.specs.Swiss.{swiss}
use Rattle.viewer.specs.declared.Viewer.{Viewer}
use Rattle.viewer.specs.declared.Begun.{Begun}
use Rattle.viewer.specs.View.{opened, is_done, line_from, next_from}

-- the reader's answer, and where the first line starts
pub record IsBegun (p : Bytes) (r : Begun) : Type 0 where
  pub at : r.at ≡ opened p (verdict swiss p)
  pub answer : paper r.answer ≡ verdict swiss p

-- what it stands for, beside the payload itself
pub record IsOpened (lent : Bor Bytes) (r : Viewer) : Type 0 where
  pub payload : r.payload ≡ lent
  pub at : r.at ≡ opened lent.now (verdict swiss lent.now)
  pub answer : paper r.answer ≡ verdict swiss lent.now

-- the line that starts at a place, as that part of the payload: in its memory, so many bytes after its start
pub record IsLine (lent : Bor Bytes) (at : ℕ) (r : Bor Bytes) : Type 0 where
  pub memory : r.ref_ptr.0 ≡ lent.ref_ptr.0
  pub start : r.ref_ptr.1 ≡ lent.ref_ptr.1 + cond (is_done lent.now at) (length lent.now) at
  pub bytes : r.now ≡ line_from lent.now at

-- the same payload and answer, one line on
pub record IsNext (v r : Viewer) : Type 0 where
  pub payload : r.payload ≡ v.payload
  pub at : r.at ≡ next_from v.payload.now v.at
  pub answer : r.answer ≡ v.answer

-- a viewer that was opened on a payload, and then moved on so many times
pub data Moved (lent : Bor Bytes) : ℕ → Viewer → Type 0 where
  opening : {v : Viewer} → IsOpened lent v → Moved lent zero v
  once_more : {i : ℕ} {w v : Viewer} → Moved lent i w → IsNext w v → Moved lent (suc i) v
