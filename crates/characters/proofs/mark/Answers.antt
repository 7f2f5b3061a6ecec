-- `characters::mark` meets its contract. Assumes nothing.
use Prim.Native.Nat.{ℕ, ◌<◌}
use native.Mathlib.Omega.{arith}
use mathlib.Core.Bool.{Bool, true, false, cond, not}
use mathlib.Core.Path.{◌≡◌, refl}
use lib.ListN.{take, drop, get_or, length}
use mir.Val.{bool_byte}
use borrow.Author.Rules.{rules}
use Rattle.sieve.specs.Bytes.{Bytes}
use Rattle.sieve.specs.Latin.{in_one}
use Rattle.runs.proofs.ByteByByte.{next}
use Rattle.characters.specs.Marks.{marks_of}
use Rattle.characters.proofs.mark.Goals as goal

-- the mark of one byte
of_one : (s : Bytes) (at : ℕ) → at < length s → marks_of (take 1 (drop at s)) ≡ cond (in_one (get_or s at 0)) 0 1
unfolding marks_of
of_one s at h = rw (next s at h) (omega arith)

as_number : (b : Bool) → (bool_byte (not b) ≡ cond b 0 1) × (bool_byte (not b) < 2)
as_number true = (refl, omega arith)
as_number false = (refl, omega arith)

pub returns : goal.returns
returns c =
    let a = c.args in
    rw (c.of_kind.ensures, of_one a.s.now a.at (search rules)) (as_number (in_one (get_or a.s.now a.at 0)))
