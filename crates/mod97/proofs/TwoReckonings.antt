-- By the table and without it, MOD 97-10 has one answer on every text of bytes, of any length: so on every text of digits and letters. Assumes nothing.
use mathlib.Core.Path.{refl, sym, ◌∙◌}
use Rattle.mod97.specs.Alike.{Alike}
use Rattle.mod97.specs.contracts as contract
use Rattle.mod97.proofs as fn

-- from any number to begin with
pub same_remainder_after : Alike contract.remainder_after.ended fn.remainder_after.Reads.Learnt fn.remainder_after_by_table.Reads.Learnt
same_remainder_after κs a x y v w h k = (h ∙ sym k, refl)

-- the first four characters moved to the end
pub same_remainder97 : Alike contract.remainder97.ended fn.remainder97.Reads.Learnt fn.remainder97_by_table.Reads.Learnt
same_remainder97 κs a x y v w h k = (h ∙ sym k, refl)
