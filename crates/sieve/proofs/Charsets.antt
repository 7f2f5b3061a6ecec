-- Each set of characters is lawful, and 20 to 7E are characters by themselves in each. Assumes nothing.
use Prim.Native.Nat.{ℕ}
use mathlib.Core.Bool.{true}
use mathlib.Core.List.{◌∷◌}
use mathlib.Core.Path.{◌≡◌}
use Rattle.sieve.specs.declared.Charset.{Charset}
use Rattle.sieve.specs.declared.Charset.TheVariants.{Latin, Iso8859}
use Rattle.sieve.specs.Bytes.{Bytes}
use Rattle.sieve.specs.Lawful.{Lawful}
use Rattle.sieve.specs.Latin.{in_one, latin}
use Rattle.sieve.specs.Iso8859.{iso8859}
use Rattle.sieve.specs.Charsets.{of_set}
use Rattle.sieve.proofs.Latin as latins
use Rattle.sieve.proofs.Iso8859 as isos

pub set_lawful : (set : Charset) → Lawful (of_set set)
set_lawful Latin = latins.lawful
set_lawful Iso8859 = isos.lawful

pub in_each_set : (set : Charset) (x : ℕ) (s : Bytes) → in_one x ≡ true → of_set set (x ∷ s) ≡ 1
unfolding latin iso8859
in_each_set Latin x s h = rw h
in_each_set Iso8859 x s h = rw h
