-- The size of an allowed line is the number of its characters, whichever characters the third line chooses. Assumes nothing.
use mathlib.Core.Bool.{Bool, true, false, cond}
use mathlib.Core.List.{List}
use mathlib.Core.Path.{◌≡◌}
use lib.ListN.{length}
use Rattle.sieve.specs.Bytes.{Bytes}
use Rattle.sieve.specs.Characters.{Text, count, characters}
use Rattle.sieve.specs.Latin.{latin}
use Rattle.sieve.specs.Iso8859.{iso8859}
use Rattle.sieve.proofs.Counting.{latin_counts}
use Rattle.sieve.proofs.Iso8859.{iso_counts}
use Rattle.girocode.specs.Coding.{read_as_iso, chosen, size}

pub size_counts : (ls : List Bytes) {l : Bytes} (t : Text (chosen ls) l) → size ls l ≡ count t
size_counts ls {l} = by_cases (read_as_iso ls)
  where
    by_cases : (b : Bool) (t : Text (cond b iso8859 latin) l) → cond b (length l) (characters l) ≡ count t
    by_cases true t = iso_counts t
    by_cases false t = latin_counts t
