-- What sieve shows of every layout's list and writer, for the girocode. Assumes nothing.
use Prim.Native.Nat.{ℕ, ◌≤◌}
use mathlib.Core.List.{List, [], ◌++◌}
use mathlib.Core.Path.{◌≡◌, refl}
use lib.ListN.{length, drop}
use Rattle.sieve.specs.declared.Break.{Break}
use Rattle.sieve.specs.Bytes.{Bytes}
use Rattle.sieve.specs.Lines.{bill_of}
use Rattle.sieve.specs.Verdict.{accepted, verdict}
use Rattle.sieve.specs.Paper.{laid}
use Rattle.sieve.specs.Places.{places_of, list_size}
use Rattle.sieve.specs.Promises.{lines_by}
use Rattle.sieve.specs.Writing.{handed, write_answer}
use Rattle.sieve.proofs.Measuring.{lines_alone}
use Rattle.sieve.proofs.WriterPromises.{round_trip}
use Rattle.girocode.specs.Girocode.{girocode}
use Rattle.girocode.proofs.Serves.{girocode_serves}

-- the list of places has 24 numbers
pub list_size_lem : list_size girocode ≡ 24
unfolding girocode
list_size_lem = refl

-- it says no more of a line than where it lies

pub no_measures : girocode.measures ≡ []
unfolding girocode
no_measures = refl

pub lie_as_listed : (text : Bytes) (n : ℕ) (list : List ℕ) → lines_by girocode text list n ≡ handed text list n
lie_as_listed = lines_alone girocode no_measures

-- an accepted girocode is written again, from its own list of places, as the same bytes
pub girocode_round_trip : (p : Bytes) (n : ℕ) (k : Break) (rest : List ℕ) (dest : Bytes) → verdict girocode p ≡ accepted n k → length p ≤ length dest
    → write_answer girocode p (places_of girocode (bill_of p) ++ rest) n k dest ≡ record { answer = laid (length p); lent = p ++ drop (length p) dest }
girocode_round_trip = round_trip girocode_serves
