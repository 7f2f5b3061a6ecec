-- Demand 3 for the girocode, and 002's example keeps every rule, with LF and with CRLF. Assumes nothing.
use mathlib.Core.Bool.{Bool, true, false, cond}
use mathlib.Core.List.{List}
use mathlib.Core.Path.{◌≡◌, refl}
use lib.Dec.{lit≤}
use Rattle.sieve.specs.declared.Break.{Break}
use Rattle.sieve.specs.declared.Break.TheVariants.{Lf, CrLf}
use Rattle.sieve.specs.Bytes.{Bytes}
use Rattle.sieve.specs.Lines.{Bill, cut, bill_of, written}
use Rattle.sieve.specs.Verdict.{accepted, verdict}
use Rattle.sieve.specs.Lawful.{Lawful}
use Rattle.sieve.specs.Keeps.{Keeps}
use Rattle.sieve.specs.Demand.{DemandThree}
use Rattle.sieve.proofs.DemandThree.{demand_three, accepted_keeps}
use Rattle.sieve.specs.Latin.{latin}
use Rattle.sieve.proofs.Latin.{lawful as latin-lawful}
use Rattle.sieve.specs.Iso8859.{iso8859}
use Rattle.girocode.specs.Coding.{read_as_iso, chosen}
use Rattle.girocode.specs.Girocode.{girocode}
use Rattle.girocode.specs.Base.{G}
use Rattle.girocode.specs.Table.{table, the_table}
use Rattle.sieve.proofs.Cases.{accepted_row}
use Rattle.sieve.proofs.Iso8859.{lawful as iso-lawful}

either : (b : Bool) → Lawful (cond b iso8859 latin)
either true = iso-lawful
either false = latin-lawful

-- whatever the third line chooses is lawful
pub chosen_lawful : (ls : List Bytes) → Lawful (chosen ls)
chosen_lawful ls = either (read_as_iso ls)

-- the girocode's verdict meets demand 3
pub girocode_demand_three : DemandThree girocode (verdict girocode)
unfolding girocode
girocode_demand_three = demand_three girocode chosen_lawful (lit≤ tt)

abbrev pub example : Break → Bill
example k = record { lines = G; break = k }

-- the example is accepted, by the first two rows of the table, and read back

example_accepted : (k : Break) → verdict girocode (written (example k)) ≡ accepted 12 k
unfolding written table
example_accepted Lf = accepted_row girocode table the_table 0 refl
example_accepted CrLf = accepted_row girocode table the_table 1 refl

example_read : (k : Break) → bill_of (written (example k)) ≡ example k
unfolding written bill_of cut
example_read Lf = refl
example_read CrLf = refl

-- the example keeps every rule
pub example_keeps : (k : Break) → Keeps girocode (example k)
unfolding girocode
example_keeps k = accepted_keeps girocode chosen_lawful (lit≤ tt) (example k) 12 k (example_read k) (example_accepted k)
