-- What a user of the writer may rely on, in each edition, stated on its contract. Assumes nothing.
use Prim.Native.Nat.{ℕ}
use mathlib.Core.List.{List}
use mathlib.Core.Path.{sym}
use Rattle.sieve.specs.declared.Break.{Break}
use Rattle.sieve.specs.declared.Fault.TheVariants.{Mismeasured}
use Rattle.std.specs.Prelude.{Err}
use Rattle.sieve.specs.Bytes.{Bytes}
use Rattle.sieve.specs.Promises.{lines_by, WriterPromises}
use Rattle.sieve.specs.Writing.{IsWritten}
use Rattle.sieve.proofs.Promises.{writer_promises}
use Rattle.swiss.specs.declared.Edition.{Edition}
use Rattle.swiss.specs.Swiss.{swiss_in}
use Rattle.swiss.proofs.Serves.{edition_serves}
use Rattle.writer.proofs.Eighteen.{WronglyCounted, wrongly_counted}

pub promises : (e : Edition) → WriterPromises (swiss_in e)
promises e = writer_promises (edition_serves e)

-- the Swiss bill's own: a refusal under 18 names the first line of which the list says another number of characters than it has
pub says_18 : (e : Edition) {text dest after : Bytes} {list : List ℕ} {count i : ℕ} {k : Break} → IsWritten (swiss_in e) text list count k dest (Err (Mismeasured i)) after
    → WronglyCounted list (lines_by (swiss_in e) text list count) i
says_18 e {text} {dest} {after} {list} {count} {i} {k} h = wrongly_counted e text list count k dest i (sym h.answer)
