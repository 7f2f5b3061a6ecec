-- What the code answers of rules: nothing, or the fault of the first that lines break. Assumes nothing.
use Rattle.std.specs.Prelude.{ℕ, ◌-◌, Bool, cond, List, [], ◌∷◌, ◌++◌, eqb, replicate, Result, Ok, Err, ⊤}
use Rattle.sieve.specs.Bytes.{Bytes}
use Rattle.sieve.specs.Rules.{Rule}
use Rattle.sieve.specs.declared.Fault.{Fault}
use Rattle.sieve.specs.declared.Fault.TheVariants.{NoBytes, NotFixedText, NotEmpty, Missing, TooLong, BadForm, BadCheckDigits, Unpaired, TooLongTogether, UnreadCoding}

-- what is answered of a rule: its fault, where it is broken
abbrev pub unless : Bool → Fault → Result ⊤ Fault
unless broken fault = cond broken (Err fault) (Ok tt)

-- the first answer, if it is a fault; else the second
abbrev pub and_then : Result ⊤ Fault → Result ⊤ Fault → Result ⊤ Fault
and_then (Ok u) r = r
and_then (Err f) r = Err f

-- the fault that a broken rule about lines is, of number 6 to 13 or 17. No such rule has another number; it would be told as
-- rule 1, which no line breaks
abbrev pub fault_of : ℕ → ℕ → Fault
fault_of number line =
    cond (eqb number 6) (NotFixedText line)
    (cond (eqb number 7) (NotEmpty line)
    (cond (eqb number 8) (Missing line)
    (cond (eqb number 9) (TooLong line)
    (cond (eqb number 10) (BadForm line)
    (cond (eqb number 11) (BadCheckDigits line)
    (cond (eqb number 12) (Unpaired line)
    (cond (eqb number 13) (TooLongTogether line)
    (cond (eqb number 17) (UnreadCoding line)
    NoBytes))))))))

-- what rules find first in the lines of a bill: the fault of the first that is broken
unfoldable pub finds : List Rule → List Bytes → Result ⊤ Fault
finds [] ls = Ok tt
finds (r ∷ rs) ls = and_then (unless (r.broken ls) (fault_of r.number r.line)) (finds rs ls)

-- lines that stand from line n on, behind others of which nothing is said
abbrev pub from : ℕ → List Bytes → List Bytes
from n ls = replicate (n - 1) [] ++ ls
