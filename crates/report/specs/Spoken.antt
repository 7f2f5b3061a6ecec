-- The line that the program writes of a verdict. Assumes nothing.
use Rattle.std.specs.Prelude.{ℕ, ◌<◌, [], ◌∷◌, ◌++◌}
use Rattle.std.proofs.Math.Option.{Option, some, none, get_or}
use Rattle.std.specs.Borrow.{Bor}
use denote.Triple.Both.{Both}
use Rattle.sieve.specs.declared.Break.{Break}
use Rattle.sieve.specs.declared.Break.TheVariants.{Lf, CrLf}
use Rattle.sieve.specs.declared.Fault.{Fault}
use Rattle.sieve.specs.Bytes.{Bytes, ascii}
use Rattle.sieve.specs.Decimal.{decimal_in}
use Rattle.sieve.specs.Paper.{paper_fault}
use Rattle.sieve.specs.Rules.{Layout}
use Rattle.sieve.specs.Verdict.{Verdict, accepted, refused, verdict}

-- a number in decimal digits, with no zeros in front: any number of 64 bits has at most 20
unfoldable pub in_decimal : ℕ → Bytes
in_decimal n = decimal_in 20 n

abbrev pub break_name : Break → Bytes
break_name Lf = ascii "LF"
break_name CrLf = ascii "CRLF"

abbrev pub line_end : Bytes
line_end = 10 ∷ []

-- the place of the byte that a refusal points at, where it points at one
abbrev pub spoken_place : Option ℕ → Bytes
spoken_place none = []
spoken_place (some at) = ascii " byte " ++ in_decimal at

unfoldable pub spoken : Verdict → Bytes
spoken (accepted n k) = ascii "accepted " ++ (in_decimal n ++ (ascii " lines " ++ (break_name k ++ line_end)))
spoken (refused r) = ascii "refused " ++ (in_decimal r.number ++ (ascii " line " ++ (in_decimal r.line ++ (spoken_place r.place ++ line_end))))

-- so of a fault of the code
abbrev pub spoken_fault : Fault → Bytes
spoken_fault f = spoken_place (paper_fault f).place

-- so of a payload that is lent, under a layout
abbrev pub spoken_in : Layout → Both (Bor Bytes) (Bor Bytes) → Bytes
spoken_in L payload = spoken (verdict L payload.entry.now)

-- every number that is spoken has at most three digits
abbrev pub ThreeDigits : Verdict → Type 0
ThreeDigits (accepted n k) = n < 1000
ThreeDigits (refused r) = (r.number < 1000) × (r.line < 1000) × (get_or r.place 0 < 1000)
