-- Answers as one number, for C: how every call packs a refusal, a place, a count of lines. Assumes nothing.
use Rattle.std.specs.Prelude.{ℕ, ◌+◌, ◌*◌, ◌<◌, min, Bool, true, false}
use Rattle.sieve.specs.declared.Break.{Break}
use Rattle.sieve.specs.declared.Break.TheVariants.{Lf, CrLf}
use Rattle.sieve.specs.Paper.{Laying, laid, not_laid}
use Rattle.sieve.specs.Verdict.{Refusal, Verdict, accepted, refused}

abbrev pub shift : ℕ
shift = 1000

-- a refusal: 1000 times its number plus its line
abbrev pub packed_refusal : Refusal → ℕ
packed_refusal r = shift * r.number + r.line

-- a place: 1000 times the start plus the length
abbrev pub packed_place : ℕ → ℕ → ℕ
packed_place start bytes = shift * start + bytes

-- what a kind of break adds to a count of lines
abbrev pub mark : Break → ℕ
mark Lf = 0
mark CrLf = 100

-- a count of lines, plus 100 if their breaks are CR LF
abbrev pub packed_count : ℕ → Break → ℕ
packed_count n k = n + mark k

-- a verdict that packs: its line count is below 100, or the line that it names below 1000
abbrev pub Packs : Verdict → Type 0
Packs (accepted n k) = n < 100
Packs (refused r) = r.line < shift

-- a verdict without its kind of break
abbrev pub packed : Verdict → ℕ
packed (accepted n k) = n
packed (refused r) = packed_refusal r

-- a verdict with its kind of break
abbrev pub packed_verdict : Verdict → ℕ
packed_verdict (accepted n k) = packed_count n k
packed_verdict (refused r) = packed_refusal r

-- a laying that packs: its bytes are counted by 32 bits, or the line that it names is below 1000
abbrev pub PacksLaying : Laying → Type 0
PacksLaying (laid n) = n < 4294967296
PacksLaying (not_laid r) = r.line < shift

-- how many bytes were laid, or why none
abbrev pub packed_laying : Laying → ℕ
packed_laying (laid n) = n
packed_laying (not_laid r) = packed_refusal r

-- a count of lines as it is told: a packed line has three digits, so 999 where it is more
abbrev pub told_count : ℕ → ℕ
told_count n = min n 999

-- the kind of break that a flag asks for
abbrev pub break_for : Bool → Break
break_for true = CrLf
break_for false = Lf
