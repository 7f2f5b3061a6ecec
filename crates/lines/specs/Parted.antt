-- How the lines of any bytes are parted. Assumes nothing.
use Rattle.std.specs.Prelude.{ℕ, suc, ◌+◌, cond, not, List, [], ◌∷◌, eqb, length, Some, None, Ok, Err}
use Rattle.std.proofs.Math.Option.{Option, some, none}
use Rattle.sieve.specs.declared.Break.{Break}
use Rattle.sieve.specs.declared.Break.TheVariants.{Lf, CrLf}
use Rattle.sieve.specs.declared.Fault.TheVariants.{MixedBreaks}
use Rattle.sieve.specs.Bytes.{Bytes, first_such}
use Rattle.sieve.specs.Lines.{cut, breaks_of, kind, same_break}
use Rattle.sieve.specs.Paper.{Answer}
use Rattle.lines.specs.declared.BreaksPassed.{BreaksPassed}

-- the kind of a break of this width
abbrev pub of_width : ℕ → Break
of_width n = cond (eqb n 2) CrLf Lf

-- n lines, parted by breaks of one kind; or the line that the first unlike break ends
abbrev pub parted : Break → ℕ → Option ℕ → Answer
parted k n none = Ok (n, k)
parted k n (some i) = Err (MixedBreaks i)

-- the breaks of any bytes, held against the first
unfoldable pub breaks_in : Bytes → Answer
breaks_in s = let ks = breaks_of (cut s) in parted (kind ks) (1 + length ks) (first_such (λ k. not (same_break (kind ks) k)) 1 ks)

-- how many of some breaks are CR LF
unfoldable pub returns_in : List Break → ℕ
returns_in [] = 0
returns_in (Lf ∷ ks) = returns_in ks
returns_in (CrLf ∷ ks) = suc (returns_in ks)

-- on the way

-- the breaks that were passed, and one more, which ends line n
abbrev pub held_by : BreaksPassed → Break → ℕ → BreaksPassed
held_by passed k n = elim passed.first [ None ↦ record { first = Some k; unlike = passed.unlike } | Some j ↦ elim passed.unlike [ None ↦ cond (same_break j k) passed (record { first = Some j; unlike = Some n }) | Some i ↦ passed ] ]

-- how n lines are parted, if these are the breaks between them
abbrev pub parted_by : BreaksPassed → ℕ → Answer
parted_by passed n = elim passed.unlike [ None ↦ Ok (n, elim passed.first [ None ↦ Lf | Some k ↦ k ]) | Some i ↦ Err (MixedBreaks i) ]
