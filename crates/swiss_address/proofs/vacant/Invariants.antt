-- The lines before line i are empty. Assumes nothing.
use Prim.Native.Nat.{ℕ, ◌+◌, ◌-◌}
use mathlib.Core.List.{List}
use mathlib.Core.Path.{◌≡◌}
use Rattle.sieve.specs.Lines.{cut, lines_of}
use Rattle.sieve.specs.Rules.{Rule}
use Rattle.findings.specs.Findings.{finds}
use Rattle.swiss_address.specs.Addresses.{empty_from, vacant}
use Rattle.swiss_address.proofs.vacant.Given as goal

-- the lines from line i on, of the seven from line n on
abbrev pub rest : ℕ → ℕ → List Rule
rest n i = empty_from i (n + 7 - i)

abbrev pub invariant-loop-i : goal.invariant-loop-i
invariant-loop-i l = finds (rest l.n l.i) (lines_of (cut l.bill)) ≡ finds (vacant l.n) (lines_of (cut l.bill))
