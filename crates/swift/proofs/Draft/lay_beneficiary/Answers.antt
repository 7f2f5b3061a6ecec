-- `swift::Draft::lay_beneficiary` meets its contract. Assumes nothing.
use native.Mathlib.Omega.{arith}
use mathlib.Core.Bool.{true, false}
use mathlib.Core.List.{List}
use mathlib.Core.Path.{◌≡◌}
use Rattle.sieve.specs.Bytes.{Bytes}
use Rattle.sieve.specs.Lines.{cut, lines_of}
use Rattle.sieve.specs.Rules.{is}
use Rattle.swiss.specs.Limits.{combined}
use Rattle.swift.specs.Fields.{beneficiary}
use Rattle.swift.proofs.Following.{wider, then_followed}
use Rattle.swift.proofs.Draft.lay_beneficiary.Goals as goal
use Rattle.swift.proofs.Draft.lay_beneficiary.Goals.{Else-same, Then-same}

-- the type on line 5
abbrev ls : Bytes → List Bytes
ls p = lines_of (cut p)

is_combined : (c : Then-same) → is 5 combined (ls c.args.bill.now) ≡ true
is_combined c = rw (c.same.ensures, c.line.ensures) at c.if-same.true

is_structured : (c : Else-same) → is 5 combined (ls c.args.bill.now) ≡ false
is_structured c = rw (c.same.ensures, c.line.ensures) at c.if-same.false

pub returns-then-same : goal.returns-then-same
unfolding beneficiary
returns-then-same c =
    rw (is_combined (goal.at.returns-then-same c).Then-same) (then_followed 1 4 c.lay_bill_line.ensures c.lay_combined.ensures)

pub returns-else-same : goal.returns-else-same
unfolding beneficiary
returns-else-same c =
    rw (is_structured (goal.at.returns-else-same c).Else-same) (then_followed 1 4 c.lay_bill_line.ensures (wider 3 4 (omega arith) c.lay_structured.ensures))
