-- `swift::amount_line` meets its contract: the point stands before the last two digits. Assumes nothing.
use Prim.Native.Nat.{◌-◌}
use native.Mathlib.Nat.{sub-zero}
use native.Mathlib.Omega.{arith}
use mathlib.Core.List.{◌++◌}
use lib.ListN.{length, take, length-drop}
use Rattle.sieve.specs.Bytes.{ascii}
use Rattle.runs.proofs.Parts.{rest}
use Rattle.swift.proofs.Rows.{then_added, widened}
use Rattle.swift.proofs.Texts.{amount_parts}
use Rattle.swift.proofs.amount_line.Goals as goal

pub returns : goal.returns
returns c =
    let a = c.args in
    let s = a.paid.now in
    let begun = a.currency.now ++ take (length s - 3) s in
    let whole = rw (sub-zero (length s - 3)) at c.prefixed_line-line.ensures.1 in
    let comma = c.add-line.ensures in
    let cents = rw (rest (length s - 2) s) at c.add.ensures in (
      widened cents.small (omega (arith, c.requires.0, c.requires.1, length-drop (length s - 2) s, comma.small.few, c.prefixed_line-line.ensures.0.few)),
      rw (← amount_parts s c.requires.2 a.currency.now) (then_added (begun ++ ascii ",") cents (then_added begun comma whole)),
    )
