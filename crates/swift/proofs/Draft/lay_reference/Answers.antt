-- `swift::Draft::lay_reference` meets its contract: by the kind of reference. Assumes nothing.
use native.Mathlib.Omega.{arith}
use mathlib.Core.List.{[], ◌++◌, append_assoc}
use mathlib.Core.Path.{refl}
use Rattle.sieve.specs.Bytes.{ascii}
use Rattle.swift.proofs.Rows.{then_added}
use Rattle.swift.proofs.Draft.lay_reference.Goals as goal

pub returns-then-same : goal.returns-then-same
returns-then-same c =
    rw (← c.same.ensures, c.if-same.true)
    (c.lay_remittance.ensures.follows [] c.no_characters.ensures.1 (λ e. refl))

pub returns : goal.returns
returns c =
    let a = c.args in
    let whole = then_added (a.kind.now ++ ascii "/") c.add.ensures c.prefixed_line-line.ensures.1 in
    rw (← c.same.ensures, c.if-same.false)
    (c.lay_remittance-2.ensures.follows _ (rw (append_assoc a.kind.now (ascii "/") a.reference.now) at whole) (λ e. absurd (omega arith)))
