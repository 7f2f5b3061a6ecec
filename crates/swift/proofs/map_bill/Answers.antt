-- `swift::map_bill` meets its contract: the amount is asked about, the fields are made in a buffer, then room is asked about. Assumes nothing.
use Prim.Native.Nat.{◌≤◌}
use native.Mathlib.Nat.{sub-zero}
use native.Mathlib.Omega.{arith}
use mathlib.Core.Path.{sym, ap, ◌∙◌}
use lib.ListN.{length}
use Rattle.sieve.specs.Lines.{cut, lines_of}
use Rattle.runs.proofs.Lays.{laid_in_lem}
use Rattle.swift.specs.Fields.{contents}
use Rattle.swift.proofs.Bounds.{amount_formed}
use Rattle.swift.proofs.Making.{as_told}
use Rattle.swift.proofs.Stages.{no_amount, no_room, is_laid}
use Rattle.swift.proofs.map_bill.Goals as goal

pub returns-then-paid-eq0 : goal.returns-then-paid-eq0
returns-then-paid-eq0 c =
    λ e kept. no_amount e c.args.bill.now c.args.dest.now kept (ap length (sym c.line-paid.ensures) ∙ c.if-paid-eq0.true)

pub lay_fields-counts-requires-clause-payload_value : goal.lay_fields-counts-requires-clause-payload_value
lay_fields-counts-requires-clause-payload_value c = amount_formed c.requires.edition c.args.bill.now c.requires.kept (λ e. c.if-paid-eq0.false (ap length c.line-paid.ensures ∙ e))

pub returns-then-dest-n : goal.returns-then-dest-n
returns-then-dest-n c =
    λ e kept. no_room e c.args.bill.now c.args.dest.now kept (λ z. c.if-paid-eq0.false (ap length c.line-paid.ensures ∙ z)) (omega (arith, c.if-dest-n.true, as_told c.lay_fields-counts.ensures))

pub returns : goal.returns
returns c =
    let all_made = c.lay_fields-counts.ensures in
    let ls = lines_of (cut c.args.bill.now) in
    let fits : length (contents ls) ≤ length c.args.dest.now = omega (arith, c.if-dest-n.false, as_told all_made) in
    let laid = rw (sub-zero c.lay_fields-counts.result.bytes, all_made.laid) at c.lay.ensures.dest_after in
    λ e kept. is_laid e c.args.bill.now c.args.dest.now kept (λ z. c.if-paid-eq0.false (ap length c.line-paid.ensures ∙ z)) fits all_made.counts (laid ∙ laid_in_lem c.args.dest.now (contents ls) fits)
