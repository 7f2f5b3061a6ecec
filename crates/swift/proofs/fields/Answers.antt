-- `swift::fields` meets its contract: what the reader accepts is mapped. Assumes nothing.
use Rattle.std.proofs.lemmas.Result.{err_from_is_err_and}
use Rattle.swift.proofs.Stages.{clean, payable, well_listed, not_read}
use Rattle.swift.proofs.fields.Goals as goal

pub new-requires : goal.new-requires
new-requires c = well_listed _ (rw c.in_ok-judge_in.was at c.judge_in.ensures)

pub map_bill-requires : goal.map_bill-requires
map_bill-requires c = rw c.new.ensures (payable _ (rw c.in_ok-judge_in.was at c.judge_in.ensures))

pub returns-in_err-judge_in : goal.returns-in_err-judge_in
returns-in_err-judge_in c =
    let (f, is, same) = err_from_is_err_and c.from_residual.result c.from_residual.ensures.1 in
    rw (is, same) (not_read c.args.edition c.args.payload.now c.args.dest.now (rw c.in_err-judge_in.was at c.judge_in.ensures))

pub returns : goal.returns
returns c =
    (rw c.new.ensures at c.map_bill.ensures) _ (clean _ (rw c.in_ok-judge_in.was at c.judge_in.ensures))
