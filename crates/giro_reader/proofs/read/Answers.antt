-- `giro_reader::read` meets its contract: what the verdict says of the payload leaves one way for the reading to end. Assumes nothing.
use native.Mathlib.Omega.{arith}
use mathlib.Core.Path.{refl, ap, ◌∙◌}
use lib.ListN.{length}
use Rattle.std.proofs.lemmas.Result.{err_from_is_err_and}
use Rattle.sieve.specs.Lines.{bill_of}
use Rattle.sieve.proofs.Placing.{list_length}
use Rattle.girocode.specs.Girocode.{girocode}
use Rattle.runs.proofs.Lays.{laid_in_lem}
use Rattle.whole.proofs.Reading.{ends_refused, ends_short, ends_listed}
use Rattle.giro_judge.proofs.Places.{all_shown}
use Rattle.giro_reader.proofs.read.Goals as goal

pub returns-then-list-lt-LIST_SIZE : goal.returns-then-list-lt-LIST_SIZE
unfolding girocode
returns-then-list-lt-LIST_SIZE c = ends_short c.judge.ensures c.in_ok-n.was c.if-list-lt-LIST_SIZE.true refl

pub returns-in_err-n : goal.returns-in_err-n
returns-in_err-n c =
    let (f, is, same) = err_from_is_err_and c.from_residual.result c.from_residual.ensures.1 in
    rw (is, same) (ends_refused c.judge.ensures c.in_err-n.was refl)

pub returns : goal.returns
unfolding girocode
returns c =
    let judged = c.judge.ensures in
    let bill = bill_of c.args.payload.now in
    let shown = all_shown (rw c.in_ok-n.was at judged) in
    let size = ap length shown ∙ list_length girocode bill in
    let laid = c.lay.ensures.dest_after ∙ laid_in_lem _ _ (omega (arith, size, c.if-list-lt-LIST_SIZE.false)) in
    ends_listed judged c.in_ok-n.was c.if-list-lt-LIST_SIZE.false (rw (size, shown) at laid)
