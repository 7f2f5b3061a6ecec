-- `reader::read` meets its contract: what the verdict says of the payload leaves one way for the reading to end. Assumes nothing.
use Prim.Native.Nat.{◌<◌}
use native.Mathlib.Omega.{arith}
use mathlib.Core.Path.{refl}
use lib.ListN.{length}
use Rattle.std.proofs.lemmas.Result.{err_from_is_err_and}
use Rattle.sieve.specs.Lines.{bill_of}
use Rattle.sieve.proofs.Placing.{list_length}
use Rattle.swiss.specs.Swiss.{swiss_in}
use Rattle.whole.proofs.Reading.{ends_refused, ends_short, ends_listed}
use Rattle.reader.proofs.Shown.{inside, shown}
use Rattle.reader.proofs.read.Goals as goal

pub returns-then-list-lt-LIST_SIZE : goal.returns-then-list-lt-LIST_SIZE
returns-then-list-lt-LIST_SIZE c =
    let short : length c.args.list.now < 102 = omega (arith, c.if-list-lt-LIST_SIZE.true) in
    ends_short c.judge_in.ensures c.in_ok-n.was short refl

pub show-requires : goal.show-requires
show-requires c =
    let judged = c.judge_in.ensures in
    (inside _ (rw c.in_ok-n.was at judged), c.if-list-lt-LIST_SIZE.false)

pub returns-in_err-n : goal.returns-in_err-n
returns-in_err-n c =
    let (f, is, same) = err_from_is_err_and c.from_residual.result c.from_residual.ensures.1 in
    rw (is, same) (ends_refused c.judge_in.ensures c.in_err-n.was refl)

pub returns : goal.returns
returns c =
    let judged = c.judge_in.ensures in
    let list = shown _ (rw c.in_ok-n.was at judged) in
    let asked = c.args in
    let size = list_length (swiss_in asked.edition) (bill_of asked.payload.now) in
    ends_listed judged c.in_ok-n.was c.if-list-lt-LIST_SIZE.false (rw (list, size) at c.show.ensures)
