-- `writer::write` meets its contract: the places are taken out of a list that is long enough. Assumes nothing.
use Prim.Native.Nat.{◌<◌}
use native.Mathlib.Omega.{arith}
use lib.ListN.{length}
use Rattle.joining.proofs.Stages.{short_list}
use Rattle.writer.proofs.write.Goals as goal

pub returns-then-places-lt-LIST_SIZE : goal.returns-then-places-lt-LIST_SIZE
returns-then-places-lt-LIST_SIZE c =
    let short : length c.args.places.now < 102 = omega (arith, c.if-places-lt-LIST_SIZE.true) in
    short_list short
