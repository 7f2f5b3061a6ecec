-- `walk::list` meets its contract: the last line ends with the bytes, and the lines after it are absent. Assumes nothing.
use native.Mathlib.Omega.{arith}
use Rattle.walk.proofs.Stepping.{few}
use Rattle.walk.proofs.Coming.{one_noted, last_line}
use Rattle.walk.proofs.list.Goals as goal

pub overflow_add-feeds : goal.overflow_add-feeds
overflow_add-feeds c = omega (arith, few c.requires.here)

pub list_absent-requires-clause-filled : goal.list_absent-requires-clause-filled
list_absent-requires-clause-filled c =
    let s = c.args.s.now in
    let passed = c.args.passed in
    let here = c.requires.here in
    let short = c.if-s-gt-GREATEST.false in
    let filled = one_noted s c.args.places.now passed.start passed.feeds c.note-arg-1.given.0.1 _ (last_line here) here.before short (here.listed short) in
    rw c.note.ensures filled
