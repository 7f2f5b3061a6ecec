-- `whole::whole` meets its contract: each test either ends in the answer or leaves the findings after it. Assumes nothing.
use Rattle.sieve.specs.Charsets.{of_set}
use Rattle.whole.proofs.Stages.{no_bytes, too_many, walk_refused, wrong_count, kept}
use Rattle.whole.proofs.whole.Goals as goal

pub returns-then-payload-eq0 : goal.returns-then-payload-eq0
returns-then-payload-eq0 c = no_bytes c.args.limits (of_set c.args.set) c.args.payload.now c.if-payload-eq0.true c.refuse.ensures.value c.refuse.ensures.places_after

pub returns-then-limits-payload : goal.returns-then-limits-payload
returns-then-limits-payload c = too_many c.args.limits (of_set c.args.set) c.args.payload.now c.if-payload-eq0.false c.if-limits-payload.true c.refuse-then-limits-payload.ensures.value c.refuse-then-limits-payload.ensures.places_after

pub returns-in-Err : goal.returns-in-Err
returns-in-Err c =
    walk_refused c.args.limits (of_set c.args.set) c.args.payload.now c.if-payload-eq0.false c.if-limits-payload.false c.walk.ensures _ c.in-Err.is c.refuse-in-Err.ensures.value c.refuse-in-Err.ensures.places_after

pub returns-then-limits-n : goal.returns-then-limits-n
returns-then-limits-n c = kept c.args.limits (of_set c.args.set) c.args.payload.now c.if-payload-eq0.false c.if-limits-payload.false c.walk.ensures _ _ c.in-Ok.is c.if-limits-n.true

pub returns-else-limits-n : goal.returns-else-limits-n
returns-else-limits-n c =
    wrong_count c.args.limits (of_set c.args.set) c.args.payload.now c.if-payload-eq0.false c.if-limits-payload.false c.walk.ensures _ _ c.in-Ok.is c.if-limits-n.false
    c.refuse-else-limits-n.ensures.value c.refuse-else-limits-n.ensures.places_after
