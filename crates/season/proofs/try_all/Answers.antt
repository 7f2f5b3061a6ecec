-- `season::try_all` meets its contract: bill after bill, what is listed and summed so far. Assumes nothing.
use native.Mathlib.Omega.{arith}
use Rattle.season.proofs.Paying.{outcome_most}
use Rattle.season.proofs.Trying.{one_tried, all_tried}
use Rattle.season.proofs.try_all.Goals as goal

pub overflow_add-francs : goal.overflow_add-francs
overflow_add-francs c =
    let (francs, euros) = outcome_most c.try_bill-bill.ensures in
    omega (arith, c.loop-i-test.true, c.args.gathered.gathered.few, c.loop-i.invariant.1.low_francs, francs, euros)

pub overflow_add-euros : goal.overflow_add-euros
overflow_add-euros c =
    let (francs, euros) = outcome_most c.try_bill-bill.ensures in
    omega (arith, c.loop-i-test.true, c.args.gathered.gathered.few, c.loop-i.invariant.1.low_euros, francs, euros)

pub loop-i-preserved : goal.loop-i-preserved
loop-i-preserved c =
    let b = c.args.gathered.bills in
    (omega (arith, c.loop-i-test.true), one_tried b.buffer.now b.places.now b.count c.loop-i.i c.loop-i-test.true c.loop-i.invariant.1 c.requires (rw c.bill.ensures at c.try_bill-bill.ensures) c.list_position-n.ensures.value c.list_position-n.ensures.list_after)

pub returns : goal.returns
returns c =
    let (n_is, c_is, e_is, list_is) = all_tried _ _ _ c.loop-i-test.false c.loop-i.invariant.1 in
    record { answer = rw (n_is, c_is, e_is); lent = list_is }
