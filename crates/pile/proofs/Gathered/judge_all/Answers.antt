-- `pile::Gathered::judge_all` meets its contract: entry is laid behind entry. Assumes nothing.
use native.Mathlib.Omega.{arith}
use Rattle.joining.proofs.Laying.{whole}
use Rattle.pile.proofs.Entries.{entries_length, entry_laid}
use Rattle.pile.proofs.Gathered.judge_all.Goals as goal

pub loop-i-preserved : goal.loop-i-preserved
loop-i-preserved c =
    (omega (arith, c.loop-i-test.true), entry_laid _ _ _ _ c.loop-i-test.true c.requires c.loop-i.invariant.1 (rw c.bill.ensures at c.judge_bill.ensures))

pub returns : goal.returns
returns c =
    let b = c.args.self.bills in
    (whole (omega (arith, entries_length c.args.edition b.buffer.now b.places.now b.count, c.loop-i-test.false)) c.loop-i.invariant.1).1
