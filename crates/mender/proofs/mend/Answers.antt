-- `mender::mend` meets its contract. Assumes nothing.
use Rattle.mender.proofs.Answers.{too_many, whole_accepted, whole_reworked}
use Rattle.mender.proofs.mend.Goals as goal

pub returns-then-payload-gt-MOST : goal.returns-then-payload-gt-MOST
returns-then-payload-gt-MOST c = too_many _ _ c.if-payload-gt-MOST.true

pub returns-in-Ok : goal.returns-in-Ok
returns-in-Ok c = whole_accepted _ _ c.if-payload-gt-MOST.false c.verdict.ensures c.in-Ok.is c.lay_mended.ensures

pub returns-in-Err : goal.returns-in-Err
returns-in-Err c = whole_reworked _ _ c.if-payload-gt-MOST.false c.verdict.ensures c.in-Err.is c.rework.ensures
