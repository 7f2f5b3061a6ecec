-- `pile::judge_bill` meets its contract: the entry of the verdict on a bill. Assumes nothing.
use Rattle.pile.proofs.Entries.{small_entry}
use Rattle.pile.proofs.judge_bill.Goals as goal

pub lay_entry-requires : goal.lay_entry-requires
lay_entry-requires c =
    (c.requires, rw c.judge_in-answer.ensures.answer (small_entry _ _))
