-- `desk::trying::try_files` is safe. How long its arrays are is cited, since to count them out takes too long. Assumes nothing.
use Rattle.std.proofs.Common.{ℕ}
use lib.ListN.{length-replicate}
use Rattle.desk.proofs.trying.try_files.Goals as goal

pub gather_files-unread-requires : goal.gather_files-unread-requires
gather_files-unread-requires c = (c.requires, length-replicate {A = ℕ} 499000 0, length-replicate {A = ℕ} 1000 0)
