-- `scanner::Scan::close` meets its contract: the reader is asked about what is held. Assumes nothing.
use native.Mathlib.Omega.{arith}
use Rattle.scanner.proofs.Handing.{over_closed, held_closed}
use Rattle.scanner.proofs.Scan.close.Goals as goal

pub returns-then-n-gt-MOST_BYTES : goal.returns-then-n-gt-MOST_BYTES
returns-then-n-gt-MOST_BYTES c = over_closed _ _ _ (omega (arith, c.if-n-gt-MOST_BYTES.true))

pub returns : goal.returns
returns c = held_closed _ _ _ (omega (arith, c.if-n-gt-MOST_BYTES.false)) c.read.ensures
