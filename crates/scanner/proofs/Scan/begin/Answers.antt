-- `scanner::Scan::begin` meets its contract. Assumes nothing.
use mathlib.Core.Path.{refl}
use Rattle.scanner.specs.Scanning.{fresh}
use Rattle.scanner.proofs.Scan.begin.Goals as goal

pub returns : goal.returns
unfolding fresh
returns c = refl
