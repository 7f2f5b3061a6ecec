-- What it means that a scan holds a payload. Assumes nothing.
use Rattle.std.specs.Prelude.{◌≤◌, ◌<◌, ◌≡◌, length}
use Rattle.sieve.specs.Bytes.{Bytes}
use Rattle.scanner.specs.declared.Scan.{Scan}
use Rattle.scanner.specs.Scanning.{too_many, bytes_held, most_in}

-- all of it lies in the front of the room; or there is too much of it, and that is noted
pub data Holds (p : Bytes) (t : Scan) : Type 0 where
  whole : length p ≤ most_in t.bytes → t.len ≡ length p → bytes_held t ≡ p → Holds p t
  overfull : most_in t.bytes < length p → t.len ≡ too_many → Holds p t
