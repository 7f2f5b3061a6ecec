-- The last part of the list of rules, and the lines of the first. Assumes nothing.
use mathlib.Core.List.{List, [], ◌∷◌, ◌++◌}
use Rattle.std.specs.Borrow.{Bor}
use denote.Triple.Both.{Both}
use Rattle.sieve.specs.Bytes.{Bytes}
use Rattle.sieve.specs.Rules.{Rule}
use Rattle.girocode.specs.Girocode.{information, exclusive}

-- lines 1 to 4, of what a call is lent
abbrev pub header_lines : (tag version coding function : Both (Bor Bytes) (Bor Bytes)) → List Bytes
header_lines tag version coding function = tag.entry.now ∷ version.entry.now ∷ coding.entry.now ∷ function.entry.now ∷ []

-- lines 10 to 12, and those that go together
abbrev pub back : List Rule
back = information ++ (exclusive ∷ [])
