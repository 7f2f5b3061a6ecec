-- What the third line chooses: the allowed characters, and how a line's length is counted. Assumes nothing.
use Rattle.std.specs.Prelude.{ℕ, cond, List, length}
use Rattle.sieve.specs.Bytes.{Bytes}
use Rattle.sieve.specs.Characters.{Width, characters}
use Rattle.sieve.specs.Rules.{When, is}
use Rattle.sieve.specs.Latin.{latin}
use Rattle.sieve.specs.Iso8859.{iso8859}
use Rattle.girocode.specs.Limits.{iso8859_1}

-- the third line is 2
abbrev pub read_as_iso : When
read_as_iso = is 3 iso8859_1

-- ISO 8859-1 exactly then, otherwise 01's characters
abbrev pub chosen : List Bytes → Width
chosen ls = cond (read_as_iso ls) iso8859 latin

-- a length in characters: under ISO 8859-1 every byte is one, A0 to BF too
abbrev pub size : List Bytes → Bytes → ℕ
size ls l = cond (read_as_iso ls) (length l) (characters l)
