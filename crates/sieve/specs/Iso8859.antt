-- ISO 8859-1 (002 prints 8895), as bytes. Assumes nothing.
use Rattle.std.specs.Prelude.{ℕ, Bool, cond, ◌||◌, get_or}
use Rattle.sieve.specs.Bytes.{within}
use Rattle.sieve.specs.Characters.{Width}

-- 20 to 7E, A0 to FF
abbrev pub iso_byte : ℕ → Bool
iso_byte x = within 0x20 0x7E x || within 0xA0 0xFF x

-- each character is one byte
unfoldable pub iso8859 : Width
iso8859 s = cond (iso_byte (get_or s 0 0)) 1 0
