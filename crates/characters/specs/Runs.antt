-- The run of bytes at the front that pass a test, and the row of characters that begins there. Assumes nothing.
use Rattle.std.specs.Prelude.{ℕ, suc, ◌*◌, Bool, cond, ◌&&◌, [], ◌∷◌, eqb}
use Rattle.sieve.specs.declared.Charset.{Charset}
use Rattle.sieve.specs.declared.Charset.TheVariants.{Latin, Iso8859}
use Rattle.sieve.specs.Bytes.{Bytes, within}
use Rattle.sieve.specs.Charsets.{of_set}
use Rattle.sieve.specs.Latin.{latin}

-- how many bytes at the front pass a test
unfoldable pub run : (ℕ → Bool) → Bytes → ℕ
run f [] = 0
run f (x ∷ s) = cond (f x) (suc (run f s)) 0

-- how many characters C3, C4 or C5 then 80 to BF are at the front
unfoldable pub accents : Bytes → ℕ
accents [] = 0
accents (x ∷ []) = 0
accents (x ∷ y ∷ s) = cond (within 0xC3 0xC5 x && within 0x80 0xBF y) (suc (accents s)) 0

-- how many bytes at the front are characters of a set: a row of these, or one other; 0 where none begins
abbrev pub characters_in : Charset → Bytes → ℕ
characters_in Latin s = cond (eqb (accents s) 0) (latin s) (2 * accents s)
characters_in Iso8859 s = of_set Iso8859 s
