-- The characters of ISO 8859-1 are lawful, and text of them has as many as bytes. Assumes nothing.
use Prim.Native.Nat.{ℕ, suc}
use native.Mathlib.Nat.{suc-ne-zero}
use native.Mathlib.Omega.{arith}
use mathlib.Core.Bool.{Bool, true, false, true≢false, false≢true, cond}
use mathlib.Core.List.{[], ◌∷◌, ◌++◌}
use mathlib.Core.Path.{◌≡◌, refl, sym, ◌∙◌, ap}
use lib.ListN.{length, get_or, length-append}
use Rattle.sieve.specs.Bytes.{Bytes}
use Rattle.sieve.specs.Characters.{Text, none_left, character, count}
use Rattle.sieve.specs.Lawful.{Unbroken, no_more, one_more, Lawful}
use Rattle.sieve.specs.Iso8859.{iso_byte, iso8859}

-- neither LF nor CR is one, and none begins at the end
unbroken : (s : Bytes) (b : Bool) → iso_byte (get_or s 0 0) ≡ b → Unbroken (cond b 1 0) s
unbroken s false h = no_more
unbroken [] true h = absurd (false≢true h)
unbroken (x ∷ s) true h = one_more (λ e. true≢false (sym h ∙ ap iso_byte e)) (λ e. true≢false (sym h ∙ ap iso_byte e)) no_more

own : (c s t : Bytes) (n : ℕ) → length c ≡ suc n → iso8859 (c ++ s) ≡ suc n → iso8859 (c ++ t) ≡ suc n
unfolding iso8859
own [] s t n e h = absurd (suc-ne-zero n (sym e))
own (x ∷ c) s t n e h = h

pub lawful : Lawful iso8859
unfolding iso8859
lawful = record { unbroken = λ s. unbroken s (iso_byte (get_or s 0 0)) refl; own = own }

one_byte : (b : Bool) (n : ℕ) → cond b 1 0 ≡ suc n → n ≡ 0
one_byte true n h = omega arith
one_byte false n h = omega arith

one_longer : (c s : Bytes) (n : ℕ) → length c ≡ suc n → iso8859 (c ++ s) ≡ suc n → length (c ++ s) ≡ suc (length s)
unfolding iso8859
one_longer [] s n e h = absurd (suc-ne-zero n (sym e))
one_longer (x ∷ c) s n e h = let z = one_byte (iso_byte x) n h in omega (arith, length-append (x ∷ c) s)

-- the length in bytes is the number of characters
pub iso_counts : {l : Bytes} (t : Text iso8859 l) → length l ≡ count t
iso_counts none_left = refl
iso_counts (character c s n e h t) = one_longer c s n e h ∙ ap suc (iso_counts t)
