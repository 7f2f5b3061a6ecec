-- Where a text has a character for each byte, so has each part of it. Assumes nothing.
use Prim.Native.Nat.{ℕ, ◌+◌, ◌-◌, ◌≤◌}
use native.Mathlib.Omega.{arith}
use mathlib.Core.Bool.{Bool, true, false, ◌||◌}
use mathlib.Core.Path.{◌≡◌, refl, sym, ap, ◌∙◌}
use lib.Dec.{leb}
use lib.ListN.{length, take, drop, length-append, length-take, take-append-drop, drop_of_length-le}
use lib.Seq.{drop-drop}
use borrow.Author.Tests.{leb-true}
use Rattle.sieve.specs.Bytes.{Bytes}
use Rattle.sieve.specs.Characters.{characters}
use Rattle.shown.specs.Shown.{OnePerByte, OnePerByteIf}
use Rattle.runs.proofs.Counts.{characters_few, characters_parted}

in_two_parts : (k : ℕ) (s : Bytes) → length s ≡ length (take k s) + length (drop k s)
in_two_parts k s = sym (ap length (take-append-drop k s)) ∙ length-append (take k s) (drop k s)

front : (k : ℕ) (s : Bytes) → OnePerByte s → OnePerByte (take k s)
front k s e = omega (arith, characters_parted k s, in_two_parts k s, characters_few (take k s), characters_few (drop k s))

back : (k : ℕ) (s : Bytes) → OnePerByte s → OnePerByte (drop k s)
back k s e = omega (arith, characters_parted k s, in_two_parts k s, characters_few (take k s), characters_few (drop k s))

pub plain_part : (n k : ℕ) (s : Bytes) → OnePerByte s → OnePerByte (take n (drop k s))
plain_part n k s e = front n (drop k s) (back k s e)

-- what lies at or past a place from which on a text is plain
behind : (r k n : ℕ) (s : Bytes) → r ≤ k → OnePerByte (drop r s) → OnePerByte (take n (drop k s))
behind r k n s h e =
    let sum : r + (k - r) ≡ k = omega arith in
    let there : drop (k - r) (drop r s) ≡ drop k s = drop-drop (k - r) r s ∙ ap (λ (m : ℕ). drop m s) sum in
    rw (← there) (plain_part n (k - r) (drop r s) e)

-- a line is plain where the whole text is, or where the text is plain from a place before it on
pub plain_line : (plain : Bool) (r k n : ℕ) (s : Bytes) → OnePerByteIf plain s → OnePerByte (drop r s) → (plain || leb r k) ≡ true → OnePerByte (take n (drop k s))
plain_line true r k n s all e h = plain_part n k s (all refl)
plain_line false r k n s all e h = behind r k n s (leb-true r k h) e

-- at its end a text is plain
pub plain_end : (s : Bytes) → OnePerByte (drop (length s) s)
unfolding characters
plain_end s = let h : length s ≤ length s = omega arith in rw (drop_of_length-le s h)

-- where it is plain from a place on, and the k bytes before that are k characters, it is plain from those on
pub plain_earlier : (k at : ℕ) (s : Bytes) → k ≤ at → characters (take k (drop (at - k) s)) ≡ k → OnePerByte (drop at s) → OnePerByte (drop (at - k) s)
plain_earlier k at s h e f =
    let from = drop (at - k) s in
    let sum : at - k + k ≡ at = omega arith in
    let rest : drop k from ≡ drop at s = drop-drop k (at - k) s ∙ ap (λ (m : ℕ). drop m s) sum in
    omega (arith, characters_parted k from, in_two_parts k from, characters_few (take k from), length-take k from, ap characters rest, ap length rest)

-- so it is plain where all bytes before that place are characters
pub plain_all : (at : ℕ) (s : Bytes) → characters (take at s) ≡ at → OnePerByte (drop at s) → OnePerByte s
plain_all at s e f =
    let none : at - at ≡ 0 = omega arith in
    rw none at (plain_earlier at at s (omega arith) (rw none e) f)
