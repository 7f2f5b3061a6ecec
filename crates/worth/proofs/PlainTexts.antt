-- Texts of characters of one byte: those of an IBAN and a QR reference are, also after a slip. Assumes nothing.
use Prim.Native.Nat.{ℕ, ◌≤◌}
use native.Mathlib.Omega.{arith}
use mathlib.Core.Bool.{true, ◌||◌, and-eq-true_iff}
use mathlib.Core.List.{[], ◌∷◌}
use mathlib.Core.Path.{◌≡◌, refl, sym, ap, ◌∙◌}
use lib.ListN.{length, take, drop, length-drop}
use lib.Seq.{drop-drop, take_all}
use borrow.Author.Tests.{eqb-true, le-leb}
use Rattle.sieve.specs.declared.Charset.TheVariants.{Latin}
use Rattle.sieve.specs.Bytes.{Bytes, ascii, same, every}
use Rattle.sieve.specs.Letters.{digit, capital, small, digit_or_capital}
use Rattle.sieve.specs.Characters.{Text, none_left, character}
use Rattle.sieve.specs.Latin.{in_one, latin}
use Rattle.sieve.proofs.Bounds.{is_within, same_is}
use Rattle.sieve.proofs.Charsets.{in_each_set}
use Rattle.runs.proofs.Parts.{every_parted, every_weaker}
use Rattle.swiss.specs.Forms.{iban}
use Rattle.making.proofs.Texts.{all4}
use Rattle.worth.specs.Slips.{is_letter, same_kind}
use Rattle.worth.proofs.Tests.{one_of}

-- bytes 20 to 7E are text
pub plain_text : (s : Bytes) → every in_one s ≡ true → Text latin s
plain_text [] e = none_left
plain_text (x ∷ s) e = let (h, k) = (and-eq-true_iff (in_one x) _).0 e in character (x ∷ []) s 0 refl (in_each_set Latin x s h) (plain_text s k)

between : (lo hi x : ℕ) → 0x20 ≤ lo → hi ≤ 0x7E → lo ≤ x → x ≤ hi → in_one x ≡ true
between lo hi x a b c d = rw (le-leb 0x20 x (omega arith)) (le-leb x 0x7E (omega arith))

pub plain_digit : (x : ℕ) → digit x ≡ true → in_one x ≡ true
plain_digit x e = let (a, b) = is_within 48 57 x e in between 48 57 x (omega arith) (omega arith) a b

plain_capital : (x : ℕ) → capital x ≡ true → in_one x ≡ true
plain_capital x e = let (a, b) = is_within 65 90 x e in between 65 90 x (omega arith) (omega arith) a b

plain_small : (x : ℕ) → small x ≡ true → in_one x ≡ true
plain_small x e = let (a, b) = is_within 97 122 x e in between 97 122 x (omega arith) (omega arith) a b

plain_either : (x : ℕ) → digit_or_capital x ≡ true → in_one x ≡ true
plain_either x e = one_of (digit x) (capital x) e (plain_digit x) (plain_capital x)

-- what is of a kind with another is a digit or a letter
pub plain_kind : (x y : ℕ) → same_kind x y ≡ true → in_one y ≡ true
plain_kind x y e =
    one_of _ _ e
    (λ p. plain_digit y ((and-eq-true_iff (digit x) _).0 p).1)
    (λ p. one_of (capital y) (small y) ((and-eq-true_iff (is_letter x) _).0 p).1 (plain_capital y) (plain_small y))

pub plain_digits : (s : Bytes) → every digit s ≡ true → every in_one s ≡ true
plain_digits = every_weaker digit in_one plain_digit

country : (c : Bytes) → (same c (ascii "CH") || same c (ascii "LI")) ≡ true → every in_one c ≡ true
country c e = one_of (same c (ascii "CH")) (same c (ascii "LI")) e (λ p. ap (every in_one) (same_is c (ascii "CH") p)) (λ p. ap (every in_one) (same_is c (ascii "LI") p))

-- the characters of an IBAN
pub plain_iban : (s : Bytes) → iban s ≡ true → every in_one s ≡ true
plain_iban s e =
    let (n, c, d, r) = (all4 _ _ _ _).0 e in
    let l = eqb-true (length s) 21 n in
    let t : take 12 (drop 9 s) ≡ drop 7 (drop 2 s) = take_all 12 (drop 9 s) (simp length-drop (omega arith)) ∙ sym (drop-drop 7 2 s) in
    let account : every in_one (drop 7 (drop 2 s)) ≡ true = every_weaker digit_or_capital in_one plain_either (drop 7 (drop 2 s)) (rw t at r) in
    let digits : every in_one (take 7 (drop 2 s)) ≡ true = plain_digits (take 7 (drop 2 s)) d in
    every_parted in_one 2 s ∙ rw (country (take 2 s) c, every_parted in_one 7 (drop 2 s), digits) account
