-- What the check digits of a QR reference and of an IBAN are worth, place by place. Assumes nothing.
use Prim.Native.Nat.{ℕ, ◌+◌}
use native.Mathlib.Omega.{arith}
use mathlib.Core.Bool.{true, false, ◌&&◌, and-eq-true_iff}
use mathlib.Core.Path.{◌≡◌, sym, ap, ◌∙◌}
use lib.ListN.{length, get_or, take, drop}
use lib.Seq.{length-take-le}
use Rattle.sieve.specs.Bytes.{Bytes}
use Rattle.sieve.specs.Letters.{digit, capital, small}
use Rattle.swiss.specs.Forms.{iban}
use Rattle.sieve.proofs.Bounds.{is_within}
use Rattle.worth.specs.Slips.{is_letter, same_kind}
use Rattle.worth.specs.Worth.{passes_qrr, passes_iban, QrrChanged, QrrSwapped, IbanChanged, IbanSwapped}
use Rattle.worth.proofs.Tests.{one_of, never}
use Rattle.worth.proofs.Texts.{in_three_lem, in_four}
use Rattle.worth.proofs.Qrr.{passed, one_qrr, swapped_qrr}
use Rattle.worth.proofs.IbanForm.{formed}
use Rattle.worth.proofs.Iban.{one_iban, swapped_iban}

pub qrr_changed : QrrChanged
qrr_changed s i y e h d =
    let l = (passed s e).0 in
    let w = in_three_lem s i (omega arith) in
    never _ (λ f. d (one_qrr (take i s) (drop (i + 1) s) (get_or s i 0) y (sym (ap passes_qrr w) ∙ e) f))

pub qrr_swapped : QrrSwapped
qrr_swapped s i e h d =
    let l = (passed s e).0 in
    let w = in_four s i (omega arith) in
    swapped_qrr (take i s) (drop (i + 2) s) (get_or s i 0) (get_or s (i + 1) 0) (sym (ap passes_qrr w) ∙ e) d

-- 21 characters
long : (s : Bytes) → passes_iban s ≡ true → length s ≡ 21
long s e = (formed s ((and-eq-true_iff (iban s) _).0 e).0).0

-- two of a kind are both digits, or neither is
of_a_kind : (x y : ℕ) → same_kind x y ≡ true → digit x ≡ digit y
of_a_kind x y e =
    one_of (digit x && digit y) (is_letter x && is_letter y) e
    (λ p. let (a, b) = (and-eq-true_iff (digit x) _).0 p in a ∙ sym b)
    (λ p. let (a, b) = (and-eq-true_iff (is_letter x) _).0 p in no_digit x a ∙ sym (no_digit y b))
  where
    no_digit : (x : ℕ) → is_letter x ≡ true → digit x ≡ false
    no_digit x e =
        never _
        (λ f. one_of (capital x) (small x) e
        (λ p. omega (arith, is_within 48 57 x f, is_within 65 90 x p))
        (λ p. omega (arith, is_within 48 57 x f, is_within 97 122 x p)))

pub iban_changed : IbanChanged
iban_changed s i y e h k m d =
    let l = long s e in
    let w = in_three_lem s i (omega arith) in
    let n = length-take-le i s (omega arith) in
    never _ (λ f. d (one_iban (take i s) (drop (i + 1) s) (get_or s i 0) y (sym (ap passes_iban w) ∙ e) f (omega arith) (of_a_kind (get_or s i 0) y m)))

pub iban_swapped : IbanSwapped
iban_swapped s i e h k d =
    let l = long s e in
    let w = in_four s i (omega arith) in
    let n = length-take-le i s (omega arith) in
    rw n at (swapped_iban (take i s) (drop (i + 2) s) (get_or s i 0) (get_or s (i + 1) 0) (sym (ap passes_iban w) ∙ e) (omega arith) d)
