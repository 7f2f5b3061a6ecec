-- An IBAN made from its country, IID and account number passes form and check, and no other with these parts does. Assumes nothing.
use native.Mathlib.Omega.{arith}
use mathlib.Core.Bool.{Bool, true, false, ◌&&◌, ◌||◌, and-eq-true_iff}
use mathlib.Core.List.{◌++◌}
use mathlib.Core.Logic.{◌↔◌}
use mathlib.Core.Path.{◌≡◌, refl, sym, ap, ◌∙◌}
use lib.Dec.{eqb}
use lib.ListN.{length, take, drop, length-drop, take-append-drop}
use lib.Seq.{length-take-le, take_all, take_at, drop_at, drop-drop, take-add}
use borrow.Author.Tests.{eqb-true, eq-eqb}
use Rattle.sieve.specs.Bytes.{Bytes, ascii, within, same, every}
use Rattle.sieve.specs.Letters.{digit, digit_or_capital}
use Rattle.sieve.specs.Mod97.{numeral, pair}
use Rattle.swiss.specs.Limits.{first_qr_iid, last_qr_iid}
use Rattle.swiss.specs.Forms.{iban, qr_iban}
use Rattle.sieve.specs.Only.{Only}
use Rattle.sieve.specs.Pairs.{two_digits}
use Rattle.sieve.proofs.Bounds.{same_is}
use Rattle.runs.proofs.Parts.{every_append}
use Rattle.making.specs.Made.{iban_parts, made_iban, IbanOf}
use Rattle.making.proofs.Texts.{all3, all4, is_just}
use Rattle.making.proofs.OnePaired.{one_paired}

-- the seven digits of an IBAN are its pair and its IID
digits_parted : (s : Bytes) → every digit (take 7 (drop 2 s)) ≡ every digit (pair s) && every digit (take 5 (drop 4 s))
digits_parted s = ap (every digit) (rw drop-drop at (take-add 2 5 (drop 2 s))) ∙ every_append digit (pair s) (take 5 (drop 4 s))

-- the form of an IBAN, part by part
pub iban_parted : (s : Bytes) → (iban s ≡ true) ↔ ((two_digits (pair s) ≡ true) × (iban_parts (take 2 s) (take 5 (drop 4 s)) (drop 9 s) ≡ true))
iban_parted s = (parts, λ k. whole k.0 k.1)
  where
    parts : iban s ≡ true → (two_digits (pair s) ≡ true) × (iban_parts (take 2 s) (take 5 (drop 4 s)) (drop 9 s) ≡ true)
    parts e =
        let (n, h, d, a) = (all4 _ _ _ _).0 e in
        let l = eqb-true (length s) 21 n in
        let (p, i) = (and-eq-true_iff (every digit (pair s)) _).0 (sym (digits_parted s) ∙ d) in
        let k : length (drop 9 s) ≡ 12 = omega (arith, length-drop 9 s) in (
          (is_just 2 digit (pair s)).1 (length-take-le 2 (drop 2 s) (simp length-drop (omega arith)), p),
          (all3 _ _ _).1 (
            h,
            (is_just 5 digit (take 5 (drop 4 s))).1 (length-take-le 5 (drop 4 s) (simp length-drop (omega arith)), i),
            (is_just 12 digit_or_capital (drop 9 s)).1 (k, sym (ap (every digit_or_capital) (take_all 12 (drop 9 s) (omega arith))) ∙ a),
          ),
        )

    whole : two_digits (pair s) ≡ true → iban_parts (take 2 s) (take 5 (drop 4 s)) (drop 9 s) ≡ true → iban s ≡ true
    whole p q =
        let (h, i, a) = (all3 _ _ _).0 q in
        let (k, c) = (is_just 12 digit_or_capital (drop 9 s)).0 a in
        (all4 (eqb (length s) 21) _ _ _).1 (
          eq-eqb (length s) 21 (omega (arith, length-drop 9 s)),
          h,
          digits_parted s ∙ (and-eq-true_iff _ _).1 (((is_just 2 digit (pair s)).0 p).1, ((is_just 5 digit (take 5 (drop 4 s))).0 i).1),
          ap (every digit_or_capital) (take_all 12 (drop 9 s) (omega arith)) ∙ c,
        )

-- CH and LI have two letters
pub two_letters : (c : Bytes) → (same c (ascii "CH") || same c (ascii "LI")) ≡ true → length c ≡ 2
two_letters c e = by_cases (same c (ascii "CH")) refl e
  where
    by_cases : (b : Bool) → same c (ascii "CH") ≡ b → (b || same c (ascii "LI")) ≡ true → length c ≡ 2
    by_cases true f e = ap length (same_is c (ascii "CH") f)
    by_cases false f e = ap length (same_is c (ascii "LI") e)

-- exactly one IBAN passes for each country, IID and account number
pub one_iban : (country iid account : Bytes) → iban_parts country iid account ≡ true → Only (IbanOf country iid account) (made_iban country iid account)
one_iban country iid account f =
    let (u, i, a) = (all3 _ _ _).0 f in
    let l = ((is_just 5 digit iid).0 i).0 in
    let s = made_iban country iid account in
    let o = one_paired country (iid ++ account) (two_letters country u) in
    let (h, p, r, c) = o.has in
    let t : take 5 (drop 4 s) ≡ iid = ap (take 5) r ∙ take_at iid account 5 l in
    let d : drop 9 s ≡ account = sym (drop-drop 5 4 s) ∙ ap (drop 5) r ∙ drop_at iid account 5 l in
    record {
      has = (h, t, d, (iban_parted s).1 (p, rw (h, t, d) f), c);
      alone = λ x k.
          let (p, _) = (iban_parted x).0 k.3 in
          let r : drop 4 x ≡ iid ++ account = sym (take-append-drop 5 (drop 4 x)) ∙ rw (drop-drop 5 4 x, k.1, k.2) in
          o.alone x (k.0, p, r, k.4);
    }

-- what passes has parts of the right form: from others nothing can be made
pub iban_from : (country iid account s : Bytes) → IbanOf country iid account s → iban_parts country iid account ≡ true
iban_from country iid account s (h, i, a, f, c) = rw (h, i, a) at ((iban_parted s).0 f).1

-- it is a QR-IBAN exactly if its IID is 30000 to 31999
pub qr_iban_by_iid : (country iid account : Bytes) → iban_parts country iid account ≡ true → qr_iban (made_iban country iid account) ≡ within first_qr_iid last_qr_iid (numeral 0 iid)
qr_iban_by_iid country iid account f = ap (λ (i : Bytes). within first_qr_iid last_qr_iid (numeral 0 i)) (one_iban country iid account f).has.1
