-- What the check digits are worth in an accepted payload: the verdict on it after one slip. Assumes nothing.
use Prim.Native.Nat.{ℕ, ◌+◌, ◌≤◌, ◌<◌}
use native.Mathlib.Omega.{arith}
use mathlib.Core.Bool.{Bool, true, false, cond, and-eq-true_iff, false≢true}
use mathlib.Core.List.{[], ◌∷◌}
use mathlib.Core.Option.{some, none}
use mathlib.Core.Path.{◌≡◌, refl, sym, ap, ◌∙◌}
use lib.Dec.{leb}
use lib.ListN.{length, get_or, set, take, drop}
use lib.Seq.{length-take-le}
use borrow.Author.Tests.{leb-true}
use Rattle.sieve.specs.declared.Break.{Break}
use Rattle.sieve.specs.Bytes.{Bytes, every}
use Rattle.sieve.specs.Letters.{digit}
use Rattle.sieve.specs.Lines.{joined, written, bill_of}
use Rattle.sieve.specs.Pointing.{before_breaks}
use Rattle.sieve.specs.Latin.{in_one}
use Rattle.sieve.specs.Verdict.{Refusal, under, accepted, refused, verdict}
use Rattle.sieve.proofs.Findings.{Unbroken}
use Rattle.swiss.specs.Forms.{iban, qrr}
use Rattle.swiss.specs.declared.Edition.TheVariants.{V24}
use Rattle.swiss.specs.Swiss.{rules, swiss}
use Rattle.worth.specs.Slips.{changed, swapped, unseen_in_qrr}
use Rattle.worth.specs.Worth.{passes_qrr, passes_iban}
use Rattle.worth.specs.Bills.{line_in, refused_at, Accepted, UnderQrr, QrrChangedIn, QrrSwappedIn, IbanChangedIn, IbanSwappedIn}
use Rattle.worth.proofs.Texts.{every_changed, every_swapped, length_swapped, length_changed, in_three_lem, in_four}
use Rattle.worth.proofs.Qrr.{passed, form_changed, form_swapped}
use Rattle.worth.proofs.IbanForm.{formed, same_iid}
use Rattle.worth.proofs.Worth.{qrr_changed, qrr_swapped, iban_changed, iban_swapped}
use Rattle.worth.proofs.PlainTexts.{plain_text, plain_kind, plain_digits, plain_iban}
use Rattle.worth.proofs.Payloads.{accepted_bill, as_found, told}
use Rattle.worth.proofs.InPlace.{changed_in_line, swapped_in_line}
use Rattle.worth.proofs.LineRules.{kept_4, kept_29, other_4, other_29}

by_test : (n : ℕ) (k : Break) (b : Bool) (r : Refusal) → as_found n k (cond b none (some r)) ≡ cond b (accepted n k) (refused r)
by_test n k true r = refl
by_test n k false r = refl

module _ (p : Bytes) (n : ℕ) (k : Break) (h : Accepted p n k) where
  unbroken : Unbroken (rules V24) (bill_of p).lines
  unfolding swiss
  unbroken = (accepted_bill p n k h).keeps.unbroken

  enough : 31 ≤ length (bill_of p).lines
  unfolding swiss
  enough = (accepted_bill p n k h).keeps.enough

  -- the payload is its lines, joined again
  is_joined : p ≡ joined (bill_of p).break (bill_of p).lines
  unfolding written
  is_joined = sym (accepted_bill p n k h).writes

  -- so a slip in a line of it is one in the payload

  changed_in : (m i y : ℕ) → m < length (bill_of p).lines → i < length (get_or (bill_of p).lines m [])
      → changed (length (before_breaks (bill_of p).break (take m (bill_of p).lines)) + i) y p ≡ joined (bill_of p).break (set (bill_of p).lines m (changed i y (get_or (bill_of p).lines m [])))
  changed_in m i y a b =
      ap (changed (length (before_breaks (bill_of p).break (take m (bill_of p).lines)) + i) y) is_joined
      ∙ changed_in_line (bill_of p).break (bill_of p).lines m a i y b

  swapped_in : (m i : ℕ) → m < length (bill_of p).lines → i + 1 < length (get_or (bill_of p).lines m [])
      → swapped (length (before_breaks (bill_of p).break (take m (bill_of p).lines)) + i) p ≡ joined (bill_of p).break (set (bill_of p).lines m (swapped i (get_or (bill_of p).lines m [])))
  swapped_in m i a b =
      ap (swapped (length (before_breaks (bill_of p).break (take m (bill_of p).lines)) + i)) is_joined
      ∙ swapped_in_line (bill_of p).break (bill_of p).lines m a i b

  -- the IBAN, and a QR reference

  passing_iban : passes_iban (line_in 4 p) ≡ true
  passing_iban = kept_4 (bill_of p).lines unbroken

  long_iban : length (line_in 4 p) ≡ 21
  long_iban = (formed (line_in 4 p) ((and-eq-true_iff (iban (line_in 4 p)) _).0 passing_iban).0).0

  -- another text as line 4, of characters and as long
  other_iban : (t : Bytes) → every in_one t ≡ true → length t ≡ 21 → (passes_iban t ≡ true → take 5 (drop 4 t) ≡ take 5 (drop 4 (line_in 4 p)))
      → verdict swiss (joined (bill_of p).break (set (bill_of p).lines 3 t)) ≡ cond (passes_iban t) (accepted n k) (refused_at 4 (iban t))
  other_iban t c l iid =
      told p n k h 3 t (plain_text t c) (l ∙ sym long_iban) _ (other_4 (bill_of p).lines enough unbroken t (omega arith) iid)
      ∙ by_test n k (passes_iban t) (under (cond (iban t) 11 10) 4)

  module _ (q : UnderQrr p) where
    passing_qrr : passes_qrr (line_in 29 p) ≡ true
    passing_qrr = kept_29 (bill_of p).lines unbroken q

    -- another text as line 29
    other_qrr : (t : Bytes) → every in_one t ≡ true → length t ≡ 27 → verdict swiss (joined (bill_of p).break (set (bill_of p).lines 28 t)) ≡ cond (passes_qrr t) (accepted n k) (refused_at 29 (qrr t))
    other_qrr t c l =
        told p n k h 28 t (plain_text t c) (l ∙ sym (passed (line_in 29 p) passing_qrr).0) _ (other_29 (bill_of p).lines enough unbroken t (omega arith) q)
        ∙ by_test n k (passes_qrr t) (under (cond (qrr t) 11 10) 29)

pub qrr_changed_in : QrrChangedIn
qrr_changed_in p n k i y h q b o d =
    let s = line_in 29 p in
    let t = changed i y s in
    let e = passing_qrr p n k h q in
    let (l, f, _) = passed s e in
    let w = in_three_lem s i (omega arith) in
    let plain : every in_one t ≡ true = every_changed in_one (take i s) (drop (i + 1) s) (get_or s i 0) y (sym (ap (every in_one) w) ∙ plain_digits s f) o in
    let long : length t ≡ 27 = sym (length_changed (take i s) (drop (i + 1) s) (get_or s i 0) y) ∙ sym (ap length w) ∙ l in
    let form : qrr t ≡ digit y = form_changed (take i s) (drop (i + 1) s) (get_or s i 0) y (sym (ap passes_qrr w) ∙ e) d in
    let more = enough p n k h in
    ap (verdict swiss) (changed_in p n k h 28 i y (omega arith) (omega arith))
    ∙ other_qrr p n k h q t plain long
    ∙ ap (λ (c : Bool). cond c (accepted n k) (refused_at 29 (qrr t))) (qrr_changed s i y e b d)
    ∙ ap (refused_at 29) form

pub qrr_swapped_in : QrrSwappedIn
qrr_swapped_in p n k i h q b d =
    let s = line_in 29 p in
    let t = swapped i s in
    let e = passing_qrr p n k h q in
    let (l, f, _) = passed s e in
    let w = in_four s i (omega arith) in
    let x = get_or s i 0 in
    let y = get_or s (i + 1) 0 in
    let plain : every in_one t ≡ true = sym (every_swapped in_one (take i s) (drop (i + 2) s) x y) ∙ sym (ap (every in_one) w) ∙ plain_digits s f in
    let long : length t ≡ 27 = sym (length_swapped (take i s) (drop (i + 2) s) x y) ∙ sym (ap length w) ∙ l in
    let form : qrr t ≡ true = sym (form_swapped (take i s) (drop (i + 2) s) x y) ∙ sym (ap qrr w) ∙ ((and-eq-true_iff (qrr s) _).0 e).0 in
    let more = enough p n k h in
    ap (verdict swiss) (swapped_in p n k h 28 i (omega arith) (omega arith))
    ∙ other_qrr p n k h q t plain long
    ∙ ap (λ (c : Bool). cond c (accepted n k) (refused_at 29 (qrr t))) (qrr_swapped s i e b d)
    ∙ ap (λ (c : Bool). cond (unseen_in_qrr i s) (accepted n k) (refused_at 29 c)) form

pub iban_changed_in : IbanChangedIn
iban_changed_in p n k i y h a b m d =
    let s = line_in 4 p in
    let t = changed i y s in
    let e = passing_iban p n k h in
    let l = long_iban p n k h in
    let w = in_three_lem s i (omega arith) in
    let f : passes_iban t ≡ false = iban_changed s i y e a b m d in
    let plain : every in_one t ≡ true =
    every_changed in_one (take i s) (drop (i + 1) s) (get_or s i 0) y (sym (ap (every in_one) w) ∙ plain_iban s ((and-eq-true_iff (iban s) _).0 e).0) (plain_kind (get_or s i 0) y m) in
    let long : length t ≡ 21 = sym (length_changed (take i s) (drop (i + 1) s) (get_or s i 0) y) ∙ sym (ap length w) ∙ l in
    let more = enough p n k h in
    ap (verdict swiss) (changed_in p n k h 3 i y (omega arith) (omega arith))
    ∙ other_iban p n k h t plain long (λ g. absurd (false≢true (sym f ∙ g)))
    ∙ ap (λ (c : Bool). cond c (accepted n k) (refused_at 4 (iban t))) f

pub iban_swapped_in : IbanSwappedIn
iban_swapped_in p n k i h a b d =
    let s = line_in 4 p in
    let t = swapped i s in
    let e = passing_iban p n k h in
    let l = long_iban p n k h in
    let w = in_four s i (omega arith) in
    let x = get_or s i 0 in
    let y = get_or s (i + 1) 0 in
    let m = length-take-le i s (omega arith) in
    let r = iban_swapped s i e a b d in
    let plain : every in_one t ≡ true = sym (every_swapped in_one (take i s) (drop (i + 2) s) x y) ∙ sym (ap (every in_one) w) ∙ plain_iban s ((and-eq-true_iff (iban s) _).0 e).0 in
    let long : length t ≡ 21 = sym (length_swapped (take i s) (drop (i + 2) s) x y) ∙ sym (ap length w) ∙ l in
    let iid : passes_iban t ≡ true → take 5 (drop 4 t) ≡ take 5 (drop 4 s) =
    λ g.
    let past = leb-true 9 i ((and-eq-true_iff (leb 9 i) _).0 (sym r ∙ g)).0 in
    same_iid (take i s) (y ∷ x ∷ drop (i + 2) s) (x ∷ y ∷ drop (i + 2) s) (omega arith) ∙ sym (ap (λ (v : Bytes). take 5 (drop 4 v)) w) in
    let more = enough p n k h in
    ap (verdict swiss) (swapped_in p n k h 3 i (omega arith) (omega arith))
    ∙ other_iban p n k h t plain long iid
    ∙ ap (λ (c : Bool). cond c (accepted n k) (refused_at 4 (iban t))) r
