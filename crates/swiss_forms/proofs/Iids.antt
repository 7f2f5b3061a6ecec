-- The IIDs from 30000 to 31999 are those of five digits that begin with 30 or 31. Assumes nothing.
use Prim.Native.Nat.{ℕ, ◌+◌, ◌-◌, ◌*◌, ◌≤◌, ◌<◌}
use native.Mathlib.Omega.{arith}
use mathlib.Core.Bool.{Bool, true, false, ◌&&◌, ◌||◌, and-false, and-eq-true_iff}
use mathlib.Core.List.{[], ◌∷◌}
use mathlib.Core.Path.{◌≡◌, refl, sym}
use lib.Dec.{eqb, ltb, leb}
use lib.ListN.{length, take, drop, length-drop}
use lib.Seq.{length-take-le, take-take}
use borrow.Author.Tests.{eqb-true, eqb-false, ltb-true, ltb-false, leb-true, le-leb, lt-leb}
use Rattle.sieve.specs.Bytes.{Bytes, ascii, within, same, every}
use Rattle.sieve.specs.Letters.{digit}
use Rattle.sieve.specs.Mod97.{numeral}
use Rattle.sieve.proofs.EachPlace.{each_place_of}
use Rattle.swiss.specs.Forms.{iban_country, iban, qr_iban}
use Rattle.swiss.specs.Limits.{first_qr_iid, last_qr_iid}

-- a digit as a number
small : (x : ℕ) → digit x ≡ true → (48 ≤ x) × (x ≤ 57)
small x d = let (l, h) = (and-eq-true_iff (leb 48 x) (leb x 57)).0 d in (leb-true 48 x l, leb-true x 57 h)

-- the first two digits decide it
by_two : (a b v : ℕ) → digit a ≡ true → digit b ≡ true → 1000 * (10 * (a - 48) + (b - 48)) ≤ v → v < 1000 * (10 * (a - 48) + (b - 48)) + 1000 → (eqb a 51 && (eqb b 48 && true)) || (eqb a 51 && (eqb b 49 && true)) ≡ within first_qr_iid last_qr_iid v
by_two a b v da db low high = let (a-low, a-high) = small a da in let (b-low, b-high) = small b db in by_first (eqb a 51) refl (ltb a 51) refl
  where
    inside : 30000 ≤ v → v ≤ 31999 → true ≡ within first_qr_iid last_qr_iid v
    inside l h = rw (le-leb 30000 v l, le-leb v 31999 h)

    above : 31999 < v → false ≡ within first_qr_iid last_qr_iid v
    above h = rw (lt-leb v 31999 h) (sym (and-false (leb 30000 v)))

    by_second : a ≡ 51 → (p q : Bool) → eqb b 48 ≡ p → eqb b 49 ≡ q → (p && true) || (q && true) ≡ within first_qr_iid last_qr_iid v
    by_second e true q s t = let z = eqb-true b 48 s in inside (omega arith) (omega arith)
    by_second e false true s t = let z = eqb-true b 49 t in inside (omega arith) (omega arith)
    by_second e false false s t = let (b-low, b-high) = small b db in above (omega (arith, eqb-false b 48 s, eqb-false b 49 t))

    by_first : (p : Bool) → eqb a 51 ≡ p → (q : Bool) → ltb a 51 ≡ q → (p && (eqb b 48 && true)) || (p && (eqb b 49 && true)) ≡ within first_qr_iid last_qr_iid v
    by_first true e q f = by_second (eqb-true a 51 e) (eqb b 48) (eqb b 49) refl refl
    by_first false e true f = let (b-low, b-high) = small b db in rw (lt-leb 30000 v (omega (arith, ltb-true a 51 f))) refl
    by_first false e false f = above (omega (arith, ltb-false a 51 f, eqb-false a 51 e))

pub iid_begins : (t : Bytes) → length t ≡ 5 → every digit t ≡ true → same (take 2 t) (ascii "30") || same (take 2 t) (ascii "31") ≡ within first_qr_iid last_qr_iid (numeral 0 t)
unfolding numeral
iid_begins [] l d = absurd (omega arith)
iid_begins (a ∷ []) l d = absurd (omega arith)
iid_begins (a ∷ b ∷ []) l d = absurd (omega arith)
iid_begins (a ∷ b ∷ c ∷ []) l d = absurd (omega arith)
iid_begins (a ∷ b ∷ c ∷ x ∷ []) l d = absurd (omega arith)
iid_begins (a ∷ b ∷ c ∷ x ∷ y ∷ []) l d =
    let (da, d1) = (and-eq-true_iff (digit a) _).0 d in
    let (db, d2) = (and-eq-true_iff (digit b) _).0 d1 in
    let (dc, d3) = (and-eq-true_iff (digit c) _).0 d2 in
    let (dx, d4) = (and-eq-true_iff (digit x) _).0 d3 in
    let (dy, d5) = (and-eq-true_iff (digit y) true).0 d4 in
    let v = numeral 0 (a ∷ b ∷ c ∷ x ∷ y ∷ []) in
    let read : v ≡ 10 * (10 * (10 * (10 * (10 * 0 + (a - 48)) + (b - 48)) + (c - 48)) + (x - 48)) + (y - 48) = rw (da, db, dc, dx, dy) refl in
    by_two a b v da db (omega (arith, read)) (omega (arith, read, small c dc, small x dx, small y dy))
iid_begins (a ∷ b ∷ c ∷ x ∷ y ∷ z ∷ t) l d = absurd (omega arith)

-- an IBAN has such an IID, and its first two digits decide
pub of_iban : (s : Bytes) → iban s ≡ true → (length s ≡ 21) × (same (take 2 (drop 4 s)) (ascii "30") || same (take 2 (drop 4 s)) (ascii "31") ≡ qr_iban s)
of_iban s e =
    let (first-nine, _) = (and-eq-true_iff _ _).0 e in
    let (sized, d) = (and-eq-true_iff (eqb (length s) 21 && iban_country (take 2 s)) _).0 first-nine in
    let (l, _) = (and-eq-true_iff (eqb (length s) 21) _).0 sized in
    let size : length s ≡ 21 = eqb-true (length s) 21 l in
    let iid = take 5 (drop 4 s) in
    let digits : every digit iid ≡ true = (each_place_of digit 4 9 s (omega arith) (omega arith)).1 (λ i low high. (each_place_of digit 2 9 s (omega arith) (omega arith)).0 d i (omega arith) high) in
    let five : length iid ≡ 5 = length-take-le 5 (drop 4 s) (omega (arith, length-drop 4 s)) in
    (size, rw (take-take 2 5 (drop 4 s) (omega arith)) at (iid_begins iid five digits))
