-- What a BIC, an IBAN and a coding that is not read are, place by place. Assumes nothing.
use Prim.Native.Nat.{ℕ, ◌-◌, ◌≤◌, ◌<◌}
use native.Mathlib.Omega.{arith}
use mathlib.Core.Bool.{Bool, true, false, ◌&&◌, ◌||◌, false≢true, and-eq-true_iff, or-true}
use mathlib.Core.List.Memᴰ
use mathlib.Core.List.{List, [], ◌∷◌, ◌++◌, map, Memᴰ}
use mathlib.Core.Logic.{◌↔◌, ◌⊎◌, inl, inr, ⊎_elim}
use mathlib.Core.Path.{◌≡◌, refl, sym, ◌∙◌, ap}
use lib.Dec.{eqb, lit≤}
use lib.ListN.{length, get_or, take, drop, length-drop}
use lib.Seq.{take_all}
use borrow.Author.Tests.{eqb-true, eq-eqb, le-leb}
use Rattle.sieve.specs.Bytes.{Bytes, within, every}
use Rattle.sieve.specs.Cases.{lines}
use Rattle.sieve.specs.Letters.{digit, capital, digit_or_capital}
use Rattle.sieve.proofs.Bounds.{is_within}
use Rattle.sieve.proofs.EachPlace.{each_place_of}
use Rattle.sieve.proofs.Alphabets.{among, ten_digits, capitals, run, within_run, digit_among, capital_among, digit_or_capital_among}
use Rattle.girocode.specs.Forms.{unread_coding, bic, iban}

-- at each place from one on and below another stands one of these bytes
abbrev pub Each : Bytes → ℕ → ℕ → Bytes → Type 0
Each t from to s = (i : ℕ) → from ≤ i → i < to → among t (get_or s i 0) ≡ true

-- a part passes a test exactly if each byte of it is one of those that pass
each_among : (f : ℕ → Bool) (t : Bytes) → ((x : ℕ) → f x ≡ among t x) → (from to : ℕ) (s : Bytes) → from ≤ to → to ≤ length s
    → (every f (take (to - from) (drop from s)) ≡ true) ↔ Each t from to s
each_among f t is from to s h k =
    let e = each_place_of f from to s h k in
    (λ a i l m. sym (is (get_or s i 0)) ∙ e.0 a i l m, λ a. e.1 (λ i l m. is (get_or s i 0) ∙ a i l m))

-- and so does all that is left from a place on
left_among : (f : ℕ → Bool) (t : Bytes) → ((x : ℕ) → f x ≡ among t x) → (from : ℕ) (s : Bytes) → from ≤ length s → (every f (drop from s) ≡ true) ↔ Each t from (length s) s
left_among f t is from s h = rw (take_all (length s - from) (drop from s) (omega (arith, length-drop from s))) at (each_among f t is from (length s) s h (omega arith))

-- 8 or 11 characters, each of 0-9 A-Z
pub record Bic (s : Bytes) : Type 0 where
  pub long : (length s ≡ 8) ⊎ (length s ≡ 11)
  pub each : Each (ten_digits ++ capitals) 0 (length s) s

either_length : (n a b : ℕ) → ((eqb n a || eqb n b) ≡ true) ↔ ((n ≡ a) ⊎ (n ≡ b))
either_length n a b = (by_cases (eqb n a) refl, ⊎_elim (λ e. rw (eq-eqb n a e)) (λ e. rw (eq-eqb n b e) (or-true (eqb n a))))
  where
    by_cases : (c : Bool) → eqb n a ≡ c → (c || eqb n b) ≡ true → (n ≡ a) ⊎ (n ≡ b)
    by_cases true e h = inl (eqb-true n a e)
    by_cases false e h = inr (eqb-true n b h)

pub bic_is : (s : Bytes) → (bic s ≡ true) ↔ Bic s
bic_is s =
    let l = either_length (length s) 8 11 in
    let e = left_among digit_or_capital (ten_digits ++ capitals) digit_or_capital_among 0 s (omega arith) in
    let b = and-eq-true_iff (eqb (length s) 8 || eqb (length s) 11) (every digit_or_capital s) in
    (λ h. record { long = l.0 (b.0 h).0; each = e.0 (b.0 h).1 }, λ x. b.1 (l.1 x.long, e.1 x.each))

-- 5 to 34 characters: two capitals, two digits, then each of 0-9 A-Z
pub record Iban (s : Bytes) : Type 0 where
  pub least : 5 ≤ length s
  pub most : length s ≤ 34
  pub country : Each capitals 0 2 s
  pub pair : Each ten_digits 2 4 s
  pub rest : Each (ten_digits ++ capitals) 4 (length s) s

module _ (s : Bytes) where
  abbrev long : Bool
  long = within 5 34 (length s)

  abbrev country : Bool
  country = every capital (take 2 s)

  abbrev pair : Bool
  pair = every digit (take 2 (drop 2 s))

  abbrev rest : Bool
  rest = every digit_or_capital (drop 4 s)

  module _ (least : 5 ≤ length s) where
    country_is : (country ≡ true) ↔ Each capitals 0 2 s
    country_is = each_among capital capitals capital_among 0 2 s (lit≤ tt) (omega arith)

    pair_is : (pair ≡ true) ↔ Each ten_digits 2 4 s
    pair_is = each_among digit ten_digits digit_among 2 4 s (lit≤ tt) (omega arith)

    rest_is : (rest ≡ true) ↔ Each (ten_digits ++ capitals) 4 (length s) s
    rest_is = left_among digit_or_capital (ten_digits ++ capitals) digit_or_capital_among 4 s (omega arith)

  iban_so : iban s ≡ true → Iban s
  iban_so h =
      let (a, d) = (and-eq-true_iff (long && country && pair) rest).0 h in
      let (b, c) = (and-eq-true_iff (long && country) pair).0 a in
      let (w, e) = (and-eq-true_iff long country).0 b in
      let (least, most) = is_within 5 34 (length s) w in
      record { least = least; most = most; country = (country_is least).0 e; pair = (pair_is least).0 c; rest = (rest_is least).0 d }

  so_iban : Iban s → iban s ≡ true
  so_iban x =
      rw (le-leb 5 (length s) x.least, le-leb (length s) 34 x.most, (country_is x.least).1 x.country, (pair_is x.least).1 x.pair)
      ((rest_is x.least).1 x.rest)

pub iban_is : (s : Bytes) → (iban s ≡ true) ↔ Iban s
iban_is s = (iban_so s, so_iban s)

-- the codings that are not read

abbrev pub unread_codings : List Bytes
unread_codings = lines "3|4|5|6|7|8"

-- a byte of a text, by itself
alone : (t : Bytes) (x : ℕ) → among t x ≡ true → Memᴰ (x ∷ []) (map (λ y. y ∷ []) t)
alone [] x h = absurd (false≢true h)
alone (y ∷ t) x h = by_cases (eqb x y) refl h (alone t x)
  where
    by_cases : (b : Bool) → eqb x y ≡ b → (b || among t x) ≡ true → (among t x ≡ true → Memᴰ (x ∷ []) (map (λ y. y ∷ []) t)) → Memᴰ (x ∷ []) (map (λ y. y ∷ []) (y ∷ t))
    by_cases true e h more = Memᴰ.head (ap (λ z. z ∷ []) (eqb-true x y e))
    by_cases false e h more = Memᴰ.tail (more h)

coding_so : (s : Bytes) → unread_coding s ≡ true → Memᴰ s unread_codings
coding_so [] h = absurd (false≢true h)
coding_so (x ∷ []) h = alone (run 51 6) x (sym (within_run 51 5 x) ∙ ((and-eq-true_iff (within 51 56 x) true).0 h).0)
coding_so (x ∷ y ∷ s) h = absurd (omega (arith, eqb-true (length (x ∷ y ∷ s)) 1 ((and-eq-true_iff _ (every (within 51 56) (x ∷ y ∷ s))).0 h).0))

-- each of some texts passes a test, if all do together
abbrev all : (Bytes → Bool) → List Bytes → Bool
all f [] = true
all f (t ∷ ts) = f t && all f ts

one_of_all : (f : Bytes → Bool) (ts : List Bytes) (s : Bytes) → all f ts ≡ true → Memᴰ s ts → f s ≡ true
one_of_all f [] s h m = absurd (Memᴰ.not-nil m)
one_of_all f (t ∷ ts) s h m = let (a, b) = (and-eq-true_iff (f t) (all f ts)).0 h in ⊎_elim (λ e. ap f e ∙ a) (one_of_all f ts s b) (Memᴰ.cases_cons m)

pub coding_is : (s : Bytes) → (unread_coding s ≡ true) ↔ Memᴰ s unread_codings
coding_is s = (coding_so s, one_of_all unread_coding unread_codings s refl)
