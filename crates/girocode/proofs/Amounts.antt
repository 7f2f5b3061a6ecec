-- Amounts are values: line 8 may hold exactly the shortest text of each value of 1 to 99999999999 cents. Assumes nothing.
use Prim.Native.Nat.{ℕ, ◌+◌, ◌-◌, ◌*◌, ◌/◌, ◌%◌, ◌^◌, ◌≤◌, ◌<◌}
use native.Mathlib.Nat.{pow-le-pow_right}
use native.Mathlib.Omega.{arith}
use mathlib.Core.Bool.{Bool, true, false, cond, ◌&&◌, ◌||◌, not, true≢false, and-eq-true_iff, or-true}
use mathlib.Core.List.{[], ◌∷◌, ◌++◌, append-nil}
use mathlib.Core.Logic.{◌≢◌}
use mathlib.Core.Path.{◌≡◌, refl, sym, ◌∙◌, ap}
use lib.Dec.{eqb, lit≤}
use lib.ListN.{length, get_or, take, drop, length-append, length-drop, take-append-drop}
use lib.Seq.{length-take-le, take_at, drop_at}
use borrow.Author.Tests.{eqb-true, eqb-false, not-true, le-leb, ne_eqb}
use Rattle.sieve.specs.Bytes.{Bytes, ascii, within, same, every}
use Rattle.sieve.specs.Decimal.{digit_byte, decimal_in}
use Rattle.sieve.specs.Letters.{digit}
use Rattle.sieve.specs.Mod97.{onto, numeral}
use Rattle.sieve.proofs.Bounds.{is_within, same_is}
use Rattle.sieve.proofs.Decimals.{digit_byte_lem, number_below, digits, unled, digits_of_whole, Written, digits_written, written_unled}
use Rattle.girocode.specs.Limits.{euro}
use Rattle.girocode.specs.Forms.{whole, fraction, with_fraction, amount}
use Rattle.girocode.specs.Shortest.{behind, shortest}

-- whole euros

abbrev pub euros : ℕ → Bytes
euros = decimal_in 9

plain_digits : (n : ℕ) → digits 9 n [] ≡ euros n
unfolding digits
plain_digits n = append-nil (euros n)

record Whole (w : Bytes) : Type 0 where
  least : 1 ≤ length w
  most : length w ≤ 9
  digital : every digit w ≡ true
  lead : unled w ≡ true

whole_parts : (w : Bytes) → whole w ≡ true → Whole w
whole_parts w h =
    let (a, lead) = (and-eq-true_iff (within 1 9 (length w) && every digit w) (unled w)).0 h in
    let (b, digital) = (and-eq-true_iff (within 1 9 (length w)) (every digit w)).0 a in
    let (least, most) = is_within 1 9 (length w) b in
    record { least = least; most = most; digital = digital; lead = lead }

-- what is read of whole euros is written as it stood
euros_again : (w : Bytes) → whole w ≡ true → euros (numeral 0 w) ≡ w
euros_again w h = let x = whole_parts w h in sym (plain_digits (numeral 0 w)) ∙ digits_of_whole w 9 x.least x.most x.digital x.lead

euros_few : (w : Bytes) → whole w ≡ true → numeral 0 w ≤ 999999999
euros_few w h =
    let x = whole_parts w h in
    let short : 10 ^ (0 + length w) ≤ 10 ^ 9 = pow-le-pow_right (lit≤ tt) {j = 9} (omega (arith, x.most)) in
    omega (arith, number_below w 0 0 x.digital (lit≤ tt))

module _ (n : ℕ) (few : n < 10 ^ 9) where
  pub euros_written : Written 9 n [] (euros n)
  euros_written = rw (plain_digits n) at (digits_written 8 n [] few)

  euros_whole : whole (euros n) ≡ true
  euros_whole =
      let x = euros_written in
      let lead : unled (euros n) ≡ true = rw (plain_digits n) at (written_unled n few) in
      rw (le-leb 1 (length (euros n)) x.least, le-leb (length (euros n)) 9 x.most, x.digital refl, lead)

  pub euros_read : numeral 0 (euros n) ≡ n
  unfolding numeral
  euros_read = euros_written.value

-- what stands behind them

pub point_and_one : (n : ℕ) → n ≢ 0 → n % 10 ≡ 0 → behind n ≡ 46 ∷ digit_byte (n / 10) ∷ []
point_and_one n some e = rw (ne_eqb n 0 some, e)

pub point_and_two : (n : ℕ) → n % 10 ≢ 0 → behind n ≡ 46 ∷ digit_byte (n / 10) ∷ digit_byte (n % 10) ∷ []
point_and_two n other = rw (ne_eqb n 0 (λ e. other (omega arith)), ne_eqb (n % 10) 0 other)

-- cents that stand behind the point as f
record Behind (f : Bytes) : Type 0 where
  cents : ℕ
  some : 1 ≤ cents
  few : cents < 100
  is : behind cents ≡ f

fraction_parts : (p : ℕ) (s : Bytes) → fraction (p ∷ s) ≡ true → (p ≡ 46) × (every digit s ≡ true) × (get_or (p ∷ s) (length (p ∷ s) - 1) 0 ≢ 48)
fraction_parts p s h =
    let (a, last) = (and-eq-true_iff (eqb p 46 && every digit s) (not (eqb (get_or (p ∷ s) (length (p ∷ s) - 1) 0) 48))).0 h in
    let (point, digital) = (and-eq-true_iff (eqb p 46) (every digit s)).0 a in
    (eqb-true p 46 point, digital, eqb-false _ 48 (not-true _ last))

behind_of_two : (f : Bytes) → length f ≡ 2 → fraction f ≡ true → Behind f
behind_of_two [] l h = absurd (omega arith)
behind_of_two (p ∷ []) l h = absurd (omega arith)
behind_of_two (p ∷ d ∷ []) l h =
    let (point, digital, other) = fraction_parts p (d ∷ []) h in
    let (low, top) = is_within 48 57 d ((and-eq-true_iff (digit d) true).0 digital).0 in
    let n = 10 * (d - 48) in
    let e : n / 10 ≡ d - 48 = omega arith in
    let b : 48 + (d - 48) ≡ d = omega arith in
    record { cents = n; some = omega (arith, other); few = omega arith; is = point_and_one n (λ z. omega (arith, other)) (omega arith) ∙ rw (e, b, point) }
behind_of_two (p ∷ d ∷ e ∷ s) l h = absurd (omega arith)

behind_of_three : (f : Bytes) → length f ≡ 3 → fraction f ≡ true → Behind f
behind_of_three [] l h = absurd (omega arith)
behind_of_three (p ∷ []) l h = absurd (omega arith)
behind_of_three (p ∷ d ∷ []) l h = absurd (omega arith)
behind_of_three (p ∷ d ∷ e ∷ []) l h =
    let (point, digital, other) = fraction_parts p (d ∷ e ∷ []) h in
    let (first, rest) = (and-eq-true_iff (digit d) (digit e && true)).0 digital in
    let (low, top) = is_within 48 57 d first in
    let (low-2, top-2) = is_within 48 57 e ((and-eq-true_iff (digit e) true).0 rest).0 in
    let n = 10 * (d - 48) + (e - 48) in
    let a : n / 10 ≡ d - 48 = omega arith in
    let b : 48 + (d - 48) ≡ d = omega arith in
    let c : n % 10 ≡ e - 48 = omega arith in
    let g : 48 + (e - 48) ≡ e = omega arith in
    record { cents = n; some = omega (arith, other); few = omega arith; is = point_and_two n (λ z. omega (arith, other)) ∙ rw (a, b, c, g, point) }
behind_of_three (p ∷ d ∷ e ∷ x ∷ s) l h = absurd (omega arith)

-- both together

-- the value that v is the shortest text of, behind EUR
record Value (v : Bytes) : Type 0 where
  cents : ℕ
  some : 1 ≤ cents
  few : cents ≤ 99999999999
  is : ascii euro ++ v ≡ shortest cents

together : (w f : Bytes) (n : ℕ) → whole w ≡ true → n < 100 → behind n ≡ f → 1 ≤ numeral 0 w + n → Value (w ++ f)
unfolding shortest
together w f n h few e some =
    let m = 100 * numeral 0 w + n in
    let q : m / 100 ≡ numeral 0 w = omega arith in
    let r : m % 100 ≡ n = omega arith in
    record { cents = m; some = omega arith; few = omega (arith, euros_few w h); is = rw (q, r, euros_again w h, e) }

zero_is : euros 0 ≡ ascii "0"
unfolding decimal_in
zero_is = refl

-- no fraction
value_of_whole : (v : Bytes) → whole v ≡ true → v ≢ ascii "0" → Value v
value_of_whole v h other = rw (append-nil v) at (together v [] 0 h (lit≤ tt) refl some)
  where
    some : 1 ≤ numeral 0 v + 0
    some = let z : numeral 0 v ≢ 0 = λ e. other (sym (euros_again v h) ∙ ap euros e ∙ zero_is) in omega (arith, z)

-- a fraction of k bytes
value_of_parted : (k : ℕ) (v : Bytes) → ((f : Bytes) → length f ≡ k → fraction f ≡ true → Behind f) → with_fraction k v ≡ true → Value v
value_of_parted k v of h =
    let i = length v - k in
    let (w, f) = (and-eq-true_iff (whole (take i v)) (fraction (drop i v))).0 h in
    let least = (whole_parts (take i v) w).least in
    let before = length-take-le i v (omega arith) in
    let b = of (drop i v) (omega (arith, length-drop i v)) f in
    rw (take-append-drop i v) at (together (take i v) (drop i v) b.cents w b.few b.is (omega (arith, b.some)))

value_of : (v : Bytes) → (whole v || with_fraction 2 v || with_fraction 3 v) ≡ true → v ≢ ascii "0" → Value v
value_of v h other = by_cases (whole v) refl (with_fraction 2 v) refl h
  where
    by_cases : (a : Bool) → whole v ≡ a → (b : Bool) → with_fraction 2 v ≡ b → (a || b || with_fraction 3 v) ≡ true → Value v
    by_cases true e b f h = value_of_whole v e other
    by_cases false e true f h = value_of_parted 2 v behind_of_two f
    by_cases false e false f h = value_of_parted 3 v behind_of_three h

-- what line 8 may hold is the shortest text of a value of 0.01 to 999999999.99
pub amount_is_shortest : (s : Bytes) → amount s ≡ true → (n : ℕ) × (1 ≤ n) × (n ≤ 99999999999) × (s ≡ shortest n)
amount_is_shortest s h =
    let v = drop 3 s in
    let (a, other) = (and-eq-true_iff (same (take 3 s) (ascii euro) && (whole v || with_fraction 2 v || with_fraction 3 v)) (not (same v (ascii "0")))).0 h in
    let (e, form) = (and-eq-true_iff (same (take 3 s) (ascii euro)) (whole v || with_fraction 2 v || with_fraction 3 v)).0 a in
    let x = value_of v form (λ z. true≢false (sym (ap (λ (t : Bytes). same t (ascii "0")) z) ∙ not-true _ other)) in
    let is : s ≡ ascii euro ++ v = sym (take-append-drop 3 s) ∙ ap (λ (t : Bytes). t ++ v) (same_is (take 3 s) (ascii euro) e) in
    (x.cents, x.some, x.few, is ∙ x.is)

-- the shortest text of each such value is one

module _ (w f : Bytes) where
  before : length (w ++ f) - length f ≡ length w
  before = omega (arith, length-append w f)

  parted_so : whole w ≡ true → fraction f ≡ true → with_fraction (length f) (w ++ f) ≡ true
  parted_so h g = rw (before, take_at w f (length w) refl, drop_at w f (length w) refl) ((and-eq-true_iff (whole w) (fraction f)).1 (h, g))

  long : 1 ≤ length w → 1 ≤ length f → w ++ f ≢ ascii "0"
  long a b e = let n : length (w ++ f) ≡ 1 = ap length e in omega (arith, length-append w f)

-- of three ways to be right

by_one : (a b c : Bool) → a ≡ true → (a || b || c) ≡ true
by_one a b c h = rw h

by_two : (a b c : Bool) → b ≡ true → (a || b || c) ≡ true
by_two a b c h = rw (h, or-true a)

by_three : (a b c : Bool) → c ≡ true → (a || b || c) ≡ true
by_three a b c h = rw (h, or-true (a || b))

in_form : (v : Bytes) → (whole v || with_fraction 2 v || with_fraction 3 v) ≡ true → v ≢ ascii "0" → amount (ascii euro ++ v) ≡ true
in_form v h other = by_cases (same v (ascii "0")) refl
  where
    by_cases : (b : Bool) → same v (ascii "0") ≡ b → ((whole v || with_fraction 2 v || with_fraction 3 v) && not b) ≡ true
    by_cases true e = absurd (other (same_is v (ascii "0") e))
    by_cases false e = (and-eq-true_iff (whole v || with_fraction 2 v || with_fraction 3 v) true).1 (h, refl)

module _ (n : ℕ) (some : 1 ≤ n) (few : n ≤ 99999999999) where
  abbrev w : Bytes
  w = euros (n / 100)

  abbrev c : ℕ
  c = n % 100

  w_whole : whole w ≡ true
  w_whole = euros_whole (n / 100) (omega arith)

  w_read : numeral 0 w ≡ n / 100
  w_read = euros_read (n / 100) (omega arith)

  not_nothing : c ≡ 0 → w ≢ ascii "0"
  unfolding numeral
  not_nothing z e = omega (arith, w_read, ap (numeral 0) e)

  no_cents : c ≡ 0 → amount (ascii euro ++ (w ++ behind c)) ≡ true
  no_cents z = rw (z, append-nil w) (in_form w (by_one (whole w) (with_fraction 2 w) (with_fraction 3 w) w_whole) (not_nothing z))

  one_digit : c ≢ 0 → c % 10 ≡ 0 → amount (ascii euro ++ (w ++ behind c)) ≡ true
  one_digit s z =
      let d = digit_byte (c / 10) in
      let f : Bytes = 46 ∷ d ∷ [] in
      let v = w ++ f in
      let right : fraction f ≡ true = rw (digit_byte_lem (c / 10) (omega arith), ne_eqb d 48 (λ e. omega (arith, s))) in
      rw (point_and_one c s z) (in_form v (by_two (whole v) (with_fraction 2 v) (with_fraction 3 v) (parted_so w f w_whole right)) (long w f (whole_parts w w_whole).least (lit≤ tt)))

  two_digits_lem : c % 10 ≢ 0 → amount (ascii euro ++ (w ++ behind c)) ≡ true
  two_digits_lem s =
      let d = digit_byte (c / 10) in
      let e = digit_byte (c % 10) in
      let f : Bytes = 46 ∷ d ∷ e ∷ [] in
      let v = w ++ f in
      let right : fraction f ≡ true = rw (digit_byte_lem (c / 10) (omega arith), digit_byte_lem (c % 10) (omega arith), ne_eqb e 48 (λ z. omega (arith, s))) in
      rw (point_and_two c s) (in_form v (by_three (whole v) (with_fraction 2 v) (with_fraction 3 v) (parted_so w f w_whole right)) (long w f (whole_parts w w_whole).least (lit≤ tt)))

  shortest_amount : amount (shortest n) ≡ true
  unfolding shortest
  shortest_amount = by_cases (eqb c 0) refl (eqb (c % 10) 0) refl
    where
      by_cases : (a : Bool) → eqb c 0 ≡ a → (b : Bool) → eqb (c % 10) 0 ≡ b → amount (ascii euro ++ (w ++ behind c)) ≡ true
      by_cases true x b y = no_cents (eqb-true c 0 x)
      by_cases false x true y = one_digit (eqb-false c 0 x) (eqb-true (c % 10) 0 y)
      by_cases false x false y = two_digits_lem (eqb-false (c % 10) 0 y)

-- line 8 may hold the shortest text of each value of 0.01 to 999999999.99
pub shortest_is_amount : (n : ℕ) → 1 ≤ n → n ≤ 99999999999 → amount (shortest n) ≡ true
shortest_is_amount = shortest_amount

-- a value is read back from its shortest text: no text stands for two

cents_behind : Bytes → ℕ
cents_behind [] = 0
cents_behind (d ∷ []) = 10 * (d - 48)
cents_behind (d ∷ e ∷ s) = 10 * (d - 48) + (e - 48)

-- the value of euros of which m are read, up to a point and what stands behind it
value_from : ℕ → Bytes → ℕ
value_from m [] = 100 * m
value_from m (x ∷ s) = cond (eqb x 46) (100 * m + cents_behind s) (value_from (onto m x) s)

value_after : (w t : Bytes) (m : ℕ) → every digit w ≡ true → value_from m (w ++ t) ≡ value_from (numeral m w) t
unfolding numeral value_from
value_after [] t m h = refl
value_after (x ∷ w) t m h =
    let (hx, hw) = (and-eq-true_iff (digit x) (every digit w)).0 h in
    let (low, _) = is_within 48 57 x hx in
    rw (ne_eqb x 46 (λ e. omega arith)) (value_after w t (onto m x) hw)

value_behind : (m n : ℕ) → n < 100 → value_from m (behind n) ≡ 100 * m + n
unfolding value_from cents_behind
value_behind m n few = by_cases (eqb n 0) refl (eqb (n % 10) 0) refl
  where
    by_cases : (a : Bool) → eqb n 0 ≡ a → (b : Bool) → eqb (n % 10) 0 ≡ b → value_from m (behind n) ≡ 100 * m + n
    by_cases true x b y = let z = eqb-true n 0 x in rw z (omega arith)
    by_cases false x true y = rw (point_and_one n (eqb-false n 0 x) (eqb-true (n % 10) 0 y)) (omega (arith, eqb-true (n % 10) 0 y))
    by_cases false x false y = rw (point_and_two n (eqb-false (n % 10) 0 y)) (omega arith)

value_again : (n : ℕ) → n ≤ 99999999999 → value_from 0 (drop 3 (shortest n)) ≡ n
unfolding shortest
value_again n few =
    let q = n / 100 in
    let written = euros_written q (omega arith) in
    value_after (euros q) (behind (n % 100)) 0 (written.digital refl)
    ∙ (value_behind (numeral 0 (euros q)) (n % 100) (omega arith) ∙ omega (arith, euros_read q (omega arith)))

pub one_value_each : (m n : ℕ) → m ≤ 99999999999 → n ≤ 99999999999 → shortest m ≡ shortest n → m ≡ n
one_value_each m n a b e = sym (value_again m a) ∙ (ap (λ (s : Bytes). value_from 0 (drop 3 s)) e ∙ value_again n b)
