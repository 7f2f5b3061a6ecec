-- Texts laid one behind the other, and numbers of at most three digits. Assumes nothing.
use Prim.Native.Nat.{ℕ, ◌+◌, ◌-◌, ◌/◌, ◌%◌, ◌≤◌, ◌<◌}
use native.Mathlib.Omega.{arith}
use mathlib.Core.Bool.{Bool, true, false}
use mathlib.Core.List.{[], ◌∷◌, ◌++◌, append_assoc}
use mathlib.Core.Option.{Option, some, none, get_or}
use mathlib.Core.Path.{◌≡◌, refl, ◌∙◌}
use lib.ListN.{length, take, drop, length-append}
use lib.Seq.{length-take-le, take-append_seam}
use lib.Dec.{ltb, lit≤}
use borrow.Author.Tests.{lt-ltb, le-ltb, ltb-true, ltb-false}
use borrow.Rule.Slice.PartMut.{mid_of, put_mid}
use Rattle.sieve.specs.Bytes.{Bytes, ascii}
use Rattle.sieve.specs.Decimal.{digit_byte, decimal_in}
use Rattle.runs.specs.Laid.{fitting, over_fitting}
use Rattle.runs.proofs.Lays.{tail_room, tail_laid}
use Rattle.report.specs.declared.Line.{Line}
use Rattle.report.specs.Laying.{said}
use Rattle.report.specs.Spoken.{in_decimal, spoken_place}

-- the front of a line, and a text behind it
pub added_in_front : (n : ℕ) (d l rest : Bytes) → n ≤ length d → take (n + length l) (take n d ++ (l ++ rest)) ≡ take n d ++ l
added_in_front n d l rest h =
    let e : length (take n d ++ l) ≡ n + length l = omega (arith, length-append (take n d) l, length-take-le n d h) in
    rw (← append_assoc (take n d) l rest, ← e) (take-append_seam (take n d ++ l) rest)

-- in a line of so many bytes, a text that fits in the tail behind the first n is laid there whole
module _ (n : ℕ) (d l : Bytes) {room : ℕ} (size : length d ≡ room) (fits : n + length l ≤ room) where
  pub laid_whole : {r : ℕ} → r ≡ fitting (mid_of n (room - n) d) l → r ≡ length l
  laid_whole e = e ∙ rw (← size) (tail_room n d l (omega arith))

  pub laid_behind : {t : Bytes} → t ≡ over_fitting (mid_of n (room - n) d) l → take (n + length l) (put_mid n (room - n) d t) ≡ take n d ++ l
  laid_behind e = rw (e, ← size, tail_laid n d l (omega arith)) (added_in_front n d l (drop (n + length l) d) (omega arith))

-- a line says this text
pub record Says (t : Bytes) (line : Line) : Type 0 where
  pub size : line.at ≡ length t
  pub text : said line ≡ t

-- one with nothing on it says nothing
pub says_nothing : {line : Line} → line.at ≡ 0 → Says [] line
says_nothing e = record { size = e; text = rw e refl }

-- what is laid behind it is said after it
pub more : {t : Bytes} {line after : Line} (u : Bytes) → Says t line → (after.at ≡ line.at + length u) × (said after ≡ said line ++ u) → Says (t ++ u) after
more {t} u s (r, e) = record { size = omega (arith, r, s.size, length-append t u); text = rw (← s.text) e }

module _ (n : ℕ) where
  pub one_digit : n < 10 → in_decimal n ≡ digit_byte (n % 10) ∷ []
  unfolding in_decimal decimal_in
  one_digit h =
      let e : n % 10 ≡ n = omega arith in
      rw (lt-ltb n 10 h, e)

  pub two_digits_lem : 10 ≤ n → n / 10 < 10 → in_decimal n ≡ digit_byte (n / 10 % 10) ∷ digit_byte (n % 10) ∷ []
  unfolding in_decimal decimal_in
  two_digits_lem g h =
      let e : n / 10 % 10 ≡ n / 10 = omega arith in
      rw (le-ltb n 10 g, lt-ltb (n / 10) 10 h, e)

  pub three_digits : 10 ≤ n / 10 → n < 1000 → in_decimal n ≡ digit_byte (n / 10 / 10) ∷ digit_byte (n / 10 % 10) ∷ digit_byte (n % 10) ∷ []
  unfolding in_decimal decimal_in
  three_digits g h = rw (le-ltb n 10 (omega arith), le-ltb (n / 10) 10 g, lt-ltb (n / 10 / 10) 10 (omega arith))

-- a number below 1000 has at most three
pub few_digits : (n : ℕ) → n < 1000 → length (in_decimal n) ≤ 3
few_digits n h = by_cases (ltb n 10) (ltb (n / 10) 10) refl refl
  where
    by_cases : (a b : Bool) → ltb n 10 ≡ a → ltb (n / 10) 10 ≡ b → length (in_decimal n) ≤ 3
    by_cases true b e f = rw (one_digit n (ltb-true _ _ e)) (lit≤ tt)
    by_cases false true e f = rw (two_digits_lem n (ltb-false _ _ e) (ltb-true _ _ f)) (lit≤ tt)
    by_cases false false e f = rw (three_digits n (ltb-false _ _ f) h) (lit≤ tt)

-- and what is said of such a place at most nine characters
pub place_short : (place : Option ℕ) → get_or place 0 < 1000 → length (spoken_place place) ≤ 9
place_short none h = lit≤ tt
place_short (some at) h = omega (arith, few_digits at h, length-append (ascii " byte ") (in_decimal at))
