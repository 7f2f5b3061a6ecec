-- Bytes laid in the front of a destination: a line with the bytes of a break after it, and line behind line. Assumes nothing.
use Prim.Native.Nat.{ℕ, ◌+◌, ◌-◌, ◌≤◌, ◌<◌}
use native.Mathlib.Nat.{le_antisymm, sub-zero}
use native.Mathlib.Numerals.{add-one}
use native.Mathlib.Omega.{arith}
use mathlib.Core.List.{[], ◌∷◌, ◌++◌, append_assoc}
use mathlib.Core.Path.{◌≡◌, sym, ap, ◌∙◌}
use lib.ListN.{length, take, drop, set, length-append, length-drop}
use lib.Seq.{drop-cons, drop-drop, take-add, take_at, drop_at, take-length, take-append_seam, drop-append_seam, length-take-le, set-append_seam}
use borrow.Rule.Slice.PartMut.{mid_of, put_mid}
use Rattle.sieve.specs.Bytes.{Bytes, over}
use Rattle.sieve.specs.Lines.{break_bytes}
use Rattle.runs.proofs.Lays.{Laying, lent, back}
use Rattle.sieve.specs.declared.Break.{Break}
use Rattle.std.specs.Prelude.{Some, None}
use Rattle.std.specs.declared.option.Option.{Option}
use Rattle.joining.specs.Handing.{with_break}

-- a line is no longer than with what comes after it
pub line_within : (l : Bytes) (after : Option Break) → length l ≤ length (with_break l after)
line_within l None = omega arith
line_within l (Some k) = omega (arith, length-append l (break_bytes k))

-- of a destination d, the first n bytes are w by now, and what lies behind them is as it was
abbrev pub Front : Bytes → Bytes → ℕ → Bytes → Type 0
Front d w n now = (n ≡ length w) × (now ≡ over d w)

pub whole : {d l now : Bytes} {n : ℕ} → length l ≤ n → Laying d l n now → Front d l n now
whole {d} {l} {now} {n} h m = let q : n ≡ length l = le_antisymm m.few h in (q, m.is ∙ rw (q, take-length l))

pub byte_more : (d w : Bytes) (n : ℕ) (now : Bytes) (x : ℕ) → n < length d → Front d w n now → Front d (w ++ x ∷ []) (n + 1) (set now n x)
byte_more d w n now x h (q, laid-is) =
    let in-d : length w < length d = omega arith in
    let one_more : length (w ++ x ∷ []) ≡ length w + 1 = length-append w (x ∷ []) in (
      omega (arith, one_more),
      rw (laid-is, q, one_more, add-one, drop-cons d (length w) 0 in-d, set-append_seam) (sym (append_assoc w (x ∷ []) _)),
    )

pub two_more : (d w : Bytes) (n : ℕ) (now : Bytes) (x y : ℕ) → n + 1 < length d → Front d w n now → Front d (w ++ x ∷ y ∷ []) (n + 2) (set (set now n x) (n + 1) y)
two_more d w n now x y h f =
    let (q, laid-is) = byte_more d (w ++ x ∷ []) (n + 1) (set now n x) y h (byte_more d w n now x (omega arith) f) in
    let both : (w ++ x ∷ []) ++ y ∷ [] ≡ w ++ x ∷ y ∷ [] = append_assoc w (x ∷ []) (y ∷ []) in
    (omega (arith, ap length both), rw both at laid-is)

-- of J, after its first n bytes, w comes next, and then the rest
pub record Ahead (J : Bytes) (n : ℕ) (w rest : Bytes) : Type 0 where
  pub is : drop n J ≡ w ++ rest

-- while J is laid over the front of d₀, and its first n bytes are there
module _ {d₀ J d w rest : Bytes} {n : ℕ} (m : Laying d₀ J n d) (enough : length J ≤ length d₀) (e : Ahead J n w rest) where
  bytes : n + length w + length rest ≡ length J
  bytes = omega (arith, m.few, ap length e.is, length-append w rest, length-drop n J)

  -- what comes next has room in the tail of the destination
  pub in_tail : length w ≤ length (mid_of n (length d - n) d)
  in_tail = rw (lent n d) (omega (arith, bytes, m.size, length-drop n d))

  laid_on : take n d ++ (w ++ drop (n + length w) d) ≡ take (n + length w) J ++ drop (n + length w) d₀
  laid_on =
      let front = length-take-le n J m.few in
      let a : take n d ≡ take n J = rw m.is (take_at (take n J) (drop n d₀) n front) in
      let b : drop (n + length w) d ≡ drop (n + length w) d₀ = rw (m.is, ← drop-drop (length w) n (take n J ++ drop n d₀), drop_at (take n J) (drop n d₀) n front) (drop-drop (length w) n d₀) in
      let c : take (n + length w) J ≡ take n J ++ w = take-add n (length w) J ∙ rw (e.is, take-append_seam w rest) in
      rw (a, b, c) (sym (append_assoc (take n J) w (drop (n + length w) d₀)))

  long : length (take (n + length w) J ++ drop (n + length w) d₀) ≡ length d₀
  long = omega (arith, bytes, length-append (take (n + length w) J) (drop (n + length w) d₀), length-take-le (n + length w) J (omega (arith, bytes)), length-drop (n + length w) d₀)

  -- and laid there it lies behind what is laid already
  pub laid_behind : {r : ℕ} {t : Bytes} → r ≡ length w → t ≡ over (mid_of n (length d - n) d) w → Laying d₀ J (n + r) (put_mid n (length d - n) d t) × (drop (n + r) J ≡ rest)
  laid_behind {r} {t} q laid-is =
      let all : put_mid n (length d - n) d t ≡ take (n + length w) J ++ drop (n + length w) d₀ = back n d t ∙ rw (laid-is, lent n d, drop-drop (length w) n d) laid_on in
      rw q (record { few = omega (arith, bytes); is = all; size = rw all long }, rw (← drop-drop (length w) n J, e.is) (drop-append_seam w rest))

-- the front of a buffer in which J is laid
pub laid_front : (J buffer rest : Bytes) (n : ℕ) → n ≡ length J → buffer ≡ J ++ rest → mid_of 0 (n - 0) buffer ≡ J
laid_front J buffer rest n long laid-is = rw (laid-is, sub-zero n, long) (take-append_seam J rest)
