-- Laying bytes in the front of a destination, and in the tail that is lent of one. Assumes nothing.
use Prim.Native.Nat.{ℕ, zero, suc, ◌+◌, ◌-◌, ◌≤◌, ◌<◌}
use native.Mathlib.Nat.{le_of_suc-le-suc}
use native.Mathlib.Numerals.{add-one}
use native.Mathlib.Omega.{arith}
use mathlib.Core.Bool.{Bool, true, false, cond}
use mathlib.Core.List.{List, [], ◌∷◌, ◌++◌, append-nil}
use mathlib.Core.Path.{◌≡◌, refl, ap, ◌∙◌}
use lib.Dec.{leb}
use lib.ListN.{length, take, drop, get_or, set, length-set, length-drop, drop_of_length-le}
use lib.Seq.{take-length, drop-drop}
use borrow.Author.Tests.{le-leb, lt-leb, leb-true}
use borrow.Rule.Slice.PartMut.{mid_of, put_mid}
use Rattle.sieve.specs.Bytes.{Bytes}
use Rattle.runs.specs.Laid.{fitting, over_fitting}
use Rattle.runs.proofs.Parts.{left, rest}

-- one more is laid
pub store : (d l : Bytes) (i : ℕ) → i < length l → i < length d → set (take i l ++ drop i d) i (get_or l i 0) ≡ take (suc i) l ++ drop (suc i) d
store d [] i h k = absurd (omega arith)
store [] (x ∷ l) i h k = absurd (omega arith)
store (y ∷ d) (x ∷ l) zero h k = refl
store (y ∷ d) (x ∷ l) (suc i) h k = ap (λ (r : Bytes). x ∷ r) (store d l i (le_of_suc-le-suc h) (le_of_suc-le-suc k))

-- while l is laid over the front of d₀: its first i are there, and what lies behind them is as it was
pub record Laying (d₀ l : Bytes) (i : ℕ) (d : Bytes) : Type 0 where
  pub few : i ≤ length l
  pub is : d ≡ take i l ++ drop i d₀
  pub size : length d ≡ length d₀

pub one_laid : {d₀ l d : Bytes} {i : ℕ} → Laying d₀ l i d → i < length l → length l ≤ length d₀ → Laying d₀ l (i + 1) (set d i (get_or l i 0))
one_laid {d₀} {l} {d} {i} h more fits =
    record { few = omega arith; is = rw (h.is, add-one) (store d₀ l i more (omega arith)); size = simp length-set h.size }

module _ {A : Type 0} (d l : List A) where
  -- where they do not fit, none are laid
  pub no_room : length d < length l → (0 ≡ fitting d l) × (d ≡ over_fitting d l)
  unfolding fitting over_fitting
  no_room h = let e = lt-leb _ _ h in (rw e, rw e)

  -- where they fit, all are
  room_for : length l ≤ length d → fitting d l ≡ length l
  unfolding fitting
  room_for h = rw (le-leb _ _ h)

  pub laid_in_lem : length l ≤ length d → over_fitting d l ≡ l ++ drop (length l) d
  unfolding over_fitting
  laid_in_lem h = rw (le-leb _ _ h)

  pub copied : length l ≤ length d → {i : ℕ} {e : List A} → i ≡ length l → e ≡ take i l ++ drop i d → (i ≡ fitting d l) × (e ≡ over_fitting d l)
  copied h q is = (rw (room_for h) q, is ∙ rw (laid_in_lem h, q, take-length))

  -- so where the library's copy has written to the front
  pub written : length l ≤ length d → {e : List A} → e ≡ l → (length l ≡ fitting d l) × (e ++ drop (length l) d ≡ over_fitting d l)
  written h f = copied h refl (rw (f, take-length))

  -- what is laid is within the destination
  pub room_fits : fitting d l ≤ length d
  unfolding fitting
  room_fits = by_cases (leb (length l) (length d)) refl
    where
      by_cases : (b : Bool) → leb (length l) (length d) ≡ b → cond b (length l) 0 ≤ length d
      by_cases true e = leb-true _ _ e
      by_cases false e = omega arith

-- the tail that is lent is what is left, and comes back behind what lies before it
module _ (n : ℕ) (d : Bytes) where
  pub lent : mid_of n (length d - n) d ≡ drop n d
  lent = rest n d

  pub back : (t : Bytes) → put_mid n (length d - n) d t ≡ take n d ++ t
  back t = rw (drop_of_length-le (drop n d) (left n d), append-nil)

  -- bytes that fit in the tail are laid behind the first n, and what lies behind them stays
  module _ (l : Bytes) (fits : n + length l ≤ length d) where
    in_tail : length l ≤ length (drop n d)
    in_tail = omega (arith, length-drop n d)

    pub tail_room : fitting (mid_of n (length d - n) d) l ≡ length l
    tail_room = rw lent (room_for (drop n d) l in_tail)

    pub tail_laid : put_mid n (length d - n) d (over_fitting (mid_of n (length d - n) d) l) ≡ take n d ++ (l ++ drop (n + length l) d)
    tail_laid = back (over_fitting (mid_of n (length d - n) d) l) ∙ ap (λ (t : Bytes). take n d ++ t) (rw (lent, laid_in_lem (drop n d) l in_tail, drop-drop (length l) n d))
