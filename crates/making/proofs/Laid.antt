-- Part behind part laid over the front of a destination, and the pair that is due put in the place of 00. Assumes nothing.
use Prim.Native.Nat.{ℕ, ◌+◌, ◌-◌, ◌≤◌}
use native.Mathlib.Nat.{sub-zero}
use native.Mathlib.Omega.{arith}
use mathlib.Core.List.{◌++◌, append_assoc}
use mathlib.Core.Path.{◌≡◌, sym}
use lib.ListN.{length, take, drop, length-append, length-drop}
use lib.Seq.{take_at, drop_at, drop-drop, take-append_seam, drop-append_seam, length-take-le}
use borrow.Rule.Slice.PartMut.{mid_of, put_mid}
use Rattle.sieve.specs.Bytes.{Bytes, ascii, over}
use Rattle.sieve.specs.Mod97.{remainder97}
use Rattle.sieve.specs.Pairs.{as_two, due_pair}
use Rattle.making.specs.Made.{laid_at, with_pair_set, with_pair}

-- a part laid in the very front
pub laid_first : (d w : Bytes) → laid_at 0 w d ≡ over d w
laid_first d w = let e : 0 + length w ≡ length w = omega arith in rw e

-- a part laid behind what is laid already
pub laid_behind : (d x w : Bytes) (n : ℕ) → length x ≡ n → laid_at n w (over d x) ≡ over d (x ++ w)
laid_behind d x w n e = rw (← e) behind
  where
    behind : laid_at (length x) w (over d x) ≡ over d (x ++ w)
    behind =
        let rest : drop (length x + length w) (over d x) ≡ drop (length (x ++ w)) d = rw (← drop-drop (length w) (length x) (over d x), drop-append_seam x (drop (length x) d), length-append x w) (drop-drop (length w) (length x) d) in
        rw (take-append_seam x (drop (length x) d), rest) (sym (append_assoc x w (drop (length (x ++ w)) d)))

-- with 00 in that place, the pair that is due comes there
pub pair_due : (head rest : Bytes) → length head ≡ 2 → with_pair_set (head ++ (ascii "00" ++ rest)) ≡ with_pair head rest
unfolding remainder97 due_pair
pair_due head rest h =
    let l : length (head ++ ascii "00") ≡ 4 = omega (arith, length-append head (ascii "00")) in
    let back : drop 4 (head ++ (ascii "00" ++ rest)) ≡ rest = rw (← append_assoc head (ascii "00") rest) (drop_at (head ++ ascii "00") rest 4 l) in
    let front : take 4 (head ++ (ascii "00" ++ rest)) ≡ head ++ ascii "00" = rw (← append_assoc head (ascii "00") rest) (take_at (head ++ ascii "00") rest 4 l) in
    rw (back, front, take_at head (ascii "00" ++ rest) 2 h)

-- so it is where the text lies in the front of a destination
pub paired_in_front : (d₀ x : Bytes) {d t : Bytes} {m : ℕ} → 4 ≤ length x → m ≡ length x → d ≡ over d₀ x → t ≡ with_pair_set (mid_of 0 (m - 0) d) → put_mid 0 (m - 0) d t ≡ over d₀ (with_pair_set x)
paired_in_front d₀ x {d} {t} {m} four size laid laid-is =
    let front : mid_of 0 (m - 0) d ≡ x = rw (laid, sub-zero m, size) (take-append_seam x (drop (length x) d₀)) in
    let long : length (with_pair_set x) ≡ length x = omega (arith, length-append (take 2 x) (as_two (98 - remainder97 x) ++ drop 4 x), length-append (as_two (98 - remainder97 x)) (drop 4 x), length-take-le 2 x (omega arith), length-drop 4 x) in
    rw (laid-is, front, laid, sub-zero m, size, long, drop-append_seam x (drop (length x) d₀))
