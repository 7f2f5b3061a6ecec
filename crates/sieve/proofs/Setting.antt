-- A list in which two numbers, one behind the other, are set. Assumes nothing.
use Prim.Native.Nat.{ℕ, suc, ◌+◌, ◌<◌}
use native.Mathlib.Numerals.{add-one}
use native.Mathlib.Omega.{arith}
use mathlib.Core.List.{List, [], ◌∷◌, ◌++◌, append_assoc}
use mathlib.Core.Path.{◌≡◌, ◌∙◌}
use lib.ListN.{length, take, set, length-set}
use lib.Seq.{take-suc-set}

-- the front, two numbers longer
pub two_more : (l : List ℕ) (i a b : ℕ) → i + 1 < length l → take (i + 2) (set (set l i a) (i + 1) b) ≡ take i l ++ (a ∷ b ∷ [])
two_more l i a b h =
    let n : i + 2 ≡ suc (i + 1) = omega arith in
    let e = take-suc-set (set l i a) (i + 1) b (rw length-set h) in
    let f = take-suc-set l i a (omega arith) in
    rw n (e ∙ rw (add-one, f) (append_assoc (take i l) (a ∷ []) (b ∷ [])))
