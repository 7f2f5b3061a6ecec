-- Texts with a byte or two neighbours told apart. Assumes nothing.
use Prim.Native.Nat.{ℕ, suc, ◌+◌, ◌<◌}
use native.Mathlib.Numerals.{add-one}
use native.Mathlib.Omega.{arith}
use mathlib.Core.Bool.{Bool, true, ◌&&◌, and_assoc, and_comm, and-eq-true_iff}
use mathlib.Core.List.{◌∷◌, ◌++◌}
use mathlib.Core.Path.{◌≡◌, sym, ap, ◌∙◌}
use lib.ListN.{length, get_or, take, drop, length-append}
use lib.Seq.{drop-cons, split_at}
use Rattle.sieve.specs.Bytes.{Bytes, every}
use Rattle.runs.proofs.Parts.{every_append}

-- a test of every byte: of the one behind a text
pub every_behind : (f : ℕ → Bool) (a b : Bytes) (x : ℕ) → every f (a ++ (x ∷ b)) ≡ true → f x ≡ true
every_behind f a b x e = ((and-eq-true_iff (f x) _).0 ((and-eq-true_iff (every f a) _).0 (sym (every_append f a (x ∷ b)) ∙ e)).1).0

-- one for another that passes too
pub every_changed : (f : ℕ → Bool) (a b : Bytes) (x y : ℕ) → every f (a ++ (x ∷ b)) ≡ true → f y ≡ true → every f (a ++ (y ∷ b)) ≡ true
every_changed f a b x y e h =
    let (p, q) = (and-eq-true_iff (every f a) _).0 (sym (every_append f a (x ∷ b)) ∙ e) in
    rw (every_append f a (y ∷ b), p, h) ((and-eq-true_iff (f x) _).0 q).1

-- two neighbours swapped pass the same tests of every byte
pub every_swapped : (f : ℕ → Bool) (a b : Bytes) (x y : ℕ) → every f (a ++ (x ∷ y ∷ b)) ≡ every f (a ++ (y ∷ x ∷ b))
every_swapped f a b x y =
    let in_front_lem : f x && (f y && every f b) ≡ f y && (f x && every f b) =
    sym (and_assoc (f x) (f y) (every f b)) ∙ ap (λ (t : Bool). t && every f b) (and_comm (f x) (f y)) ∙ and_assoc (f y) (f x) (every f b) in
    every_append f a (x ∷ y ∷ b) ∙ ap (λ (t : Bool). every f a && t) in_front_lem ∙ sym (every_append f a (y ∷ x ∷ b))

-- and leave a text as long
pub length_swapped : (a b : Bytes) (x y : ℕ) → length (a ++ (x ∷ y ∷ b)) ≡ length (a ++ (y ∷ x ∷ b))
length_swapped a b x y = rw (length-append a (x ∷ y ∷ b), length-append a (y ∷ x ∷ b))

-- and so does one for another
pub length_changed : (a b : Bytes) (x y : ℕ) → length (a ++ (x ∷ b)) ≡ length (a ++ (y ∷ b))
length_changed a b x y = rw (length-append a (x ∷ b), length-append a (y ∷ b))

-- what stands before a place, the byte there, and what follows
pub in_three_lem : (s : Bytes) (i : ℕ) → i < length s → s ≡ take i s ++ (get_or s i 0 ∷ drop (i + 1) s)
in_three_lem s i h = split_at s i 0 h ∙ rw add-one

-- the two bytes there, and what follows
pub in_four : (s : Bytes) (i : ℕ) → i + 1 < length s → s ≡ take i s ++ (get_or s i 0 ∷ get_or s (i + 1) 0 ∷ drop (i + 2) s)
in_four s i h =
    let k : i + 2 ≡ suc (i + 1) = omega arith in
    in_three_lem s i (omega arith) ∙ rw (k, drop-cons s (i + 1) 0 h)
