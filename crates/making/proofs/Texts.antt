-- Tests taken apart into facts and back, and a text of two characters, a pair and a rest. Assumes nothing.
use Prim.Native.Nat.{ℕ, ◌≤◌}
use mathlib.Core.Bool.{Bool, true, ◌&&◌, and-eq-true_iff}
use mathlib.Core.List.{◌++◌}
use mathlib.Core.Logic.{◌↔◌}
use mathlib.Core.Path.{◌≡◌}
use lib.Dec.{eqb}
use lib.ListN.{length, take, drop, take-append-drop}
use lib.Seq.{drop-drop}
use borrow.Author.Tests.{eqb-true, eq-eqb, le-leb}
use Rattle.sieve.specs.Bytes.{Bytes, within, every}

-- three tests at once, and four
pub all3 : (a b c : Bool) → ((a && b && c) ≡ true) ↔ ((a ≡ true) × (b ≡ true) × (c ≡ true))
all3 a b c = (λ e. let t = (and-eq-true_iff (a && b) c).0 e in let u = (and-eq-true_iff a b).0 t.0 in (u.0, u.1, t.1), λ k. rw (k.0, k.1) k.2)

pub all4 : (a b c d : Bool) → ((a && b && c && d) ≡ true) ↔ ((a ≡ true) × (b ≡ true) × (c ≡ true) × (d ≡ true))
all4 a b c d = (λ e. let t = (and-eq-true_iff (a && b && c) d).0 e in let u = (all3 a b c).0 t.0 in (u.0, u.1, u.2, t.1), λ k. rw (k.0, k.1, k.2) k.3)

-- as many as said, each of a kind
pub is_just : (n : ℕ) (f : ℕ → Bool) (s : Bytes) → ((eqb (length s) n && every f s) ≡ true) ↔ ((length s ≡ n) × (every f s ≡ true))
is_just n f s = (λ e. let t = (and-eq-true_iff (eqb (length s) n) _).0 e in (eqb-true (length s) n t.0, t.1), λ k. rw (eq-eqb (length s) n k.0) k.1)

-- within two bounds
pub in_bounds : (lo hi x : ℕ) → lo ≤ x → x ≤ hi → within lo hi x ≡ true
in_bounds lo hi x a b = rw (le-leb lo x a) (le-leb x hi b)

-- the first two characters, the pair and the rest
pub in_three_lem : (s : Bytes) → take 2 s ++ (take 2 (drop 2 s) ++ drop 4 s) ≡ s
in_three_lem s = rw (← drop-drop 2 2 s, take-append-drop 2 (drop 2 s)) (take-append-drop 2 s)
