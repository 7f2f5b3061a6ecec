-- Bytes, quoted texts as bytes, and the plain tests that the rules are made of. Assumes nothing.
use Rattle.std.specs.Prelude.{ℕ, suc, Bool, true, false, ◌&&◌, List, [], ◌∷◌, ◌++◌, eqb, leb, length, drop}
use Prim.Native.Char.{code}
use Prim.Native.String.{String, [] as []ˢ, ◌∷◌ as ◌∷ˢ◌}
use Rattle.std.proofs.Math.Option.{Option, some, none}

abbrev pub Bytes : Type 0
Bytes = List ℕ

-- a quoted text as its bytes
abbrev pub ascii : String → Bytes
ascii []ˢ = []
ascii (c ∷ˢ s) = code c ∷ ascii s

abbrev pub within : ℕ → ℕ → ℕ → Bool
within lo hi x = leb lo x && leb x hi

abbrev pub same : Bytes → Bytes → Bool
same [] [] = true
same [] (y ∷ ys) = false
same (x ∷ xs) [] = false
same (x ∷ xs) (y ∷ ys) = eqb x y && same xs ys

abbrev pub every : (ℕ → Bool) → Bytes → Bool
every f [] = true
every f (x ∷ xs) = f x && every f xs

-- the number, counted from i, of the first in a list that passes a test
unfoldable pub first_such : {A : Type 0} → (A → Bool) → ℕ → List A → Option ℕ
first_such f i [] = none
first_such f i (x ∷ xs) = elim (f x) [ true ↦ some i | false ↦ first_such f (suc i) xs ]

-- w laid over the front of d
abbrev pub over : List ℕ → List ℕ → List ℕ
over d w = w ++ drop (length w) d
