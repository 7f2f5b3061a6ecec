-- A run laid over the front of a destination, where it fits. Assumes nothing.
use Rattle.std.specs.Prelude.{ℕ, ◌++◌, cond, List, leb, length, drop}

-- how many of w are laid over the front of d: none where they do not fit
unfoldable pub fitting : {A : Type 0} → List A → List A → ℕ
fitting d w = cond (leb (length w) (length d)) (length w) 0

-- d with w laid over its front, where it fits
unfoldable pub over_fitting : {A : Type 0} → List A → List A → List A
over_fitting d w = cond (leb (length w) (length d)) (w ++ drop (length w) d) d
