-- A line that is filled, of its form and with right check digits breaks none of the three rules that ask for these. Assumes nothing.
use Prim.Native.Nat.{ℕ}
use mathlib.Core.Bool.{Bool, true, false, false≢true}
use mathlib.Core.List.{List, [], ◌∷◌}
use mathlib.Core.Path.{◌≡◌, sym, ◌∙◌}
use lib.Dec.{eqb-suc-zero}
use lib.ListN.{length}
use Rattle.std.specs.Prelude.{Ok}
use Rattle.sieve.specs.Bytes.{Bytes}
use Rattle.sieve.specs.Kinds.{filled, formed, checked}
use Rattle.sieve.specs.Rules.{no_text, line, has, always}
use Rattle.findings.specs.Findings.{finds}

-- a form that no empty text has
filled_so : (form : Bytes → Bool) (l : Bytes) → form [] ≡ false → form l ≡ true → no_text l ≡ false
filled_so form [] none is = absurd (false≢true (sym none ∙ is))
filled_so form (x ∷ l) none is = eqb-suc-zero (length l)

pub all_right : (n : ℕ) (form check : Bytes → Bool) (ls : List Bytes) → form [] ≡ false → form (line n ls) ≡ true → check (line n ls) ≡ true → Ok tt ≡ finds (filled n always ∷ formed n (has n form) ∷ checked n (has n check) ∷ []) ls
unfolding finds
all_right n form check ls none is right = rw (filled_so form (line n ls) none is, is, right)
