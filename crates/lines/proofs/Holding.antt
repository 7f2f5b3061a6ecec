-- The breaks of some bytes, one after another: the first of them, and the first unlike it. Assumes nothing.
use Prim.Native.Nat.{ℕ, ◌+◌}
use native.Mathlib.Omega.{arith}
use mathlib.Core.List.{List, [], ◌∷◌}
use mathlib.Core.Path.{◌≡◌, refl}
use Rattle.std.specs.Prelude.{Some, None, Err}
use Rattle.std.specs.declared.option.Option.{Option}
use Rattle.sieve.specs.declared.Break.{Break}
use Rattle.sieve.specs.declared.Break.TheVariants.{Lf, CrLf}
use Rattle.sieve.specs.declared.Fault.TheVariants.{MixedBreaks}
use Rattle.sieve.specs.Lines.{kind}
use Rattle.sieve.specs.Paper.{Answer}
use Rattle.lines.specs.declared.BreaksPassed.{BreaksPassed}
use Rattle.lines.specs.Parted.{held_by, parted_by}
use Rattle.lines.proofs.Parting.{parted_from, no_more, alike, unlike}

-- how the lines are parted, if these breaks come behind n - 1 others
abbrev pub held_from : BreaksPassed → ℕ → List Break → Answer
held_from passed n ks = elim passed.unlike [ None ↦ parted_from (elim passed.first [ None ↦ kind ks | Some k ↦ k ]) n ks | Some i ↦ Err (MixedBreaks i) ]

-- one break more
pub one_held : (passed : BreaksPassed) (k : Break) (n : ℕ) (ks : List Break) → held_from passed n (k ∷ ks) ≡ held_from (held_by passed k n) (n + 1) ks
one_held passed k n ks = by_cases passed.first passed.unlike k
  where
    by_cases : (f : Option Break) (u : Option ℕ) (k : Break) → held_from (record { first = f; unlike = u }) n (k ∷ ks) ≡ held_from (held_by (record { first = f; unlike = u }) k n) (n + 1) ks
    by_cases None None k = alike k n ks
    by_cases None (Some i) k = refl
    by_cases (Some j) (Some i) k = refl
    by_cases (Some Lf) None Lf = alike Lf n ks
    by_cases (Some CrLf) None CrLf = alike CrLf n ks
    by_cases (Some Lf) None CrLf = unlike Lf n CrLf ks (λ e. let z : ◌≡◌ {A = ℕ} 0 1 = cc in absurd (omega arith))
    by_cases (Some CrLf) None Lf = unlike CrLf n Lf ks (λ e. let z : ◌≡◌ {A = ℕ} 0 1 = cc in absurd (omega arith))

-- no break more
pub all_held : (passed : BreaksPassed) (n : ℕ) → held_from passed n [] ≡ parted_by passed n
all_held passed n = by_cases passed.first passed.unlike
  where
    by_cases : (f : Option Break) (u : Option ℕ) → held_from (record { first = f; unlike = u }) n [] ≡ parted_by (record { first = f; unlike = u }) n
    by_cases None None = no_more Lf n
    by_cases (Some k) None = no_more k n
    by_cases f (Some i) = refl
