-- A table of cases that is right tells what its rows say. Assumes nothing.
use Prim.Native.Nat.{ℕ, zero, suc}
use mathlib.Core.Bool.{Bool, true, false, true≢false, not, and-eq-true_iff}
use mathlib.Core.List.{List, [], ◌∷◌}
use mathlib.Core.Option.{some, none-ne-some, some-injective}
use mathlib.Core.Path.{◌≡◌, refl, sym, ap}
use lib.Dec.{T, eqb}
use lib.ListN.{get_elem?}
use borrow.Author.Tests.{eqb-true}
use Rattle.sieve.specs.declared.Break.{Break}
use Rattle.sieve.specs.Bytes.{Bytes}
use Rattle.sieve.specs.Lines.{same_break}
use Rattle.sieve.specs.Rules.{Layout}
use Rattle.sieve.specs.Verdict.{Verdict, accepted, refused, verdict}
use Rattle.sieve.specs.Cases.{Case, same_verdict, right}
use Rattle.sieve.proofs.Likeness.{like}

holds : (b : Bool) → T b → b ≡ true
holds true h = refl
holds false h = absurd h

same_accepted : (v : Verdict) (n : ℕ) (k : Break) → same_verdict v (accepted n k) ≡ true → v ≡ accepted n k
same_accepted (accepted m j) n k h = let (a, b) = (and-eq-true_iff (eqb m n) (same_break j k)).0 h in rw (eqb-true m n a, like j k (ap not b))
same_accepted (refused r) n k h = absurd (true≢false (sym h))

parts : (L : Layout) (c : Case) (cs : List Case) → right L (c ∷ cs) ≡ true → (same_verdict (verdict L c.payload) c.gives ≡ true) × (right L cs ≡ true)
unfolding right
parts L c cs h = (and-eq-true_iff (same_verdict (verdict L c.payload) c.gives) (right L cs)).0 h

-- a row that is accepted
pub accepted_row : (L : Layout) (cs : List Case) → T (right L cs) → (i : ℕ) {p : Bytes} {n : ℕ} {k : Break} → get_elem? cs i ≡ some (record { payload = p; gives = accepted n k }) → verdict L p ≡ accepted n k
accepted_row L cs h i {p} {n} {k} e = along cs (holds (right L cs) h) i e
  where
    along : (cs : List Case) → right L cs ≡ true → (i : ℕ) → get_elem? cs i ≡ some (record { payload = p; gives = accepted n k }) → verdict L p ≡ accepted n k
    along [] h i e = absurd (none-ne-some _ e)
    along (c ∷ cs) h zero e = let row_is = some-injective c _ e in same_accepted (verdict L p) n k (rw row_is at (parts L c cs h).0)
    along (c ∷ cs) h (suc i) e = along cs (parts L c cs h).1 i e
