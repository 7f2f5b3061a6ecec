-- A payload that is accepted, by 2.2 or by 2.4: 2.2 accepts it, and its lines lie at the places that were listed; 2.4 says nothing else of it. One that 2.4 refuses, where 2.2 may not differ: 2.2 refuses it too. Assumes nothing.
use Prim.Native.Nat.{ℕ}
use native.Mathlib.Omega.{arith}
use mathlib.Core.Bool.{true, false}
use mathlib.Core.List.{List}
use mathlib.Core.Path.{◌≡◌, refl, sym}
use lib.Dec.{lit≤}
use borrow.Author.Tests.{eq-eqb, ne_eqb}
use Rattle.std.specs.Prelude.{Ok}
use Rattle.sieve.specs.declared.Break.{Break}
use Rattle.sieve.specs.declared.Fault.{Fault}
use Rattle.sieve.specs.Bytes.{Bytes}
use Rattle.sieve.specs.Paper.{paper_fault}
use Rattle.sieve.specs.Verdict.{Refusal, accepted, refused, verdict}
use Rattle.sieve.proofs.Numbers.{low_number}
use Rattle.swiss.specs.declared.Edition.{Edition}
use Rattle.swiss.specs.declared.Edition.TheVariants.{V22, V24}
use Rattle.swiss.specs.Differing.{may_differ}
use Rattle.swiss.specs.Swiss.{swiss_in, swiss}
use Rattle.swiss.proofs.Editions.{accepted_in_both, refused_in_both}
use Rattle.places.specs.Listed.{listed}
use Rattle.whole.specs.Judged.{IsJudged}
use Rattle.whole.proofs.Judging.{counted}
use Rattle.season.specs.Season.{editions_differ, IsAccepted}

module _ {p : Bytes} {n : ℕ} {k : Break} {places : List ℕ} where
  pub by_old : IsJudged (swiss_in V22) p (Ok (n, k)) places → IsAccepted p
  by_old is = record { count = n; break = k; is = sym is.answer }

  pub by_new : IsJudged (swiss_in V24) p (Ok (n, k)) places → IsAccepted p
  unfolding swiss
  by_new is = record { count = n; break = k; is = accepted_in_both p n k (sym is.answer) }

  pub well_listed : (e : Edition) → IsJudged (swiss_in e) p (Ok (n, k)) places → places ≡ listed p
  well_listed e is = (counted (swiss_in e) p is (lit≤ tt)).0

-- the editions differ on what 2.2 accepts and 2.4 refuses, since no refusal has the number 0
pub accepted_apart : (p : Bytes) (n : ℕ) (k : Break) (f : Fault) → verdict (swiss_in V22) p ≡ accepted n k → verdict (swiss_in V24) p ≡ refused (paper_fault f) → editions_differ p ≡ true
unfolding editions_differ
accepted_apart p n k f old new = rw (old, new, ne_eqb 0 (paper_fault f).number (λ z. omega (arith, (low_number f).0)))

-- and not on what 2.4 accepts
pub accepted_alike : (p : Bytes) (n : ℕ) (k : Break) → verdict (swiss_in V24) p ≡ accepted n k → editions_differ p ≡ false
unfolding swiss editions_differ
accepted_alike p n k h = rw (accepted_in_both p n k h, h, eq-eqb n n refl)

-- what 2.4 refuses, where 2.2 may not differ: 2.2 refuses it too, and for the same reason

module _ (p : Bytes) (r : Refusal) (new : verdict (swiss_in V24) p ≡ refused r) (alike : may_differ r ≡ false) where
  pub refused_too : verdict (swiss_in V22) p ≡ refused r
  unfolding swiss
  refused_too = refused_in_both p r new alike

  pub refused_alike : editions_differ p ≡ false
  unfolding editions_differ
  refused_alike = rw (refused_too, new, eq-eqb r.number r.number refl, eq-eqb r.line r.line refl)
