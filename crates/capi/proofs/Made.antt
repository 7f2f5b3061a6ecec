-- What is answered where a number is made packs. Assumes nothing.
use Prim.Native.Nat.{ℕ, ◌≤◌}
use native.Mathlib.Omega.{arith}
use mathlib.Core.Bool.{Bool, true, false}
use mathlib.Core.Path.{◌≡◌, refl, ap, ◌∙◌}
use lib.Dec.{ltb, lit≤}
use lib.ListN.{length}
use borrow.Author.Tests.{ltb-true, ltb-false}
use Rattle.sieve.specs.Paper.{Written, paper_written}
use Rattle.sieve.specs.Bytes.{Bytes}
use Rattle.packing.specs.Packing.{packed_laying, PacksLaying}
use Rattle.making.specs.Making.{IsMade}
use Rattle.making.proofs.Promise.{one_making, not_formed, no_room, is_laid}
use Rattle.capi.specs.Calls.{IsPackedMade}

module _ {formed : Bool} {made dest after : Bytes} {w : Written} (h : IsMade formed made dest w after) where
  pub making_packs : (formed ≡ true → length made ≤ 27) → PacksLaying (paper_written w)
  making_packs short = by_cases formed refl (ltb (length dest) (length made)) refl
    where
      by_cases : (f : Bool) → formed ≡ f → (b : Bool) → ltb (length dest) (length made) ≡ b → PacksLaying (paper_written w)
      by_cases false e b t = rw (one_making h (not_formed e)).0 (lit≤ tt)
      by_cases true e true t = rw (one_making h (no_room e (ltb-true _ _ t))).0 (lit≤ tt)
      by_cases true e false t = rw (one_making h (is_laid e (ltb-false _ _ t) refl refl)).0 (omega (arith, short e))

  pub made_packed : {n : ℕ} → n ≡ packed_laying (paper_written w) → IsPackedMade formed made dest n after
  made_packed m = record { number = m ∙ ap packed_laying h.answer; lent = h.lent }
