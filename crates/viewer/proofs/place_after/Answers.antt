-- `viewer::place_after` meets its contract: what is left to move, from where it stands, leads to the same place. Assumes nothing.
use Prim.Native.Nat.{ℕ, suc, ◌-◌}
use native.Mathlib.Omega.{arith}
use mathlib.Core.Path.{◌≡◌, sym, ap, ◌∙◌}
use Rattle.sieve.specs.Bytes.{Bytes}
use Rattle.sieve.specs.Verdict.{verdict}
use Rattle.swiss.specs.Swiss.{swiss}
use Rattle.viewer.specs.View.{past, opened, next_from, standing, moved_from}
use Rattle.viewer.proofs.Standing.{moved_standing, no_further}
use Rattle.viewer.proofs.place_after.Goals as goal

-- from where a viewer is opened
begins : (p : Bytes) (i at : ℕ) → at ≡ opened p (verdict swiss p) → moved_from p i at ≡ standing p i
unfolding standing
begins p i at e = ap (moved_from p i) e ∙ moved_standing p i

module _ (p : Bytes) (s : ℕ) where
  -- past the last line it stays
  stays : (i at : ℕ) → at ≡ past p → moved_from p i at ≡ s → past p ≡ s
  stays i at e h = sym (ap (moved_from p i) e ∙ no_further p i) ∙ h

  -- one move less from one line on
  goes_on : (i j at next : ℕ) → i ≡ suc j → next ≡ next_from p at → moved_from p i at ≡ s → moved_from p j next ≡ s
  unfolding moved_from
  goes_on i j at next n e h = ap (moved_from p j) e ∙ rw n at h

  arrives : (i at : ℕ) → i ≡ 0 → moved_from p i at ≡ s → at ≡ s
  unfolding moved_from
  arrives i at e h = sym (ap (λ (j : ℕ). moved_from p j at) e) ∙ h

pub loop-init : goal.loop-init
loop-init c = let all : c.args.moves - 0 ≡ c.args.moves = omega arith in rw all (begins _ _ _ c.begin-begun.ensures.at)

pub returns-then-at-past : goal.returns-then-at-past
returns-then-at-past c = stays _ _ _ _ c.if-at-past.true c.loop.invariant

pub loop-preserved : goal.loop-preserved
loop-preserved c = goes_on _ _ _ _ _ _ (omega (arith, c.loop-test.true)) c.after-at.ensures c.loop.invariant

pub returns : goal.returns
returns c = arrives _ _ _ _ (omega (arith, c.loop-test.false)) c.loop.invariant
