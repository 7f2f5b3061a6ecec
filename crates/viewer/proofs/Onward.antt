-- From line to line: what the line finder says of a viewer's line and of its next place. Assumes nothing.
use Prim.Native.Nat.{ℕ, ◌+◌, ◌≤◌}
use native.Mathlib.Omega.{arith}
use mathlib.Core.Path.{◌≡◌, sym}
use mathlib.Core.Logic.{◌≢◌}
use mathlib.Core.List.{[]}
use lib.ListN.{length, drop, drop_of_length-le}
use borrow.Author.Tests.{ne_eqb}
use Rattle.sieve.specs.Bytes.{Bytes}
use Rattle.sieve.specs.Lines.{cut}
use Rattle.sieve.specs.Characters.{break_width}
use Rattle.lines.specs.declared.LineAt.{LineAt}
use Rattle.lines.specs.Results.{IsLineAt}
use Rattle.viewer.specs.View.{past, next_from, line_from}

-- at the end and past it there is no byte
pub no_bytes : (p : Bytes) (at : ℕ) → length p ≤ at → line_from p at ≡ []
unfolding line_from cut
no_bytes p at h = rw (line_from, drop_of_length-le p h)

-- past the last line there is no next one
pub stays_past : (p : Bytes) → next_from p (past p) ≡ past p
unfolding next_from break_width
stays_past p =
    let none : past p + 0 ≡ past p = omega arith in
    rw (no_bytes p (past p) (omega arith), none, drop_of_length-le p {i = past p} (omega arith))

module _ (p : Bytes) (at : ℕ) (r : LineAt) (is : IsLineAt p at r) where
  -- no break follows
  pub last : r.next ≡ r.end → next_from p at ≡ past p
  unfolding next_from line_from
  last e =
      let b : break_width (drop r.end p) ≡ 0 = omega (arith, is.next) in
      rw (← is.end, b)

  pub on : r.next ≢ r.end → next_from p at ≡ r.next
  unfolding next_from line_from
  on e =
      let b : break_width (drop r.end p) ≢ 0 = λ z. e (omega (arith, is.next)) in
      rw (← is.end, ne_eqb _ _ b) (sym is.next)
