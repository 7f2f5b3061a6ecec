-- `mod10::checks10` meets its contract: a text with no 27th byte has 0 there, which is no digit. Assumes nothing.
use Prim.Native.Nat.{◌≤◌}
use native.Mathlib.Omega.{arith}
use mathlib.Core.Path.{sym}
use lib.ListN.{length, take, get_or-eq_default}
use borrow.Author.Tests.{ne_eqb}
use Rattle.sieve.specs.Mod10.{check_digit}
use Rattle.mod10.proofs.checks10.Goals as goal

pub returns-then-s-lt27 : goal.returns-then-s-lt27
unfolding check_digit
returns-then-s-lt27 c =
    let s = c.args.s.now in
    let h : length s ≤ 26 = omega arith in
    rw (get_or-eq_default s 0 h) (sym (ne_eqb 0 (check_digit (take 26 s)) (omega arith)))
