-- `joining::lay_line` meets its contract: the line is laid, byte by byte, and then the bytes of the break. Assumes nothing.
use Prim.Native.Nat.{◌+◌, ◌≤◌, ◌<◌}
use native.Mathlib.Omega.{arith}
use mathlib.Core.List.{◌++◌}
use mathlib.Core.Path.{◌≡◌, refl, ap}
use lib.ListN.{length, length-append}
use Rattle.sieve.specs.declared.Break.TheVariants.{Lf, CrLf}
use Rattle.sieve.specs.Lines.{break_bytes}
use Rattle.runs.proofs.Lays.{one_laid}
use Rattle.joining.specs.Handing.{with_break}
use Rattle.joining.proofs.Laying.{line_within, Front, whole, byte_more, two_more}
use Rattle.joining.proofs.lay_line.Goals as goal
use Rattle.joining.proofs.lay_line.Goals.{After-loop-i, In-Some-CrLf, In-Some-Lf, In-loop-i}

-- there is room for the line
line_fits : (c : In-loop-i) → let a = c.args in length a.line.now ≤ length a.dest.now
line_fits c = omega (arith, line_within c.args.line.now c.args.after)

-- after the loop the whole line is laid
line-laid : (c : After-loop-i) → let a = c.args in Front a.dest.now a.line.now (length a.line.now) c.loop-i.dest
line-laid c = (refl, (whole c.loop-i-test.false c.loop-i.invariant).1)

-- what is laid, where an LF comes after the line, has room
with_lf : (c : In-Some-Lf)
    → let a = c.args in
    with_break a.line.now a.after ≡ a.line.now ++ break_bytes Lf
with_lf c = let kind : c.in-Some-Lf.field-0 ≡ Lf = rw c.in-Some-Lf.is at c.in-Some-Lf.field-0-is in rw (c.in-Some-Lf.is, kind)

lf-fits : (c : In-Some-Lf)
    → length c.args.line.now < length c.args.dest.now
lf-fits c =
    omega (arith, c.loop-i.invariant.few, c.requires, ap length (with_lf c), length-append c.args.line.now (break_bytes Lf))

-- and so it has where CR and LF do
with_crlf : (c : In-Some-CrLf)
    → let a = c.args in
    with_break a.line.now a.after ≡ a.line.now ++ break_bytes CrLf
with_crlf c = let kind : c.in-Some-CrLf.field-0 ≡ CrLf = rw c.in-Some-CrLf.is at c.in-Some-CrLf.field-0-is in rw (c.in-Some-CrLf.is, kind)

crlf-fits : (c : In-Some-CrLf)
    → length c.args.line.now + 1 < length c.args.dest.now
crlf-fits c =
    omega (arith, c.loop-i.invariant.few, c.requires, ap length (with_crlf c), length-append c.args.line.now (break_bytes CrLf))

pub loop-i-preserved : goal.loop-i-preserved
loop-i-preserved c = one_laid c.loop-i.invariant c.loop-i-test.true (line_fits (goal.at.loop-i-preserved c).In-loop-i)

pub returns-in-Some-Lf-clause-dest_after : goal.returns-in-Some-Lf-clause-dest_after
returns-in-Some-Lf-clause-dest_after c = let a = c.args in rw (with_lf (goal.at.returns-in-Some-Lf-clause-dest_after c).In-Some-Lf) ((byte_more a.dest.now a.line.now _ _ 10 (lf-fits (goal.at.returns-in-Some-Lf-clause-dest_after c).In-Some-Lf) (line-laid (goal.at.returns-in-Some-Lf-clause-dest_after c).After-loop-i)).1)

pub returns-in-Some-CrLf-clause-dest_after : goal.returns-in-Some-CrLf-clause-dest_after
returns-in-Some-CrLf-clause-dest_after c = let a = c.args in rw (with_crlf (goal.at.returns-in-Some-CrLf-clause-dest_after c).In-Some-CrLf) ((two_more a.dest.now a.line.now _ _ 13 10 (crlf-fits (goal.at.returns-in-Some-CrLf-clause-dest_after c).In-Some-CrLf) (line-laid (goal.at.returns-in-Some-CrLf-clause-dest_after c).After-loop-i)).1)
