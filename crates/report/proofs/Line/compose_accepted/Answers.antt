-- `report::Line::compose_accepted` meets its contract. Assumes nothing.
use Prim.Native.Nat.{◌+◌, ◌≤◌}
use native.Mathlib.Omega.{arith}
use mathlib.Core.List.{◌++◌, append_assoc}
use mathlib.Core.Path.{◌≡◌, ◌∙◌}
use lib.Dec.{lit≤}
use lib.ListN.{length, length-append}
use Rattle.sieve.specs.declared.Break.{Break}
use Rattle.sieve.specs.declared.Break.TheVariants.{Lf, CrLf}
use Rattle.sieve.specs.Bytes.{Bytes, ascii}
use Rattle.sieve.specs.Verdict.{accepted}
use Rattle.report.specs.declared.Line.{Line}
use Rattle.report.specs.Laying.{said}
use Rattle.report.specs.Spoken.{in_decimal, break_name, line_end, spoken}
use Rattle.report.proofs.Adding.{says_nothing, more, few_digits}
use Rattle.report.proofs.Line.compose_accepted.Goals as goal
use Rattle.report.proofs.Line.compose_accepted.Goals.{After-add_named}

-- a count of at most three digits is said
upto_count : (c : After-add_named) → c.add_named.new.self.at ≤ 12
upto_count c =
    let n = c.args.n in
    omega (arith, c.requires.1, c.add_named.ensures.at_after, length-append (ascii "accepted ") (in_decimal n), few_digits n c.requires.0)

-- what is said after the count
abbrev end : Break → Bytes
end k = ascii " lines " ++ (break_name k ++ line_end)

short_end : (k : Break) → length (end k) ≤ 12
short_end Lf = lit≤ tt
short_end CrLf = lit≤ tt

whole : (c : After-add_named) (k : Break) (line : Line)
    → (line.at ≡ c.add_named.new.self.at + length (end k)) × (said line ≡ said c.add_named.new.self ++ end k)
    → (line.at ≤ 32) × (said line ≡ spoken (accepted c.args.n k))
unfolding spoken
whole c k line e =
    let n = c.args.n in
    let s = more (end k) (more (ascii "accepted " ++ in_decimal n) (says_nothing c.requires.1) (c.add_named.ensures.at_after, c.add_named.ensures.line_after)) e in
    (omega (arith, e.0, upto_count c, short_end k), s.text ∙ append_assoc (ascii "accepted ") (in_decimal n) (end k))

pub add-requires : goal.add-requires
add-requires c = omega (arith, upto_count (goal.at.add-requires c).After-add_named)

pub add-requires-in-CrLf : goal.add-requires-in-CrLf
add-requires-in-CrLf c = omega (arith, upto_count (goal.at.add-requires-in-CrLf c).After-add_named)

pub returns-in-Lf-clause-line_after : goal.returns-in-Lf-clause-line_after
returns-in-Lf-clause-line_after c = rw c.in-Lf.is ((whole (goal.at.returns-in-Lf-clause-line_after c).After-add_named Lf _ (c.add.ensures.at_after, c.add.ensures.line_after)).1)

pub returns-in-CrLf-clause-line_after : goal.returns-in-CrLf-clause-line_after
returns-in-CrLf-clause-line_after c = rw c.in-CrLf.is ((whole (goal.at.returns-in-CrLf-clause-line_after c).After-add_named CrLf _ (c.add-in-CrLf.ensures.at_after, c.add-in-CrLf.ensures.line_after)).1)

pub returns-in-Lf-clause-upper_bound : goal.returns-in-Lf-clause-upper_bound
returns-in-Lf-clause-upper_bound c =
    (whole (goal.at.returns-in-Lf-clause-upper_bound c).After-add_named Lf _ (c.add.ensures.at_after, c.add.ensures.line_after)).0

pub returns-in-CrLf-clause-upper_bound : goal.returns-in-CrLf-clause-upper_bound
returns-in-CrLf-clause-upper_bound c =
    (whole (goal.at.returns-in-CrLf-clause-upper_bound c).After-add_named CrLf _ (c.add-in-CrLf.ensures.at_after, c.add-in-CrLf.ensures.line_after)).0
