-- `report::Line::compose_refused` meets its contract. Assumes nothing.
use Prim.Native.Nat.{ℕ, ◌≤◌}
use native.Mathlib.Omega.{arith}
use mathlib.Core.List.{◌++◌, append_assoc}
use mathlib.Core.Path.{◌≡◌, ap, ◌∙◌}
use lib.ListN.{length-append}
use Rattle.sieve.specs.Bytes.{Bytes, ascii}
use Rattle.sieve.specs.Paper.{paper_fault}
use Rattle.sieve.specs.Verdict.{refused}
use Rattle.sieve.specs.declared.Fault.{Fault}
use Rattle.report.specs.Spoken.{in_decimal, line_end, spoken_place, spoken}
use Rattle.report.proofs.Adding.{says_nothing, more, few_digits}
use Rattle.report.proofs.Line.compose_refused.Goals as goal
use Rattle.report.proofs.Line.compose_refused.Goals.{After-add_named, After-add_named-2, After-add_place}

-- a number of at most three digits is said
upto_number : (c : After-add_named) → c.add_named.new.self.at ≤ 11
upto_number c =
    let n = c.number_of in
    omega (arith, c.requires.1, c.add_named.ensures.at_after, length-append (ascii "refused ") (in_decimal n.result), few_digits n.result (rw n.ensures c.requires.0.0))

-- the line too
upto_place : (c : After-add_named-2) → c.add_named.new.self.at ≤ 11 → c.add_named-2.new.self.at ≤ 20
upto_place c few =
    let (_, line, _) = c.requires.0 in
    omega (arith, few, c.add_named-2.ensures.at_after, length-append (ascii " line ") (in_decimal c.line_of.result), few_digits c.line_of.result (rw c.line_of.ensures line))

-- and the place
upto_end : (c : After-add_place) → c.add_named-2.new.self.at ≤ 20 → c.add_place.new.self.at ≤ 29
upto_end c few = omega (arith, c.add_place.ensures.upper_bound, few)

-- six texts, two and two of them laid together
six : (a b c d e f : Bytes) → (((a ++ b) ++ (c ++ d)) ++ e) ++ f ≡ a ++ (b ++ (c ++ (d ++ (e ++ f))))
six a b c d e f = append_assoc ((a ++ b) ++ (c ++ d)) e f ∙ append_assoc (a ++ b) (c ++ d) (e ++ f) ∙ append_assoc a b ((c ++ d) ++ (e ++ f)) ∙ ap (λ (t : Bytes). a ++ (b ++ t)) (append_assoc c d (e ++ f))

-- they are what is spoken of a refusal
all_said : (f : Fault) (n l : ℕ) → n ≡ (paper_fault f).number → l ≡ (paper_fault f).line → (((ascii "refused " ++ in_decimal n) ++ (ascii " line " ++ in_decimal l)) ++ spoken_place (paper_fault f).place) ++ line_end ≡ spoken (refused (paper_fault f))
unfolding spoken
all_said f n l e g = six (ascii "refused ") (in_decimal n) (ascii " line ") (in_decimal l) (spoken_place (paper_fault f).place) line_end ∙ rw (e, g)

pub add_named-requires-2 : goal.add_named-requires-2
add_named-requires-2 c =
    let ((_, line, _), _) = c.requires in
    (rw c.line_of.ensures line, omega (arith, upto_number (goal.at.add_named-requires-2 c).After-add_named))

pub add_place-requires : goal.add_place-requires
add_place-requires c =
    let at = goal.at.add_place-requires c in
    let ((_, _, place), _) = c.requires in
    (place, omega (arith, upto_place at.After-add_named-2 (upto_number at.After-add_named)))

pub add-requires : goal.add-requires
add-requires c =
    let at = goal.at.add-requires c in
    omega (arith, upto_end at.After-add_place (upto_place at.After-add_named-2 (upto_number at.After-add_named)))

pub returns-clause-upper_bound : goal.returns-clause-upper_bound
returns-clause-upper_bound c =
    let at = goal.at.returns-clause-upper_bound c in
    omega (arith, c.add.ensures.at_after, upto_end at.After-add_place (upto_place at.After-add_named-2 (upto_number at.After-add_named)))

pub returns-clause-line_after : goal.returns-clause-line_after
returns-clause-line_after c =
    let line = c.line_of in
    let number = c.number_of in
    let numbered = more (ascii "refused " ++ in_decimal number.result) (says_nothing c.requires.1) (c.add_named.ensures.at_after, c.add_named.ensures.line_after) in
    let lined = more (ascii " line " ++ in_decimal line.result) numbered (c.add_named-2.ensures.at_after, c.add_named-2.ensures.line_after) in
    let placed = more (spoken_place (paper_fault c.args.fault).place) lined (c.add_place.ensures.at_after, c.add_place.ensures.line_after) in
    let ended = more line_end placed (c.add.ensures.at_after, c.add.ensures.line_after) in
    ended.text ∙ all_said c.args.fault number.result line.result number.ensures line.ensures
