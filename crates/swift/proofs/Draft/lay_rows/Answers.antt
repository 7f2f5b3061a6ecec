-- `swift::Draft::lay_rows` meets its contract. Assumes nothing.
use native.Mathlib.Omega.{arith}
use mathlib.Core.Path.{◌∙◌}
use Rattle.swift.proofs.Pages.{four_laid}
use Rattle.swift.proofs.Draft.lay_rows.Goals as goal

pub returns : goal.returns
returns c =
    let first = c.lay_row.ensures in
    let second = c.lay_row-2.ensures in
    let third = c.lay_row-3.ensures in
    let fourth = c.lay_row-4.ensures in
    record {
      size = fourth.size ∙ third.size ∙ second.size ∙ first.size;
      roomy = fourth.roomy;
      more = omega (arith, first.more, second.more, third.more, fourth.more);
      cut = fourth.cut ∙ third.cut ∙ second.cut ∙ first.cut;
      paged = λ ls t p h. four_laid first second third fourth ls (t 0) (t 1) (t 2) (t 3) p (h _ 0 (omega arith)) (h _ 1 (omega arith)) (h _ 2 (omega arith)) (h _ 3 (omega arith));
    }
