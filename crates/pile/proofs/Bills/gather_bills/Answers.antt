-- `pile::Bills::gather_bills` meets its contract: the count and the places are asked about in their order. Assumes nothing.
use mathlib.Core.Path.{sym, ◌∙◌}
use Rattle.pile.proofs.Stages.{too_many, too_few_places, place_outside, all_placed}
use Rattle.pile.proofs.Bills.gather_bills.Goals as goal

pub returns-then-self-gt-MOST_BILLS : goal.returns-then-self-gt-MOST_BILLS
returns-then-self-gt-MOST_BILLS c = sym (too_many _ _ _ c.if-self-gt-MOST_BILLS.true)

pub returns-then-self : goal.returns-then-self
returns-then-self c = sym (too_few_places _ _ _ c.if-self-gt-MOST_BILLS.false c.if-self.true)

pub returns-in-Some : goal.returns-in-Some
returns-in-Some c = sym (place_outside _ _ _ c.if-self-gt-MOST_BILLS.false c.if-self.false (sym c.in-Some.is ∙ c.first_outside.ensures))

pub returns-in-None : goal.returns-in-None
returns-in-None c = sym (all_placed _ _ _ c.if-self-gt-MOST_BILLS.false c.if-self.false (sym c.in-None.is ∙ c.first_outside.ensures))
