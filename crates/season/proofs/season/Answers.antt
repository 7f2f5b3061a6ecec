-- `season::season` meets its contract: the count and the places are asked about, then room, and then all bills are tried. Assumes nothing.
use mathlib.Core.Option.{none}
use mathlib.Core.Path.{◌≡◌, sym, ap, ◌∙◌}
use Rattle.std.proofs.lemmas.Result.{err_from_is_err_and}
use Rattle.pile.specs.Pile.{paper_piled}
use Rattle.pile.proofs.Stages.{placed, are_gathered}
use Rattle.season.proofs.Stages.{not_placed, no_room, all_tried}
use Rattle.season.proofs.season.Goals as goal
use Rattle.season.proofs.season.Goals.{In_ok-gather_bills}

-- nothing is found of the count and the places
nothing : (c : In_ok-gather_bills) → let a = c.args in placed a.buffer.now a.places.now a.count ≡ none
nothing c = sym (sym (ap paper_piled c.in_ok-gather_bills.was) ∙ c.gather_bills.ensures)

pub returns-then-list-count : goal.returns-then-list-count
returns-then-list-count c = no_room _ _ _ _ (nothing (goal.at.returns-then-list-count c).In_ok-gather_bills) c.if-list-count.true

pub invariant_of-try_all : goal.invariant_of-try_all
invariant_of-try_all c = record { gathered = are_gathered _ (nothing (goal.at.invariant_of-try_all c).In_ok-gather_bills) }

pub returns-in_err-gather_bills : goal.returns-in_err-gather_bills
returns-in_err-gather_bills c =
    let (f, is, same) = err_from_is_err_and c.from_residual.result c.from_residual.ensures.1 in
    rw (is, same) (not_placed _ _ _ _ (sym (ap paper_piled c.in_err-gather_bills.was) ∙ c.gather_bills.ensures))

pub returns : goal.returns
returns c = all_tried _ _ _ _ (nothing (goal.at.returns c).In_ok-gather_bills) c.if-list-count.false c.try_all.ensures
