-- `pile::pile` meets its contract: the count and the places are asked about, then room, and then all bills are judged. Assumes nothing.
use native.Mathlib.Omega.{arith}
use mathlib.Core.Option.{none}
use mathlib.Core.Path.{◌≡◌, sym, ap, ◌∙◌}
use Rattle.std.proofs.lemmas.Result.{err_from_is_err_and}
use Rattle.pile.specs.Pile.{paper_piled}
use Rattle.pile.proofs.Stages.{placed, few_bills, are_gathered, not_placed, no_room, is_done}
use Rattle.pile.proofs.pile.Goals as goal
use Rattle.pile.proofs.pile.Goals.{In_ok-gather_bills}

-- nothing is found of the count and the places
nothing : (c : In_ok-gather_bills) → let a = c.args in placed a.buffer.now a.places.now a.count ≡ none
nothing c = sym (sym (ap paper_piled c.in_ok-gather_bills.was) ∙ c.gather_bills.ensures)

pub overflow_mul-count : goal.overflow_mul-count
overflow_mul-count c = record { fits = omega (arith, few_bills _ _ _ (nothing (goal.at.overflow_mul-count c).In_ok-gather_bills)) }

pub returns-then-answers-count : goal.returns-then-answers-count
returns-then-answers-count c = no_room _ _ _ _ _ (nothing (goal.at.returns-then-answers-count c).In_ok-gather_bills) c.if-answers-count.true

pub invariant_of-judge_all : goal.invariant_of-judge_all
invariant_of-judge_all c = record { gathered = are_gathered _ (nothing (goal.at.invariant_of-judge_all c).In_ok-gather_bills) }

pub returns-in_err-gather_bills : goal.returns-in_err-gather_bills
returns-in_err-gather_bills c =
    let (f, is, same) = err_from_is_err_and c.from_residual.result c.from_residual.ensures.1 in
    rw (is, same) (not_placed _ _ _ _ _ (sym (ap paper_piled c.in_err-gather_bills.was) ∙ c.gather_bills.ensures))

pub returns : goal.returns
returns c = is_done _ _ _ _ _ (nothing (goal.at.returns c).In_ok-gather_bills) c.if-answers-count.false c.judge_all.ensures
