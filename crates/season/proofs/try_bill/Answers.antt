-- `season::try_bill` meets its contract: 2.4 is asked first, and 2.2 only of a refusal where it may differ. Assumes nothing.
use mathlib.Core.Path.{◌≡◌, sym, ap, ◌∙◌}
use Rattle.sieve.specs.Paper.{paper, paper_fault}
use Rattle.sieve.specs.Verdict.{refused, verdict}
use Rattle.swiss.specs.declared.Edition.TheVariants.{V22, V24}
use Rattle.swiss.specs.Limits.{francs, euros}
use Rattle.swiss.specs.Swiss.{swiss_in}
use Rattle.season.specs.Season.{editions_differ}
use Rattle.season.proofs.Accepting.{by_old, by_new, well_listed, accepted_apart, accepted_alike, refused_too, refused_alike}
use Rattle.season.proofs.Paying.{nothing_added}
use Rattle.season.proofs.try_bill.Goals as goal
use Rattle.season.proofs.try_bill.Goals.{After-apart, After-may_differ}

refuses : (q : After-may_differ) → verdict (swiss_in V24) q.args.bill.now ≡ refused (paper_fault q.in-Err.fault)
refuses q = sym q.judge_in-new.ensures.answer ∙ ap paper q.in-Err.is

differing : (c : After-apart) → verdict (swiss_in V24) c.args.bill.now ≡ refused (paper_fault c.in-Err.fault) → c.apart.result ≡ editions_differ c.args.bill.now
unfolding editions_differ
differing c new = rw (sym c.judge_in-old.ensures.answer, new) c.apart.ensures

pub new-requires : goal.new-requires
new-requires c = well_listed V24 (rw c.in-Ok.is at c.judge_in-new.ensures)

pub paid-requires : goal.paid-requires
paid-requires c = rw c.new.ensures (by_new (rw c.in-Ok.is at c.judge_in-new.ensures))

pub returns-then-not-may_differ : goal.returns-then-not-may_differ
returns-then-not-may_differ c =
    let p = c.args.bill.now in
    let new = refuses (goal.at.returns-then-not-may_differ c).After-may_differ in
    let alike = sym c.may_differ.ensures ∙ c.if-not-may_differ.true in
    let old = refused_too p _ new alike in
    record { differs_is = sym (refused_alike p _ new alike); in_francs = sym (nothing_added p old francs); in_euros = sym (nothing_added p old euros) }

pub new-requires-in-Ok-old : goal.new-requires-in-Ok-old
new-requires-in-Ok-old c = well_listed V22 (rw c.in-Ok-old.is at c.judge_in-old.ensures)

pub paid-requires-in-Ok-old : goal.paid-requires-in-Ok-old
paid-requires-in-Ok-old c = rw c.new-in-Ok-old.ensures (by_old (rw c.in-Ok-old.is at c.judge_in-old.ensures))

pub returns-in-Ok : goal.returns-in-Ok
returns-in-Ok c =
    let p = c.args.bill.now in
    let v = sym c.judge_in-new.ensures.answer ∙ ap paper c.in-Ok.is in
    let outcome = rw c.new.ensures at c.paid.ensures in
    record { differs_is = outcome.differs_is ∙ sym (accepted_alike p _ _ v); in_francs = outcome.in_francs; in_euros = outcome.in_euros }

pub returns-in-Ok-old : goal.returns-in-Ok-old
returns-in-Ok-old c =
    let old = sym c.judge_in-old.ensures.answer ∙ ap paper c.in-Ok-old.is in
    let outcome = rw c.new-in-Ok-old.ensures at c.paid-in-Ok-old.ensures in
    record { differs_is = outcome.differs_is ∙ sym (accepted_apart c.args.bill.now _ _ c.in-Err.fault old (refuses (goal.at.returns-in-Ok-old c).After-may_differ)); in_francs = outcome.in_francs; in_euros = outcome.in_euros }

pub returns-in-Err-old : goal.returns-in-Err-old
returns-in-Err-old c =
    let p = c.args.bill.now in
    let old = sym c.judge_in-old.ensures.answer ∙ ap paper c.in-Err-old.is in
    record { differs_is = differing (goal.at.returns-in-Err-old c).After-apart (refuses (goal.at.returns-in-Err-old c).After-may_differ); in_francs = sym (nothing_added p old francs); in_euros = sym (nothing_added p old euros) }
