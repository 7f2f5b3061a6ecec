-- `mender::rework_in` meets its contract: the reader is asked about what the four steps leave in the room. Assumes nothing.
use mathlib.Core.Path.{◌≡◌, ap, ◌∙◌}
use Rattle.std.proofs.lemmas.Result.{err_from_is_err_and}
use Rattle.sieve.specs.Paper.{paper}
use Rattle.sieve.specs.Verdict.{verdict}
use Rattle.swiss.specs.Swiss.{swiss}
use Rattle.mender.specs.Mending.{mend_by_steps}
use Rattle.mender.specs.Steps.{reworked}
use Rattle.mender.proofs.Answers.{by_refusal, by_room, same_mend, front_is, repairs_are}
use Rattle.mender.proofs.rework_in.Goals as goal
use Rattle.mender.proofs.rework_in.Goals.{After-verdict}

-- the reader is asked about the reworked payload
asked : (v : After-verdict) → paper v.verdict.result ≡ verdict swiss (reworked v.args.payload.now)
asked v = v.verdict.ensures ∙ ap (verdict swiss) (front_is v.sweep-swept.ensures v.end_of-end.ensures)

pub returns-in_err-verdict : goal.returns-in_err-verdict
returns-in_err-verdict c =
    let (f, is, same) = err_from_is_err_and c.from_residual.result c.from_residual.ensures.1 in
    rw (is, same) (by_refusal (mend_by_steps c.args.payload.now) _ (asked (goal.at.returns-in_err-verdict c).After-verdict) c.in_err-verdict.was)

pub returns : goal.returns
returns c =
    let sweeping = c.sweep-swept.ensures in
    let ended = c.end_of-end.ensures in
    by_room (mend_by_steps c.args.payload.now) _ (asked (goal.at.returns c).After-verdict) c.in_ok-verdict.was (same_mend (front_is sweeping ended) (repairs_are sweeping ended) c.lay_mended.ensures)
