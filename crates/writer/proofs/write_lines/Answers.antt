-- `writer::write_lines` meets its contract: the reader is asked about the joined bytes, which lie in a buffer. Assumes nothing.
use mathlib.Core.Path.{◌≡◌, sym, ap, ◌∙◌}
use borrow.Author.Rules.{rules}
use Rattle.std.proofs.lemmas.Result.{err_from_is_err_and}
use Rattle.sieve.specs.Verdict.{verdict}
use Rattle.sieve.specs.Paper.{paper}
use Rattle.swiss.specs.Swiss.{swiss_in}
use Rattle.swiss.proofs.Serves.{edition_serves}
use Rattle.joining.specs.Handing.{handed_bytes}
use Rattle.joining.specs.Stages.{Joined}
use Rattle.joining.proofs.Laying.{laid_front}
use Rattle.joining.proofs.Stages.{settles}
use Rattle.writer.proofs.Gathering.{stops, goes_on}
use Rattle.writer.proofs.write_lines.Goals as goal
use Rattle.writer.proofs.write_lines.Goals.{In_ok-n}

-- lines that are gathered can be joined
gathered_joined : (c : In_ok-n) → let a = c.args in Joined (swiss_in a.edition) a.places.now a.lines a.dest.now c.in_ok-n.n
gathered_joined c = goes_on _ _ c.requires (sym c.gather_lines.ensures ∙ c.in_ok-n.was)

pub lay_lines-requires : goal.lay_lines-requires
lay_lines-requires c = search (rules, gathered_joined (goal.at.lay_lines-requires c).In_ok-n)

pub slice_bounds-verdict_in-end : goal.slice_bounds-verdict_in-end
slice_bounds-verdict_in-end c = search (rules, gathered_joined (goal.at.slice_bounds-verdict_in-end c).In_ok-n)

pub invariant_of-settle : goal.invariant_of-settle
invariant_of-settle c = record { joinable = (gathered_joined (goal.at.invariant_of-settle c).In_ok-n).joinable }

pub settle-requires : goal.settle-requires
settle-requires c = (gathered_joined (goal.at.settle-requires c).In_ok-n).bytes_are

pub returns-in_err-n : goal.returns-in_err-n
returns-in_err-n c =
    let (f, is, same) = err_from_is_err_and c.from_residual.result c.from_residual.ensures.1 in
    rw (is, same) (stops _ _ c.requires (sym c.gather_lines.ensures ∙ c.in_err-n.was))

-- the verdict is that on the joined bytes, which lie in the front of the buffer
pub returns : goal.returns
returns c =
    let a = c.args in
    let joined = gathered_joined (goal.at.returns c).In_ok-n in
    let judged : paper c.verdict_in-answer.result ≡ verdict (swiss_in a.edition) (handed_bytes a.lines) =
    c.verdict_in-answer.ensures ∙ ap (verdict (swiss_in a.edition)) (laid_front (handed_bytes a.lines) _ _ _ joined.bytes_are c.lay_lines.ensures) in
    settles (edition_serves _) joined c.verdict_in-answer.result judged c.settle.ensures.value c.settle.ensures.dest_after
