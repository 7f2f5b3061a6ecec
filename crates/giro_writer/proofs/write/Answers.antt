-- `giro_writer::write` meets its contract: the reader is asked about the joined bytes, which lie in a buffer. Assumes nothing.
use mathlib.Core.Path.{◌≡◌, refl, sym, ap, ◌∙◌}
use borrow.Author.Rules.{rules}
use Rattle.std.proofs.lemmas.Result.{err_from_is_err_and}
use Rattle.sieve.specs.Verdict.{verdict}
use Rattle.sieve.specs.Paper.{paper}
use Rattle.girocode.specs.Girocode.{girocode}
use Rattle.joining.specs.declared.Handed.{Handed}
use Rattle.joining.specs.Handing.{handed_bytes}
use Rattle.joining.specs.Stages.{Joined}
use Rattle.joining.proofs.Laying.{laid_front}
use Rattle.joining.proofs.Stages.{stops, goes_on, settles}
use Rattle.girocode.proofs.Serves.{girocode_serves}
use Rattle.giro_writer.proofs.write.Goals as goal
use Rattle.giro_writer.proofs.write.Goals.{In_ok-n}

-- what is handed over
abbrev lines : (c : In_ok-n) → Handed
lines c = let a = c.args in record { text = a.text; list = a.places; count = a.count; brk = a.brk }

-- lines that are gathered can be joined
gathered_joined : (c : In_ok-n) → Joined girocode c.args.places.now (lines c) c.args.dest.now c.in_ok-n.n
unfolding girocode
gathered_joined c = goes_on _ refl girocode_serves (sym c.gather.ensures ∙ c.in_ok-n.was)

pub lay_lines-requires : goal.lay_lines-requires
unfolding girocode
lay_lines-requires c = search (rules, gathered_joined (goal.at.lay_lines-requires c).In_ok-n)

pub slice_bounds-verdict-end : goal.slice_bounds-verdict-end
unfolding girocode
slice_bounds-verdict-end c = search (rules, gathered_joined (goal.at.slice_bounds-verdict-end c).In_ok-n)

pub invariant_of-settle : goal.invariant_of-settle
invariant_of-settle c = record { joinable = (gathered_joined (goal.at.invariant_of-settle c).In_ok-n).joinable }

pub settle-requires : goal.settle-requires
settle-requires c = (gathered_joined (goal.at.settle-requires c).In_ok-n).bytes_are

pub returns-in_err-n : goal.returns-in_err-n
unfolding girocode
returns-in_err-n c =
    let (f, is, same) = err_from_is_err_and c.from_residual.result c.from_residual.ensures.1 in
    rw (is, same) (stops _ refl girocode_serves (sym c.gather.ensures ∙ c.in_err-n.was))

-- the verdict is that on the joined bytes, which lie in the front of the buffer
pub returns : goal.returns
returns c =
    let J = handed_bytes (lines (goal.at.returns c).In_ok-n) in
    let joined = gathered_joined (goal.at.returns c).In_ok-n in
    let judged : paper c.verdict-answer.result ≡ verdict girocode J =
    c.verdict-answer.ensures ∙ ap (verdict girocode) (laid_front J _ _ _ joined.bytes_are c.lay_lines.ensures) in
    settles girocode_serves joined c.verdict-answer.result judged c.settle.ensures.value c.settle.ensures.dest_after
