-- `capi::qrbill_swift` meets its contract: what is answered packs. Assumes nothing.
use native.Mathlib.Omega.{arith}
use mathlib.Core.Path.{refl, ap, ◌∙◌}
use Rattle.swiss.specs.Swiss.{swiss}
use Rattle.runs.specs.Laid.{over_fitting}
use Rattle.capi.proofs.Swift.{low_line, few_told, refused_told, laid_told}
use Rattle.capi.proofs.qrbill_swift.Goals as goal

pub packed_refusal-requires : goal.packed_refusal-requires
unfolding swiss
packed_refusal-requires c = low_line (rw c.in-Err.is at c.fields.ensures)

pub told_counts-requires : goal.told_counts-requires
unfolding swiss
told_counts-requires c = (few_told (rw c.in-Ok.is at c.fields.ensures)).0

pub overflow_cast-result : goal.overflow_cast-result
unfolding swiss
overflow_cast-result c = record { fits = omega (arith, (few_told (rw c.in-Ok.is at c.fields.ensures)).1) }

pub returns-in-Err : goal.returns-in-Err
unfolding swiss
returns-in-Err c =
    let a = c.args in
    let mapped = rw c.in-Err.is at c.fields.ensures in
    refused_told a.payload.now a.dest.now a.list.now c.room_beside-room.result c.room_beside-room.ensures.0 mapped c.packed_refusal.ensures

pub returns-in-Ok : goal.returns-in-Ok
unfolding swiss
returns-in-Ok c =
    let a = c.args in
    let mapped = rw c.in-Ok.is at c.fields.ensures in
    laid_told a.payload.now a.dest.now a.list.now c.room_beside-room.result c.room_beside-room.ensures.0 mapped refl (c.lay.ensures.dest_after ∙ ap (over_fitting a.list.now) c.told_counts.ensures)
