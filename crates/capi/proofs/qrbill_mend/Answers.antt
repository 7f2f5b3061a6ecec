-- `capi::qrbill_mend` meets its contract: what is answered packs. Assumes nothing.
use native.Mathlib.Omega.{arith}
use mathlib.Core.Path.{refl, ap, ◌∙◌}
use Rattle.runs.specs.Laid.{over_fitting}
use Rattle.mender.proofs.Promise.{small_counts}
use Rattle.capi.proofs.Mend.{low_line, refused_told, written_told}
use Rattle.capi.proofs.qrbill_mend.Goals as goal

pub packed_refusal-requires : goal.packed_refusal-requires
packed_refusal-requires c = low_line (rw c.in-Err.is at c.mend.ensures)

pub told_repairs-requires : goal.told_repairs-requires
told_repairs-requires c = (small_counts (rw c.in-Ok.is at c.mend.ensures)).0

pub overflow_cast-result : goal.overflow_cast-result
overflow_cast-result c = record { fits = omega (arith, (small_counts (rw c.in-Ok.is at c.mend.ensures)).1) }

pub returns-in-Err : goal.returns-in-Err
returns-in-Err c =
    let a = c.args in
    let mended = rw c.in-Err.is at c.mend.ensures in
    refused_told a.payload.now a.dest.now a.list.now c.room_beside-room.result c.room_beside-room.ensures.0 mended c.packed_refusal.ensures

pub returns-in-Ok : goal.returns-in-Ok
returns-in-Ok c =
    let a = c.args in
    let mended = rw c.in-Ok.is at c.mend.ensures in
    written_told a.payload.now a.dest.now a.list.now c.room_beside-room.result c.room_beside-room.ensures.0 mended refl (c.lay.ensures.dest_after ∙ ap (over_fitting a.list.now) c.told_repairs.ensures)
