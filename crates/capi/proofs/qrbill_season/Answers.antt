-- `capi::qrbill_season` meets its contract: what is answered packs. Assumes nothing.
use native.Mathlib.Omega.{arith}
use mathlib.Core.Path.{refl}
use Rattle.season.proofs.Promise.{low_position, few_positions}
use Rattle.capi.proofs.Season.{refused_packed, short_packed, listed_packed}
use Rattle.capi.proofs.qrbill_season.Goals as goal

pub packed_refusal-requires : goal.packed_refusal-requires
packed_refusal-requires c = low_position (rw c.in-Err.is at c.season.ensures)

pub returns-then-sums-lt2 : goal.returns-then-sums-lt2
returns-then-sums-lt2 c =
    let a = c.args in
    let tried = rw c.in-Ok.is at c.season.ensures in
    short_packed a.buffer.now a.places.now a.count a.list.now a.sums.now c.room_beside-room.result c.room_beside-room.ensures.0 tried c.if-sums-lt2.true c.packed_refusal-then-sums-lt2.ensures

pub overflow_cast-result : goal.overflow_cast-result
overflow_cast-result c =
    record { fits = omega (arith, few_positions (rw c.in-Ok.is at c.season.ensures)) }

pub returns-in-Err : goal.returns-in-Err
returns-in-Err c =
    let a = c.args in
    let tried = rw c.in-Err.is at c.season.ensures in
    refused_packed a.buffer.now a.places.now a.count a.list.now a.sums.now c.room_beside-room.result c.room_beside-room.ensures.0 tried c.packed_refusal.ensures

pub returns-else-sums-lt2 : goal.returns-else-sums-lt2
returns-else-sums-lt2 c =
    let a = c.args in
    let tried = rw c.in-Ok.is at c.season.ensures in
    listed_packed a.buffer.now a.places.now a.count a.list.now a.sums.now c.room_beside-room.result c.room_beside-room.ensures.0 tried c.if-sums-lt2.false refl
