-- `capi::qrbill_make_qrr` meets its contract: what is answered packs. Assumes nothing.
use native.Mathlib.Omega.{arith}
use Rattle.making.proofs.Promise.{qrr_length_lem}
use Rattle.capi.proofs.Made.{making_packs}
use Rattle.capi.proofs.qrbill_make_qrr.Goals as goal

pub packed_laying-requires : goal.packed_laying-requires
packed_laying-requires c = let a = c.args in making_packs c.make_qrr.ensures (λ f. omega (arith, qrr_length_lem a.digits.now f))
