-- `capi::qrbill_make_scor` meets its contract: what is answered packs. Assumes nothing.
use native.Mathlib.Omega.{arith}
use Rattle.making.proofs.Promise.{scor_length}
use Rattle.capi.proofs.Made.{making_packs}
use Rattle.capi.proofs.qrbill_make_scor.Goals as goal

pub packed_laying-requires : goal.packed_laying-requires
packed_laying-requires c = let a = c.args in making_packs c.make_scor.ensures (λ f. omega (arith, scor_length a.reference.now f))
