-- `capi::qrbill_make_iban` meets its contract: what is answered packs. Assumes nothing.
use native.Mathlib.Omega.{arith}
use Rattle.making.proofs.Promise.{iban_length_lem}
use Rattle.capi.proofs.Made.{making_packs}
use Rattle.capi.proofs.qrbill_make_iban.Goals as goal

pub packed_laying-requires : goal.packed_laying-requires
packed_laying-requires c = let a = c.args in making_packs c.make_iban.ensures (λ f. omega (arith, iban_length_lem a.country.now a.iid.now a.account.now f))
