-- What a reference finds under SCOR and QRR: what the rules of line 29 find. Assumes nothing.
use mathlib.Core.Bool.{true}
use mathlib.Core.List.{[], ◌∷◌}
use mathlib.Core.Path.{◌≡◌}
use Rattle.sieve.specs.Bytes.{Bytes, ascii, same}
use Rattle.sieve.specs.Mod10.{checks10}
use Rattle.sieve.specs.Mod97.{checks97}
use Rattle.sieve.proofs.Bounds.{same_is}
use Rattle.swiss.specs.Forms.{qrr, scor}
use Rattle.swiss.specs.Limits.{qr_reference, creditor_reference}
use Rattle.swiss.specs.Swiss.{reference}
use Rattle.findings.specs.Findings.{finds, from}
use Rattle.swiss_rules.specs.Parts.{reference_of}

module _ (kind l : Bytes) where
  pub creditor : same kind (ascii creditor_reference) ≡ true → finds (reference_of scor checks97) (from 29 (l ∷ [])) ≡ finds reference (from 28 (kind ∷ l ∷ []))
  unfolding finds
  creditor h = rw (same_is kind (ascii creditor_reference) h)

  pub qr : same kind (ascii qr_reference) ≡ true → finds (reference_of qrr checks10) (from 29 (l ∷ [])) ≡ finds reference (from 28 (kind ∷ l ∷ []))
  unfolding finds
  qr h = rw (same_is kind (ascii qr_reference) h)
