-- However a payload is cut into bits, `qrbill_read` and `qrbill_places` answer of what `qrbill_hand` held what they answer of the whole. Assumes nothing.
use Prim.Native.Nat.{ℕ, ◌≤◌}
use mathlib.Core.List.{List, flatten}
use mathlib.Core.Path.{◌≡◌, ap, ◌∙◌}
use lib.ListN.{length}
use Rattle.sieve.specs.Bytes.{Bytes}
use Rattle.sieve.specs.Verdict.{verdict}
use Rattle.swiss.specs.declared.Edition.TheVariants.{V24}
use Rattle.swiss.specs.Swiss.{swiss}
use Rattle.packing.specs.Packing.{packed, packed_verdict}
use Rattle.packing.specs.Calls.{IsPackedRead}
use Rattle.scanner.specs.Scanning.{too_many, bytes_held, handed_into}
use Rattle.scanner.proofs.Promise.{lent_however_cut, lent_is_read}

-- a room of 998 bytes, whatever is in it, into which the bits are handed one after the other
module _ (room : Bytes) (enough : too_many ≤ length room) (bits : List Bytes) where
  pub however_cut_judged : packed (verdict swiss (bytes_held (handed_into room bits))) ≡ packed (verdict swiss (flatten bits))
  unfolding swiss
  however_cut_judged = ap packed (lent_however_cut V24 room enough bits)

  pub however_cut_read : (list : List ℕ) (r : ℕ) (after : List ℕ) → IsPackedRead swiss (bytes_held (handed_into room bits)) list r after → IsPackedRead swiss (flatten bits) list r after
  unfolding swiss
  however_cut_read list r after h =
      let same = lent_is_read V24 room enough bits list in
      record { number = h.number ∙ ap (λ d. packed_verdict d.answer) same; lent = h.lent ∙ ap (λ d. d.lent) same }
