-- What is answered of a mended payload, packed, is what the call has to answer. Assumes nothing.
use Rattle.std.specs.Prelude.{Ok, Err}
use Prim.Native.Nat.{ℕ, ◌-◌, ◌≤◌, ◌<◌}
use native.Mathlib.Omega.{arith}
use mathlib.Core.List.{List, [], ◌∷◌, ◌++◌}
use mathlib.Core.Option.{none, none-ne-some}
use mathlib.Core.Path.{◌≡◌, refl, sym, ap, ◌∙◌}
use lib.Dec.{ltb, lit≤}
use lib.ListN.{length}
use borrow.Author.Tests.{ltb-false}
use borrow.Rule.Slice.PartMut.{mid_of, put_mid}
use Rattle.runs.specs.Laid.{over_fitting}
use Rattle.sieve.specs.declared.Fault.{Fault}
use Rattle.sieve.specs.Bytes.{Bytes}
use Rattle.sieve.specs.Paper.{paper_fault}
use Rattle.sieve.specs.Reading.{no_room_refusal}
use Rattle.sieve.specs.Verdict.{under, found, findings, first}
use Rattle.sieve.proofs.Findings.{each_none, found_none}
use Rattle.sieve.proofs.Numbers.{Each, each_first, each_found, small_findings}
use Rattle.swiss.specs.Swiss.{swiss}
use Rattle.swiss.proofs.Serves.{swiss_serves}
use Rattle.packing.specs.Packing.{packed_refusal}
use Rattle.packing.specs.Telling.{room_beside}
use Rattle.packing.proofs.Telling.{beside, lent_length}
use Rattle.mender.specs.declared.Repairs.{Repairs}
use Rattle.mender.specs.Mending.{most_mended, mend, mend_findings, IsMended}
use Rattle.mender.proofs.Promise.{refusal_changes_nothing, written_so}
use Rattle.capi.specs.Calls.{told_repairs, mend_told, IsPackedMended}
use Rattle.packing.proofs.Beside.{nothing_told, all_told}
use Rattle.capi.proofs.Swift.{Low, none_of_none}

-- what is refused names a line below 1000

low_findings : (p bytes : Bytes) (room : ℕ) → Each Low (first (mend_findings p bytes room))
unfolding mend_findings swiss
low_findings p bytes room =
    let reader = first (findings swiss bytes) in
    let last = no_room_refusal room (length bytes) in
    each_first {P = Low} (found (ltb most_mended (length p)) (under 2 0)) (reader ∷ last ∷ []) (each_found Low (ltb most_mended (length p)) (under 2 0) (lit≤ tt))
    (each_first {P = Low} reader (last ∷ []) (λ r e. (small_findings swiss_serves bytes r e).line)
    (each_first {P = Low} last [] (each_found Low (ltb room (length bytes)) (under 15 0) (lit≤ tt)) none_of_none))

pub low_line : {p dest : Bytes} {f : Fault} {after : Bytes} → IsMended p dest (Err f) after → (paper_fault f).line < 1000
low_line {p} {dest} {f} h = low_findings p (mend p).bytes (length dest) (paper_fault f) (refusal_changes_nothing h).is_found

-- no bytes are found by the reader, before room is asked for
none_some : (bytes : Bytes) → first (findings swiss bytes) ≡ none → 0 < length bytes
unfolding findings first
none_some [] e = absurd (none-ne-some (under 1 0) (sym e))
none_some (x ∷ s) e = omega arith

module _ (p dest : Bytes) (list : List ℕ) (room : ℕ) (is-room : room ≡ room_beside (length dest) (length list) 3) where
  abbrev part : Bytes
  part = mid_of 0 (room - 0) dest

  -- what is found with the part is what is found with all that is lent
  found_alike : (bytes : Bytes) → first (mend_findings p bytes (length part)) ≡ first (mend_findings p bytes (length dest) ++ (no_room_refusal (length list) 3 ∷ []))
  unfolding mend_findings findings first
  found_alike [] = refl
  found_alike (x ∷ s) =
      ap (λ (n : ℕ). first (mend_findings p (x ∷ s) n)) (lent_length dest (length list) 3 room is-room ∙ is-room)
      ∙ beside (found (ltb most_mended (length p)) (under 2 0) ∷ first (findings swiss (x ∷ s)) ∷ []) (length (x ∷ s)) (length dest) (length list) 3 (omega arith)

  pub refused_told : {f : Fault} {after : Bytes} {n : ℕ} → IsMended p part (Err f) after → n ≡ packed_refusal (paper_fault f) → IsPackedMended p dest list n (put_mid 0 (room - 0) dest after) list
  unfolding mend_told
  refused_told h e =
      let so = refusal_changes_nothing h in
      nothing_told dest list 3 room is-room (mend p).bytes (told_repairs (mend p).repairs) (sym (found_alike (mend p).bytes) ∙ so.is_found) so.unchanged e

  pub written_told : {c : Repairs} {after : Bytes} {m n : ℕ} {l : List ℕ} → IsMended p part (Ok (m, c)) after → n ≡ m → l ≡ over_fitting list (told_repairs c) → IsPackedMended p dest list n (put_mid 0 (room - 0) dest after) l
  unfolding mend_told mend_findings
  written_told {c} h e filled =
      let so = written_so h in
      let out = (mend p).bytes in
      let none_in = each_none (mend_findings p out (length part)) so.nothing_found in
      let fits : length out ≤ length part = ltb-false _ _ (found_none (ltb (length part) (length out)) (under 15 0) (none_in 2)) in
      all_told dest list 3 room is-room out (told_repairs (mend p).repairs) (sym (found_alike out) ∙ so.nothing_found) refl (none_some out (none_in 1)) fits so.bytes (e ∙ so.size) (filled ∙ ap (λ (d : Repairs). over_fitting list (told_repairs d)) so.repairs)
