-- What is answered of SWIFT fields, packed, is what the call has to answer. Assumes nothing.
use Rattle.std.specs.Prelude.{Ok, Err}
use Prim.Native.Nat.{ℕ, ◌-◌, ◌≤◌, ◌<◌}
use mathlib.Core.List.{List, [], ◌∷◌, ◌++◌}
use mathlib.Core.Option.{none, none-ne-some}
use mathlib.Core.Path.{◌≡◌, refl, sym, ap, ◌∙◌}
use lib.Dec.{ltb, lit≤}
use lib.ListN.{length}
use borrow.Author.Tests.{ltb-false}
use borrow.Rule.Slice.PartMut.{mid_of, put_mid}
use Rattle.runs.specs.Laid.{over_fitting}
use Rattle.sieve.specs.declared.Fault.{Fault}
use Rattle.sieve.specs.Bytes.{Bytes}
use Rattle.sieve.specs.Lines.{cut, lines_of}
use Rattle.sieve.specs.Paper.{paper_fault}
use Rattle.sieve.specs.Reading.{no_room_refusal}
use Rattle.sieve.specs.Rules.{is_empty}
use Rattle.sieve.specs.Verdict.{Refusal, under, findings, first}
use Rattle.sieve.proofs.Findings.{each_none, found_none}
use Rattle.sieve.proofs.Numbers.{Each, each_first, each_found, small_findings}
use Rattle.swiss.specs.declared.Edition.TheVariants.{V24}
use Rattle.swiss.specs.Swiss.{swiss}
use Rattle.swiss.proofs.Serves.{swiss_serves}
use Rattle.packing.specs.Packing.{packed_refusal}
use Rattle.packing.specs.Telling.{room_beside}
use Rattle.packing.proofs.Telling.{beside, lent_length}
use Rattle.swift.specs.declared.Counts.{Counts}
use Rattle.swift.specs.Fields.{contents, counts_of}
use Rattle.swift.specs.Answering.{no_amount_refusal, field_findings, IsMapped}
use Rattle.swift.specs.Promised.{AreSmall}
use Rattle.swift.proofs.Bounds.{at_most_368}
use Rattle.swift.proofs.Making.{some_content}
use Rattle.swift.proofs.Promise.{refusal_changes_nothing, laid_in_front, laid_found_nothing, refused_found}
use Rattle.swift.proofs.Small.{small_counts}
use Rattle.capi.specs.Calls.{told_counts, swift_answer, IsPackedFields}
use Rattle.packing.proofs.Beside.{nothing_told, all_told}

-- what is refused names a line below 1000

abbrev pub Low : Refusal → Type 0
Low r = r.line < 1000

pub none_of_none : Each Low (first [])
unfolding first
none_of_none r e = absurd (none-ne-some r e)

low_findings : (p : Bytes) (room : ℕ) → Each Low (first (field_findings swiss p room))
unfolding field_findings swiss
low_findings p room =
    let ls = lines_of (cut p) in
    let last = no_room_refusal room (length (contents ls)) in
    each_first {P = Low} (first (findings swiss p)) (no_amount_refusal ls ∷ last ∷ []) (λ r e. (small_findings swiss_serves p r e).line)
    (each_first {P = Low} (no_amount_refusal ls) (last ∷ []) (each_found Low (is_empty 19 ls) (under 16 19) (lit≤ tt))
    (each_first {P = Low} last [] (each_found Low (ltb room (length (contents ls))) (under 15 0) (lit≤ tt)) none_of_none))

pub low_line : {p dest : Bytes} {f : Fault} {after : Bytes} → IsMapped swiss p dest (Err f) after → (paper_fault f).line < 1000
low_line {p} {dest} {f} h = low_findings p (length dest) (paper_fault f) (refused_found h)

-- what is laid is counted by few bits
pub few_told : {p dest : Bytes} {c : Counts} {after : Bytes} → IsMapped swiss p dest (Ok c) after → AreSmall c × (c.bytes ≤ 368)
unfolding field_findings swiss
few_told {p} {dest} h =
    let (told, _) = laid_in_front h in
    let nothing : first (findings swiss p) ≡ none = each_none (field_findings swiss p (length dest)) (laid_found_nothing h) 0 in
    rw told (small_counts V24 p nothing, at_most_368 (lines_of (cut p)))

module _ (p dest : Bytes) (list : List ℕ) (room : ℕ) (is-room : room ≡ room_beside (length dest) (length list) 5) where
  abbrev ls : List Bytes
  ls = lines_of (cut p)

  abbrev part : Bytes
  part = mid_of 0 (room - 0) dest

  -- what is found with the part is what is found with all that is lent
  found_alike : first (field_findings swiss p (length part)) ≡ first (field_findings swiss p (length dest) ++ (no_room_refusal (length list) 5 ∷ []))
  unfolding field_findings
  found_alike =
      ap (λ (n : ℕ). first (field_findings swiss p n)) (lent_length dest (length list) 5 room is-room ∙ is-room)
      ∙ beside (first (findings swiss p) ∷ no_amount_refusal ls ∷ []) (length (contents ls)) (length dest) (length list) 5 (some_content ls)

  pub refused_told : {f : Fault} {after : Bytes} {n : ℕ} → IsMapped swiss p part (Err f) after → n ≡ packed_refusal (paper_fault f) → IsPackedFields swiss p dest list n (put_mid 0 (room - 0) dest after) list
  unfolding swift_answer
  refused_told h e = nothing_told dest list 5 room is-room (contents ls) (told_counts (counts_of ls)) (sym found_alike ∙ refused_found h) (refusal_changes_nothing h) e

  pub laid_told : {c : Counts} {after : Bytes} {n : ℕ} {l : List ℕ} → IsMapped swiss p part (Ok c) after → n ≡ c.bytes → l ≡ over_fitting list (told_counts c) → IsPackedFields swiss p dest list n (put_mid 0 (room - 0) dest after) l
  unfolding swift_answer field_findings
  laid_told {c} h e filled =
      let nothing = laid_found_nothing h in
      let (told, lent) = laid_in_front h in
      let fits : length (contents ls) ≤ length part = ltb-false _ _ (found_none (ltb (length part) (length (contents ls))) (under 15 0) (each_none (field_findings swiss p (length part)) nothing 2)) in
      all_told dest list 5 room is-room (contents ls) (told_counts (counts_of ls)) (sym found_alike ∙ nothing) refl (some_content ls) fits lent (e ∙ ap (λ (d : Counts). d.bytes) told) (filled ∙ ap (λ (d : Counts). over_fitting list (told_counts d)) told)
