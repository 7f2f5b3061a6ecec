-- What is promised of a reader and of a writer is so, over every layout that the code can serve. Assumes nothing.
use Prim.Native.Nat.{ℕ, ◌≤◌, ◌<◌}
use native.Mathlib.Omega.{arith}
use mathlib.Core.Bool.{Bool, true, false}
use mathlib.Core.List.{List, ◌++◌}
use mathlib.Core.Option.{none-ne-some}
use mathlib.Core.Path.{◌≡◌, refl, sym, ap, ◌∙◌}
use lib.Dec.{ltb}
use lib.ListN.{length, drop}
use borrow.Author.Tests.{ltb-true}
use Rattle.sieve.specs.Paper.{Answer, Written, paper_fault, paper_written}
use Rattle.std.specs.Prelude.{Ok, Err}
use Rattle.sieve.specs.declared.Break.{Break}
use Rattle.sieve.specs.declared.Fault.{Fault}
use Rattle.sieve.specs.declared.Fault.TheVariants.{BadCharacter, NoRoom}
use Rattle.sieve.specs.Bytes.{Bytes, over}
use Rattle.sieve.specs.Lines.{Bill, cut, lines_of, joined, bill_of, written}
use Rattle.sieve.specs.Rules.{Layout}
use Rattle.sieve.specs.Verdict.{Refusal, under, under_at, found, Verdict, accepted, refused, verdict}
use Rattle.sieve.specs.Places.{places_of, list_size}
use Rattle.sieve.specs.Reading.{read_onto, read_answer, IsRead}
use Rattle.sieve.specs.Writing.{write_answer, IsWritten}
use Rattle.sieve.specs.Pointing.{BeginsNeither, PointsInto}
use Rattle.sieve.specs.Keeps.{Keeps}
use Rattle.sieve.specs.Demand.{Is, Earliest}
use Rattle.sieve.specs.Serves.{Serves}
use Rattle.sieve.specs.Promises.{lines_by, handed_bill, HandsOver, Short, ReaderPromises, WriterPromises}
use Rattle.sieve.proofs.Numbers.{never_14_or_15}
use Rattle.sieve.proofs.PaperLosesNothing.{one_answer, one_written}
use Rattle.sieve.proofs.Pointing.{verdict_points, writer_points, in_joined}
use Rattle.sieve.proofs.ReaderPromises.{accepted_no_room, accepted_reads, refused_reads, bill_reads}
use Rattle.sieve.proofs.Room.{short_alone}
use Rattle.sieve.proofs.Together as together
use Rattle.sieve.proofs.WriterPromises.{short_list, laid_written, laid_accepted, refused_unchanged, bill_laid, bill_not_laid, round_trip}

module _ {L : Layout} {p : Bytes} {list after : List ℕ} where
  one_reading : {q r : Answer} {other : List ℕ} → IsRead L p list q after → IsRead L p list r other → (q ≡ r) × (after ≡ other)
  one_reading {q} {r} h k = (one_answer q r (h.answer ∙ sym k.answer), h.lent ∙ sym k.lent)

  too_little_room : {n : ℕ} {k : Break} {r : Answer} → length list < list_size L → verdict L p ≡ accepted n k → IsRead L p list r after → (r ≡ Err NoRoom) × (after ≡ list)
  too_little_room {n} {k} {r} short v h =
      let e = accepted_no_room L p list n k v short in
      (one_answer r _ (h.answer ∙ ap (λ d. d.answer) e), h.lent ∙ ap (λ d. d.lent) e)

  reader_points : {i at : ℕ} → IsRead L p list (Err (BadCharacter i at)) after → BeginsNeither (L.width (lines_of (cut p))) p i at
  unfolding read_answer
  reader_points {i} {at} h = by_cases (verdict L p) refl (ltb (length list) (list_size L)) (sym h.answer)
    where
      by_cases : (v : Verdict) → verdict L p ≡ v → (b : Bool) → (read_onto L p list v (found b (under 15 0))).answer ≡ refused (under_at 3 i at) → BeginsNeither (L.width (lines_of (cut p))) p i at
      by_cases (refused q) v b s = verdict_points L p i at (v ∙ s)
      by_cases (accepted n k) v true s = let r : under 15 0 ≡ under_at 3 i at = cc in absurd (none-ne-some at (ap (λ (q : Refusal). q.place) r))
      by_cases (accepted n k) v false s = let z : ◌≡◌ {A = ℕ} 0 1 = cc in absurd (omega arith)

module _ {L : Layout} (serves : Serves L) where
  module _ {p : Bytes} {list after : List ℕ} where
    accepted_is_bill : {n : ℕ} {k : Break} → list_size L ≤ length list → IsRead L p list (Ok (n, k)) after
        → (b : Bill) × Is L p n k b × (lines_by L p after n ≡ b.lines) × (drop (list_size L) after ≡ drop (list_size L) list)
    accepted_is_bill {n} {k} room h =
        let r = accepted_reads serves p list room n k (sym h.answer) in
        (r.bill, r.is, rw h.lent r.cut_out, rw h.lent r.rest)

    refused_is_earliest : {f : Fault} → list_size L ≤ length list → IsRead L p list (Err f) after → Earliest L p (paper_fault f) × (after ≡ list)
    refused_is_earliest {f} room h = let (e, l) = refused_reads serves p list room (paper_fault f) (sym h.answer) in (e, h.lent ∙ l)

    reader_room_alone : IsRead L p list (Err NoRoom) after → (length list < list_size L) × ((n : ℕ) × ((k : Break) × (verdict L p ≡ accepted n k)))
    unfolding read_answer
    reader_room_alone h = by_cases (verdict L p) refl (ltb (length list) (list_size L)) refl (sym h.answer)
      where
        by_cases : (v : Verdict) → verdict L p ≡ v → (b : Bool) → ltb (length list) (list_size L) ≡ b → (read_onto L p list v (found b (under 15 0))).answer ≡ refused (under 15 0)
            → (length list < list_size L) × ((n : ℕ) × ((k : Break) × (verdict L p ≡ accepted n k)))
        by_cases (refused q) v b e s = absurd ((never_14_or_15 serves p (under 15 0) (v ∙ s)).1 refl)
        by_cases (accepted n k) v true e s = (ltb-true _ _ e, (n, (k, v)))
        by_cases (accepted n k) v false e s = let z : ◌≡◌ {A = ℕ} 0 1 = cc in absurd (omega arith)

  bill_is_accepted : {b : Bill} {list after : List ℕ} {r : Answer} → list_size L ≤ length list → Keeps L b → IsRead L (written b) list r after → r ≡ Ok (length b.lines, b.break)
  bill_is_accepted {b} {list} {r = r} room h k = one_answer r _ (k.answer ∙ bill_reads serves b list room h)

  -- the reader's promises
  pub reader_promises : ReaderPromises L
  reader_promises =
      record {
        one_reading = one_reading;
        accepted_is_bill = accepted_is_bill;
        bill_is_accepted = bill_is_accepted;
        refused_is_earliest = refused_is_earliest;
        too_little_room = too_little_room;
        room_alone = reader_room_alone;
        points_at_the_byte = reader_points;
      }

module _ {L : Layout} {text dest after : Bytes} {list : List ℕ} {count : ℕ} {k : Break} where
  one_writing : {q r : Written} {other : Bytes} → IsWritten L text list count k dest q after → IsWritten L text list count k dest r other → (q ≡ r) × (after ≡ other)
  one_writing {q} {r} h j = (one_written q r (h.answer ∙ sym j.answer), h.lent ∙ sym j.lent)

  -- a writing ends as the writer's whole answer says
  ends_so : (q : Written) {r : Written} {end : Bytes} → IsWritten L text list count k dest r after → write_answer L text list count k dest ≡ record { answer = paper_written q; lent = end }
      → (r ≡ q) × (after ≡ end)
  ends_so q {r} h e = (one_written r q (h.answer ∙ ap (λ d. d.answer) e), h.lent ∙ ap (λ d. d.lent) e)

  lines_are_written : {n : ℕ} → IsWritten L text list count k dest (Ok n) after → let p = written (handed_bill L text list count k) in (n ≡ length p) × (after ≡ over dest p)
  lines_are_written {n} h = let (e, l) = laid_written L text list count k dest n (sym h.answer) in (e, h.lent ∙ l)

  refusal_changes_nothing : {f : Fault} → IsWritten L text list count k dest (Err f) after → after ≡ dest
  refusal_changes_nothing {f} h = h.lent ∙ refused_unchanged L text list count k dest (paper_fault f) (sym h.answer)

  list_too_short : {r : Written} → length list < list_size L → IsWritten L text list count k dest r after → (r ≡ Err NoRoom) × (after ≡ dest)
  list_too_short short h = ends_so (Err NoRoom) h (short_list L text list count k dest short)

  points_into : {i at : ℕ} → IsWritten L text list count k dest (Err (BadCharacter i at)) after → let ls = lines_by L text list count in (at < length (joined k ls)) × PointsInto L k ls i at
  points_into {i} {at} h = let points = writer_points L text list count k dest i at (sym h.answer) in (in_joined L text list count k dest i at points, points)

module _ {L : Layout} (serves : Serves L) where
  module _ {text dest after : Bytes} {list : List ℕ} {count : ℕ} {k : Break} where
    written_is_accepted : {n : ℕ} → IsWritten L text list count k dest (Ok n) after
        → let b = handed_bill L text list count k in (verdict L (written b) ≡ accepted count k) × (bill_of (written b) ≡ b) × Keeps L b
    written_is_accepted {n} h = laid_accepted L text list count k dest serves n (sym h.answer)

    writer_room_alone : IsWritten L text list count k dest (Err NoRoom) after → Short L text list count k dest
    writer_room_alone h = short_alone L text list count k dest serves (sym h.answer)

  module _ {b : Bill} {text dest after : Bytes} {list : List ℕ} {r : Written} (keeps : Keeps L b) (hands : HandsOver L text list b) where
    bill_is_written : length (written b) ≤ length dest → IsWritten L text list (length b.lines) b.break dest r after → (r ≡ Ok (length (written b))) × (after ≡ over dest (written b))
    bill_is_written room h = ends_so (Ok (length (written b))) h (bill_laid serves b text list dest keeps hands room)

    destination_too_short : length dest < length (written b) → IsWritten L text list (length b.lines) b.break dest r after → (r ≡ Err NoRoom) × (after ≡ dest)
    destination_too_short short h = ends_so (Err NoRoom) h (bill_not_laid serves b text list dest keeps hands short)

  payload_again : {p dest after : Bytes} {n : ℕ} {k : Break} {r : Written} (rest : List ℕ) → verdict L p ≡ accepted n k → length p ≤ length dest
      → IsWritten L p (places_of L (bill_of p) ++ rest) n k dest r after → (r ≡ Ok (length p)) × (after ≡ over dest p)
  payload_again {p} {dest} {n = n} {k = k} rest v room h = ends_so (Ok (length p)) h (round_trip serves p n k rest dest v room)

  -- the writer's promises
  pub writer_promises : WriterPromises L
  writer_promises =
      record {
        one_writing = one_writing;
        lines_are_written = lines_are_written;
        written_is_accepted = written_is_accepted;
        refusal_changes_nothing = refusal_changes_nothing;
        bill_is_written = bill_is_written;
        payload_again = payload_again;
        list_too_short = list_too_short;
        destination_too_short = destination_too_short;
        room_alone = writer_room_alone;
        read_then_written = together.read_then_written serves;
        written_then_read = together.written_then_read serves;
        points_at_the_byte = points_into;
      }
