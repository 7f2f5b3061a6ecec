-- What whoever calls a reader or a writer may rely on, over any layout. Assumes nothing.
use Rattle.std.specs.Prelude.{ℕ, ◌≤◌, ◌<◌, List, ◌++◌, ◌⊎◌, ◌≡◌, length, take, drop}
use Rattle.std.proofs.Math.Option.{none}
use Rattle.sieve.specs.Paper.{Answer, Written, paper_fault}
use Rattle.std.specs.Prelude.{Ok, Err}
use Rattle.sieve.specs.declared.Break.{Break}
use Rattle.sieve.specs.declared.Fault.{Fault}
use Rattle.sieve.specs.declared.Fault.TheVariants.{BadCharacter, NoRoom}
use Rattle.sieve.specs.Bytes.{Bytes, first_such, over}
use Rattle.sieve.specs.Lines.{Bill, cut, lines_of, joined, written, bill_of}
use Rattle.sieve.specs.Rules.{Layout}
use Rattle.sieve.specs.Verdict.{accepted, verdict}
use Rattle.sieve.specs.Places.{places_of, list_size, inner_of}
use Rattle.sieve.specs.Reading.{IsRead}
use Rattle.sieve.specs.Writing.{outside, spans, handed, mismeasured, IsWritten}
use Rattle.sieve.specs.Pointing.{BeginsNeither, PointsInto}
use Rattle.sieve.specs.Keeps.{Keeps}
use Rattle.sieve.specs.Demand.{Is, Earliest}

-- the lines that a layout's list hands over, and the bill that they are with a break

abbrev pub lines_by : Layout → Bytes → List ℕ → ℕ → List Bytes
lines_by L text list count = handed text (inner_of L count list) count

abbrev pub handed_bill : Layout → Bytes → List ℕ → ℕ → Break → Bill
handed_bill L text list count k = record { lines = lines_by L text list count; break = k }

-- by this list the lines of b lie in the text, anywhere, overlapping or not
pub record HandsOver (L : Layout) (text : Bytes) (list : List ℕ) (b : Bill) : Type 0 where
  -- it is as long as the layout's list
  pub long : list_size L ≤ length list
  -- what lies at its places are the lines
  pub lines : lines_by L text list (length b.lines) ≡ b.lines
  -- none of them lies outside the text
  pub inside : first_such (outside (length text)) 1 (spans (length b.lines) (inner_of L (length b.lines) list)) ≡ none
  -- what it says of a line besides is so
  pub measured : mismeasured L.measures 1 list b.lines ≡ none

-- the list is too short, or the destination is shorter than what the reader accepts
abbrev pub Short : Layout → Bytes → List ℕ → ℕ → Break → Bytes → Type 0
Short L text list count k dest =
    let b = handed_bill L text list count k in
    (length list < list_size L) ⊎ ((verdict L (written b) ≡ accepted count k) × (length dest < length (written b)))

-- of a payload p and a lent list: an answer, and what the list is after
pub record ReaderPromises (L : Layout) : Type 0 where
  -- there is one answer, and one content of the list
  pub one_reading : {p : Bytes} {list : List ℕ} {q r : Answer} {a b : List ℕ} → IsRead L p list q a → IsRead L p list r b → (q ≡ r) × (a ≡ b)
  -- given room, what is accepted is a bill that keeps every rule and is written as those bytes; the places cut out its lines, and numbers past the list stay
  pub accepted_is_bill : {p : Bytes} {list after : List ℕ} {n : ℕ} {k : Break} → list_size L ≤ length list → IsRead L p list (Ok (n, k)) after
      → (b : Bill) × Is L p n k b × (lines_by L p after n ≡ b.lines) × (drop (list_size L) after ≡ drop (list_size L) list)
  -- given room, every bill that keeps the rules is accepted, with its line count and its break
  pub bill_is_accepted : {b : Bill} {list after : List ℕ} {r : Answer} → list_size L ≤ length list → Keeps L b → IsRead L (written b) list r after
      → r ≡ Ok (length b.lines, b.break)
  -- given room, any other payload is refused under the earliest rule that it breaks, and no number of the list changes
  pub refused_is_earliest : {p : Bytes} {list after : List ℕ} {f : Fault} → list_size L ≤ length list → IsRead L p list (Err f) after
      → Earliest L p (paper_fault f) × (after ≡ list)
  -- too little room is told where nothing else is wrong, and no number of the list changes
  pub too_little_room : {p : Bytes} {list after : List ℕ} {n : ℕ} {k : Break} {r : Answer} → length list < list_size L → verdict L p ≡ accepted n k → IsRead L p list r after
      → (r ≡ Err NoRoom) × (after ≡ list)
  -- and nowhere else
  pub room_alone : {p : Bytes} {list after : List ℕ} → IsRead L p list (Err NoRoom) after → (length list < list_size L) × ((n : ℕ) × ((k : Break) × (verdict L p ≡ accepted n k)))
  -- a refusal under 3 points at a byte: the first place where neither a character nor a break begins, and its line
  pub points_at_the_byte : {p : Bytes} {list after : List ℕ} {i at : ℕ} → IsRead L p list (Err (BadCharacter i at)) after → BeginsNeither (L.width (lines_of (cut p))) p i at

-- of a text, a list with the places of so many lines in it, a break and a destination: an answer, and what the destination is after
pub record WriterPromises (L : Layout) : Type 0 where
  -- there is one answer, and one content of the destination
  pub one_writing : {text : Bytes} {list : List ℕ} {count : ℕ} {k : Break} {dest : Bytes} {q r : Written} {a b : Bytes}
      → IsWritten L text list count k dest q a → IsWritten L text list count k dest r b → (q ≡ r) × (a ≡ b)
  -- what is written is the bill of those lines and that break; what lies behind it stays
  pub lines_are_written : {text dest after : Bytes} {list : List ℕ} {count n : ℕ} {k : Break} → IsWritten L text list count k dest (Ok n) after
      → let p = written (handed_bill L text list count k) in (n ≡ length p) × (after ≡ over dest p)
  -- the reader accepts it and gives back the same lines and break: the bill keeps every rule
  pub written_is_accepted : {text dest after : Bytes} {list : List ℕ} {count n : ℕ} {k : Break} → IsWritten L text list count k dest (Ok n) after
      → let b = handed_bill L text list count k in (verdict L (written b) ≡ accepted count k) × (bill_of (written b) ≡ b) × Keeps L b
  -- a refusal changes nothing
  pub refusal_changes_nothing : {text dest after : Bytes} {list : List ℕ} {count : ℕ} {k : Break} {f : Fault} → IsWritten L text list count k dest (Err f) after → after ≡ dest
  -- a bill that keeps every rule, whose lines a list hands over, is written, given room
  pub bill_is_written : {b : Bill} {text dest after : Bytes} {list : List ℕ} {r : Written} → Keeps L b → HandsOver L text list b → length (written b) ≤ length dest
      → IsWritten L text list (length b.lines) b.break dest r after → (r ≡ Ok (length (written b))) × (after ≡ over dest (written b))
  -- round trip: an accepted payload, with its own places, count and break, gives the payload again, given room
  pub payload_again : {p dest after : Bytes} {n : ℕ} {k : Break} {r : Written} (rest : List ℕ) → verdict L p ≡ accepted n k → length p ≤ length dest
      → IsWritten L p (places_of L (bill_of p) ++ rest) n k dest r after → (r ≡ Ok (length p)) × (after ≡ over dest p)
  -- a list that is too short is told, and so is a destination that is shorter than the bill; nothing changes
  pub list_too_short : {text dest after : Bytes} {list : List ℕ} {count : ℕ} {k : Break} {r : Written} → length list < list_size L → IsWritten L text list count k dest r after
      → (r ≡ Err NoRoom) × (after ≡ dest)
  pub destination_too_short : {b : Bill} {text dest after : Bytes} {list : List ℕ} {r : Written} → Keeps L b → HandsOver L text list b → length dest < length (written b)
      → IsWritten L text list (length b.lines) b.break dest r after → (r ≡ Err NoRoom) × (after ≡ dest)
  -- and only then: where there is too little room, nothing else is wrong
  pub room_alone : {text dest after : Bytes} {list : List ℕ} {count : ℕ} {k : Break} → IsWritten L text list count k dest (Err NoRoom) after → Short L text list count k dest
  -- with the reader: what was read into a list, and is written from it, gives the payload again
  pub read_then_written : {p dest end : Bytes} {list after : List ℕ} {n : ℕ} {k : Break} {r : Written} → list_size L ≤ length list → IsRead L p list (Ok (n, k)) after
      → length p ≤ length dest → IsWritten L p after n k dest r end → (r ≡ Ok (length p)) × (end ≡ over dest p)
  -- and what was written is read with that count and break, and the places cut out the lines that were handed over
  pub written_then_read : {text dest end : Bytes} {list other after : List ℕ} {count n : ℕ} {k : Break} {r : Answer} → IsWritten L text list count k dest (Ok n) end
      → list_size L ≤ length other → IsRead L (take n end) other r after → (r ≡ Ok (count, k)) × (lines_by L (take n end) after count ≡ lines_by L text list count)
  -- a refusal under 3 points at a byte of the joined lines
  pub points_at_the_byte : {text dest after : Bytes} {list : List ℕ} {count : ℕ} {k : Break} {i at : ℕ} → IsWritten L text list count k dest (Err (BadCharacter i at)) after
      → let ls = lines_by L text list count in (at < length (joined k ls)) × PointsInto L k ls i at
