-- What the calls for C of a layout answer: the place of a line; the reader and the writer, and what lent memory then holds. Assumes nothing.
use Rattle.std.specs.Prelude.{ℕ, ◌+◌, ◌-◌, ◌*◌, ◌≤◌, Bool, cond, List, ◌≡◌, length, get_or}
use Rattle.std.specs.Borrow.{Bor, MutBor}
use denote.Triple.Both.{Both}
use Rattle.sieve.specs.declared.Break.{Break}
use Rattle.sieve.specs.Bytes.{Bytes, within}
use Rattle.sieve.specs.Lines.{Bill, written, bill_of}
use Rattle.sieve.specs.Places.{placed, entries, walk_lines, walk_numbers}
use Rattle.sieve.specs.Reading.{read_answer}
use Rattle.sieve.specs.Rules.{Layout}
use Rattle.sieve.specs.Verdict.{Verdict, accepted, refused, verdict}
use Rattle.sieve.specs.Writing.{write_answer}
use Rattle.packing.specs.Packing.{packed_place, packed_verdict, packed_laying, told_count, break_for}

-- the place of line i in a list of places
abbrev pub listed_place : List ℕ → ℕ → ℕ
listed_place places i = packed_place (get_or places (2 * (i - 1)) 0) (get_or places (2 * (i - 1) + 1) 0)

-- a list that lists so many lines, all of those that it has room for at most
pub record Lists (places : List ℕ) (most : ℕ) : Type 0 where
  pub numbers : length places ≡ walk_numbers
  pub few : most ≤ walk_lines

-- of an accepted payload, for line i of 1 to most; else 0
abbrev pub line_place : ℕ → List ℕ → ℕ → Verdict → ℕ
line_place most places i (refused r) = 0
line_place most places i (accepted n k) = cond (within 1 most i) (listed_place places i) 0

-- where the lines of a bill lie, of those that its layout may have: an absent one lies at the end and has no bytes
abbrev pub lines_lie : Layout → Bill → List ℕ
lines_lie L b = entries L.most_lines (length (written b)) (placed 0 b.break b.lines)

-- so of a layout's payload and verdict
abbrev pub packed_line : Layout → Bytes → ℕ → Verdict → ℕ
packed_line L p i v = line_place L.most_lines (lines_lie L (bill_of p)) i v

abbrev pub packed_line_in : Layout → Bytes → ℕ → ℕ
packed_line_in L p i = packed_line L p i (verdict L p)

-- of a payload and a list, the number r and the list afterwards
pub record IsPackedRead (L : Layout) (p : Bytes) (list : List ℕ) (r : ℕ) (after : List ℕ) : Type 0 where
  pub number : r ≡ packed_verdict (read_answer L p list).answer
  pub lent : after ≡ (read_answer L p list).lent

-- of a text, a list of places, a count, a break and a destination, the number r and the destination afterwards; no layout that packs has 999 lines, so a greater count is refused as 999 is
pub record IsPackedWritten (L : Layout) (text : Bytes) (list : List ℕ) (count : ℕ) (k : Break) (dest : Bytes) (r : ℕ) (after : Bytes) : Type 0 where
  pub number : r ≡ packed_laying (write_answer L text list (told_count count) k dest).answer
  pub lent : after ≡ (write_answer L text list (told_count count) k dest).lent

-- so of what a call is lent, at its entry and at its exit, with a break of CR LF or of LF
abbrev pub IsPackedWrittenTo : Layout → (text list : Both (Bor (List ℕ)) (Bor (List ℕ))) → ℕ → Bool → (dest : Both (MutBor Bytes) (MutBor Bytes)) → ℕ → Type 0
IsPackedWrittenTo L text list count crlf dest r =
    IsPackedWritten L text.entry.now list.entry.now count (break_for crlf) dest.entry.now r dest.exit.now
