-- A payload that comes in bits: what is held of it, and what is answered at the close. Assumes nothing.
use Rattle.std.specs.Prelude.{ℕ, ◌+◌, min, cond, List, [], ◌∷◌, ◌++◌, ◌≡◌, ltb, length, take, drop, replicate}
use Rattle.sieve.specs.Paper.{Answer, paper}
use Rattle.sieve.specs.Bytes.{Bytes}
use Rattle.sieve.specs.Reading.{Done, read_answer}
use Rattle.sieve.specs.Verdict.{under, Verdict, refused}
use Rattle.swiss.specs.Limits.{most_bytes}
use Rattle.swiss.specs.declared.Edition.{Edition}
use Rattle.swiss.specs.Swiss.{swiss_in}
use Rattle.scanner.specs.declared.Scan.{Scan}

-- nothing is held, in a room of zero bytes
unfoldable pub fresh : Scan
fresh = record { bytes = replicate 997 0; len = 0 }

-- a length that notes that there were too many bytes
abbrev pub too_many : ℕ
too_many = 998

-- a room whose front holds so many bytes, as a scan
abbrev pub held_in : Bytes → ℕ → Scan
held_in room n = record { bytes = room; len = n }

-- the bytes that are held, in the front of the room
abbrev pub bytes_held : Scan → Bytes
bytes_held t = take t.len t.bytes

-- the most bytes that a room holds: those of the longest payload, if it has room for them
abbrev pub most_in : Bytes → ℕ
most_in room = min most_bytes (length room)

-- a bit behind what is held; or, where it does not fit, that there were too many bytes
unfoldable pub handed_over : Scan → Bytes → Scan
handed_over t bit =
    cond (ltb (most_in t.bytes) (t.len + length bit)) (record { bytes = t.bytes; len = too_many })
    (record { bytes = bytes_held t ++ (bit ++ drop (t.len + length bit) t.bytes); len = t.len + length bit })

-- bit after bit
unfoldable pub handed_all : Scan → List Bytes → Scan
handed_all t [] = t
handed_all t (b ∷ bs) = handed_all (handed_over t b) bs

-- bit after bit in a room that is lent, whatever is in it: its length is 0 before the first bit
abbrev pub handed_into : Bytes → List Bytes → Scan
handed_into room bits = handed_all (held_in room 0) bits

-- what is answered at the close under an edition, and what the list then holds: 2 where there were too many bytes, else what the reader answers on what is held
unfoldable pub close_answer : Edition → Scan → List ℕ → Done Verdict
close_answer e t list = cond (ltb most_bytes t.len) (record { answer = refused (under 2 0); lent = list }) (read_answer (swiss_in e) (bytes_held t) list)

-- of an edition, a scan and a list, the answer r and the list afterwards
pub record IsClosed (e : Edition) (t : Scan) (list : List ℕ) (r : Answer) (after : List ℕ) : Type 0 where
  pub answer : paper r ≡ (close_answer e t list).answer
  pub lent : after ≡ (close_answer e t list).lent
