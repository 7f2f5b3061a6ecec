-- The reader's whole answer for any payload and any lent list, and what the list then holds. Assumes nothing.
use Rattle.std.specs.Prelude.{ℕ, List, ◌++◌, ◌≡◌, ltb, drop, length}
use Rattle.std.proofs.Math.Option.{Option, some, none}
use Rattle.sieve.specs.Paper.{Answer, paper}
use Rattle.sieve.specs.Bytes.{Bytes}
use Rattle.sieve.specs.Lines.{bill_of}
use Rattle.sieve.specs.Rules.{Layout}
use Rattle.sieve.specs.Verdict.{Refusal, under, found, Verdict, accepted, refused, verdict}
use Rattle.sieve.specs.Places.{places_of, list_size}

-- what a call answers, and what the memory that it was lent holds afterwards
pub record Done (A : Type 0) : Type 0 where
  pub answer : A
  pub lent : List ℕ

-- 15: lent room too small
abbrev pub no_room_refusal : ℕ → ℕ → Option Refusal
no_room_refusal room wanted = found (ltb room wanted) (under 15 0)

-- the verdict; of an accepted payload then room; then the places, in the front of the list
abbrev pub read_onto : Layout → Bytes → List ℕ → Verdict → Option Refusal → Done Verdict
read_onto L p list (refused r) o = record { answer = refused r; lent = list }
read_onto L p list (accepted n k) (some r) = record { answer = refused r; lent = list }
read_onto L p list (accepted n k) none = record { answer = accepted n k; lent = places_of L (bill_of p) ++ drop (list_size L) list }

unfoldable pub read_answer : Layout → Bytes → List ℕ → Done Verdict
read_answer L p list = read_onto L p list (verdict L p) (no_room_refusal (length list) (list_size L))

-- of a payload and a list, the answer r and the list afterwards
pub record IsRead (L : Layout) (p : Bytes) (list : List ℕ) (r : Answer) (after : List ℕ) : Type 0 where
  pub answer : paper r ≡ (read_answer L p list).answer
  pub lent : after ≡ (read_answer L p list).lent
