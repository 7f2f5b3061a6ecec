-- Calls for C that tell more than one number: the answer is one, and the others go to a list that is lent, where the call succeeds. Assumes nothing.
use Rattle.std.specs.Prelude.{ℕ, cond, List, ◌≡◌, ltb, length}
use Rattle.std.proofs.Math.Option.{Option, some, none}
use Rattle.sieve.specs.Bytes.{Bytes, over}
use Rattle.sieve.specs.Verdict.{Refusal}
use Rattle.packing.specs.Packing.{packed_refusal}

-- the number that is answered, and what the destination and the list then hold
pub record Reply : Type 0 where
  pub number : ℕ
  pub dest : Bytes
  pub list : List ℕ

-- the number r, the destination and the list afterwards are those
pub record IsReply (t : Reply) (r : ℕ) (after : Bytes) (numbers : List ℕ) : Type 0 where
  pub number : r ≡ t.number
  pub lent : after ≡ t.dest
  pub told : numbers ≡ t.list

-- bytes are laid in the front of the destination and numbers in that of the list, where nothing is found; else neither changes
abbrev pub reply_onto : Bytes → List ℕ → Bytes → List ℕ → Option Refusal → Reply
reply_onto bytes numbers dest list none = record { number = length bytes; dest = over dest bytes; list = over list numbers }
reply_onto bytes numbers dest list (some r) = record { number = packed_refusal r; dest = dest; list = list }

-- the room that is lent on: none, so that nothing is laid, where the list has fewer numbers than are told
abbrev pub room_beside : ℕ → ℕ → ℕ → ℕ
room_beside room numbers told = cond (ltb numbers told) 0 room
