-- A call that tells numbers beside its answer lends the front of its destination, and none of it where the list is too short: what comes of that is what has to be told. Assumes nothing.
use Prim.Native.Nat.{ℕ, ◌-◌, ◌≤◌, ◌<◌}
use native.Mathlib.Omega.{arith}
use mathlib.Core.List.{List}
use mathlib.Core.Logic.{◌≢◌}
use mathlib.Core.Option.{Option, some, none}
use mathlib.Core.Path.{◌≡◌, ap, ◌∙◌}
use lib.ListN.{length}
use borrow.Rule.Slice.PartMut.{put_mid, put_same}
use Rattle.runs.specs.Laid.{over_fitting}
use Rattle.runs.proofs.Lays.{laid_in_lem}
use Rattle.sieve.specs.Bytes.{Bytes, over}
use Rattle.sieve.specs.Verdict.{Refusal}
use Rattle.packing.specs.Packing.{packed_refusal}
use Rattle.packing.specs.Telling.{IsReply, reply_onto, room_beside}
use Rattle.packing.proofs.Telling.{enough_numbers, lent_on, lent_length, laid_back}

-- the room that is lent on, of a destination and of a list for so many numbers
module _ (dest : Bytes) (list : List ℕ) (count room : ℕ) (is-room : room ≡ room_beside (length dest) (length list) count) where
  abbrev part : Bytes
  part = lent_on dest (length list) count room is-room

  -- what is to be laid and told
  module _ (bytes : Bytes) (numbers : List ℕ) where
    -- nothing is laid: both are as they were
    pub nothing_told : {o : Option Refusal} {r : Refusal} {after : Bytes} {n : ℕ} → o ≡ some r → after ≡ part → n ≡ packed_refusal r
        → IsReply (reply_onto bytes numbers dest list o) n (put_mid 0 (room - 0) dest after) list
    nothing_told found same e = record { number = rw found e; lent = rw found (ap (put_mid 0 (room - 0) dest) same ∙ put_same 0 (room - 0) dest); told = rw found }

    -- some bytes are laid, so all of the destination was lent on, and the list has room
    pub all_told : {o : Option Refusal} {after : Bytes} {n : ℕ} {l : List ℕ} → o ≡ none → length numbers ≡ count → 0 < length bytes
        → length bytes ≤ length part → after ≡ over part bytes → n ≡ length bytes → l ≡ over_fitting list numbers
        → IsReply (reply_onto bytes numbers dest list o) n (put_mid 0 (room - 0) dest after) l
    all_told {after = after} found counted some_bytes fits laid e filled =
        let some-room : room_beside (length dest) (length list) count ≢ 0 = λ z. omega (arith, fits, lent_length dest (length list) count room is-room, is-room, z, some_bytes) in
        let (enough, whole) = enough_numbers (length dest) (length list) count some-room in
        record {
          number = rw found e;
          lent = rw found (laid_back dest (length list) count room is-room (is-room ∙ whole) bytes laid);
          told = rw found (filled ∙ laid_in_lem list numbers (omega (arith, enough, counted)));
        }
