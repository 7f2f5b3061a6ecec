-- Room for numbers beside an answer, asked for last: to lend no room where the list is too short finds what asking for both finds. Assumes nothing.
use Prim.Native.Nat.{ℕ, ◌-◌, ◌≤◌, ◌<◌}
use native.Mathlib.Nat.{sub-zero}
use native.Mathlib.Omega.{arith}
use mathlib.Core.Bool.{Bool, true, false, cond}
use mathlib.Core.List.{List, [], ◌∷◌, ◌++◌, append-nil}
use mathlib.Core.Logic.{◌≢◌}
use mathlib.Core.Option.{Option, some, none, none-ne-some}
use mathlib.Core.Path.{◌≡◌, refl, sym, ap, ◌∙◌}
use lib.Dec.{ltb}
use lib.ListN.{length, take, drop, drop_of_length-le}
use lib.Seq.{take_all}
use borrow.Author.Tests.{lt-ltb, le-ltb, ltb-false}
use borrow.Rule.Slice.PartMut.{mid_of, put_mid, mid_len}
use Rattle.sieve.specs.Bytes.{over}
use Rattle.sieve.specs.Reading.{no_room_refusal}
use Rattle.sieve.specs.Verdict.{Refusal, under, found, first}
use Rattle.packing.specs.Telling.{room_beside}

-- what is found first of some findings and then of others hangs on the others alone
behind : (fs os qs : List (Option Refusal)) → first os ≡ first qs → first (fs ++ os) ≡ first (fs ++ qs)
unfolding first
behind [] os qs h = h
behind (none ∷ fs) os qs h = behind fs os qs h
behind (some r ∷ fs) os qs h = refl

once : (full : Bool) (r : Refusal) → some r ≡ first (found full r ∷ found true r ∷ [])
unfolding first
once true r = refl
once false r = refl

alone : (full : Bool) (r : Refusal) → first (found full r ∷ []) ≡ first (found full r ∷ found false r ∷ [])
unfolding first
alone true r = refl
alone false r = refl

none_at_all : (bytes : ℕ) → 0 < bytes → first (no_room_refusal 0 bytes ∷ []) ≡ some (under 15 0)
unfolding first
none_at_all bytes h = rw (lt-ltb 0 bytes h)

pub beside : (fs : List (Option Refusal)) (bytes room numbers told : ℕ) → 0 < bytes → first (fs ++ (no_room_refusal (room_beside room numbers told) bytes ∷ [])) ≡ first (fs ++ (no_room_refusal room bytes ∷ no_room_refusal numbers told ∷ []))
beside fs bytes room numbers told some_bytes = behind fs _ _ (by_cases (ltb numbers told))
  where
    by_cases : (short : Bool) → first (no_room_refusal (cond short 0 room) bytes ∷ []) ≡ first (no_room_refusal room bytes ∷ found short (under 15 0) ∷ [])
    by_cases true = rw (none_at_all bytes some_bytes) (once (ltb room bytes) (under 15 0))
    by_cases false = alone (ltb room bytes) (under 15 0)

-- no more room is lent on than there is
pub no_more_room : (room numbers told : ℕ) → room_beside room numbers told ≤ room
no_more_room room numbers told = by_cases (ltb numbers told)
  where
    by_cases : (short : Bool) → cond short 0 room ≤ room
    by_cases true = omega arith
    by_cases false = omega arith

-- where all is lent on, the list has its numbers
pub enough_numbers : (room numbers told : ℕ) → room_beside room numbers told ≢ 0 → (told ≤ numbers) × (room_beside room numbers told ≡ room)
enough_numbers room numbers told h = by_cases (ltb numbers told) refl h
  where
    by_cases : (short : Bool) → ltb numbers told ≡ short → cond short 0 room ≢ 0 → (told ≤ numbers) × (cond short 0 room ≡ room)
    by_cases true e k = absurd (k refl)
    by_cases false e k = (ltb-false numbers told e, refl)

-- where what is laid may be nothing: what is found with the room that is lent on, and with all that is lent

stops_behind : (fs os qs : List (Option Refusal)) {r : Refusal} → (first os ≡ some r → first qs ≡ some r) → first (fs ++ os) ≡ some r → first (fs ++ qs) ≡ some r
unfolding first
stops_behind [] os qs h e = h e
stops_behind (none ∷ fs) os qs h e = stops_behind fs os qs h e
stops_behind (some q ∷ fs) os qs h e = e

module _ (fs : List (Option Refusal)) (laid room numbers told : ℕ) where
  -- what is refused is refused so
  pub beside_stops : {r : Refusal} → first (fs ++ (no_room_refusal (room_beside room numbers told) laid ∷ [])) ≡ some r → first (fs ++ (no_room_refusal room laid ∷ no_room_refusal numbers told ∷ [])) ≡ some r
  unfolding first
  beside_stops {r} = stops_behind fs _ _ (by_cases (ltb numbers told))
    where
      full : (b : Bool) → first (found b (under 15 0) ∷ []) ≡ some r → first (no_room_refusal room laid ∷ found true (under 15 0) ∷ []) ≡ some r
      full true e = sym (once (ltb room laid) (under 15 0)) ∙ e
      full false e = absurd (none-ne-some r e)

      by_cases : (short : Bool) → first (no_room_refusal (cond short 0 room) laid ∷ []) ≡ some r → first (no_room_refusal room laid ∷ found short (under 15 0) ∷ []) ≡ some r
      by_cases true e = full (ltb 0 laid) e
      by_cases false e = sym (alone (ltb room laid) (under 15 0)) ∙ e

  -- with enough numbers the same is found, or nothing
  pub beside_enough : told ≤ numbers → first (fs ++ (no_room_refusal (room_beside room numbers told) laid ∷ [])) ≡ first (fs ++ (no_room_refusal room laid ∷ no_room_refusal numbers told ∷ []))
  beside_enough h = behind fs _ _ (rw (le-ltb numbers told h) (alone (ltb room laid) (under 15 0)))

-- and with too few they are what is left to refuse
pub beside_short : (fs : List (Option Refusal)) (laid room numbers told : ℕ) → numbers < told → first (fs ++ (no_room_refusal (room_beside room numbers told) laid ∷ [])) ≡ none
    → first (fs ++ (no_room_refusal room laid ∷ no_room_refusal numbers told ∷ [])) ≡ some (under 15 0)
unfolding first
beside_short [] laid room numbers told h e = rw (lt-ltb numbers told h) (sym (once (ltb room laid) (under 15 0)))
beside_short (none ∷ fs) laid room numbers told h e = beside_short fs laid room numbers told h e
beside_short (some q ∷ fs) laid room numbers told h e = absurd (none-ne-some q (sym e))

-- the part that is lent on
module _ (dest : List ℕ) (numbers told room : ℕ) (is-room : room ≡ room_beside (length dest) numbers told) where
  abbrev pub lent_on : List ℕ
  lent_on = mid_of 0 (room - 0) dest

  within : room ≤ length dest
  within = rw is-room (no_more_room (length dest) numbers told)

  pub lent_length : length lent_on ≡ room
  lent_length = mid_len 0 room dest within ∙ sub-zero room

  -- where that is all of it, what is laid in front of the part lies in front of all
  pub laid_back : room ≡ length dest → {after : List ℕ} (laid : List ℕ) → after ≡ over lent_on laid → put_mid 0 (room - 0) dest after ≡ over dest laid
  laid_back whole {after} laid k =
      let all-of-it : room - 0 ≡ length dest = sub-zero room ∙ whole in
      let none-behind : drop (room - 0) dest ≡ [] = rw all-of-it (drop_of_length-le dest {i = length dest} (omega arith)) in
      let whole_part : take (room - 0) dest ≡ dest = rw all-of-it (take_all (length dest) dest (omega arith)) in
      ap (λ (t : List ℕ). after ++ t) none-behind ∙ append-nil after ∙ k ∙ ap (λ (d : List ℕ). over d laid) whole_part
