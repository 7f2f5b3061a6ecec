-- What a user of the scanner may rely on. Assumes nothing.
use Prim.Native.Nat.{ℕ, ◌+◌, ◌≤◌, ◌<◌}
use native.Mathlib.Nat.{add-zero}
use native.Mathlib.Omega.{arith}
use mathlib.Core.List.{List, [], ◌++◌, flatten}
use mathlib.Core.Logic.{⊎_elim}
use mathlib.Core.Path.{◌≡◌, sym, ap, ◌∙◌}
use lib.ListN.{length, take, drop, replicate, take-append-drop, length-append, length-replicate}
use Rattle.sieve.specs.Paper.{Answer}
use Rattle.sieve.specs.Bytes.{Bytes}
use Rattle.sieve.specs.Reading.{read_answer, IsRead}
use Rattle.sieve.specs.Verdict.{under, refused, verdict}
use Rattle.sieve.proofs.PaperLosesNothing.{one_answer}
use Rattle.sieve.proofs.ReaderPromises.{refused_unlisted}
use Rattle.swiss.specs.Limits.{most_bytes}
use Rattle.swiss.specs.declared.Edition.{Edition}
use Rattle.swiss.specs.Swiss.{swiss_in}
use Rattle.scanner.specs.declared.Scan.{Scan}
use Rattle.scanner.specs.Scanning.{fresh, too_many, held_in, bytes_held, most_in, handed_over, handed_all, handed_into, close_answer, IsClosed}
use Rattle.scanner.specs.Holding.{Holds, whole, overfull}
use Rattle.scanner.proofs.Handing.{over_or_in, handed_over_lem, handed_in}
use Rattle.scanner.proofs.Holding.{then_front, then_rest, all_same_room, nothing_held, all_hold, close_answers, held_judged, held_read, too_many_refused}

fresh_holds : Holds [] fresh
unfolding fresh
fresh_holds = nothing_held (replicate 997 0)

fresh_room : (bits : List Bytes) → most_bytes ≤ length (handed_all fresh bits).bytes
unfolding fresh
fresh_room bits = omega (arith, all_same_room fresh bits, length-replicate {A = ℕ} 997 0)

module _ (ed : Edition) where
  -- one answer, and one content of the list
  pub one_closing : (t : Scan) (list : List ℕ) (q r : Answer) (a b : List ℕ) → IsClosed ed t list q a → IsClosed ed t list r b → (q ≡ r) × (a ≡ b)
  one_closing t list q r a b h k = (one_answer q r (h.answer ∙ sym k.answer), h.lent ∙ sym k.lent)

  -- over 997 bytes the reader answers 2, whatever follows
  read_too_many : (bits more : List Bytes) (list : List ℕ) → most_bytes < length (flatten bits) → read_answer (swiss_in ed) (flatten bits ++ flatten more) list ≡ record { answer = refused (under 2 0); lent = list }
  read_too_many bits more list h =
      refused_unlisted (swiss_in ed) (flatten bits ++ flatten more) list (under 2 0)
      (too_many_refused ed (flatten bits ++ flatten more) (omega (arith, h, length-append (flatten bits) (flatten more))))

  -- The state by value: however a payload is cut into bits, the close answers what the reader answers on all of it

  module _ (bits : List Bytes) (list : List ℕ) where
    pub however_cut : close_answer ed (handed_all fresh bits) list ≡ read_answer (swiss_in ed) (flatten bits) list
    however_cut = close_answers ed list (fresh_room bits) (all_hold bits fresh_holds)

    pub closed_is_read : (r : Answer) (after : List ℕ) → IsClosed ed (handed_all fresh bits) list r after → IsRead (swiss_in ed) (flatten bits) list r after
    closed_is_read r after h = record { answer = h.answer ∙ ap (λ d. d.answer) however_cut; lent = h.lent ∙ ap (λ d. d.lent) however_cut }

    -- once there are over 997 bytes it is 2, whatever follows
    pub too_many_is_2 : (more : List Bytes) → most_bytes < length (flatten bits) → close_answer ed (handed_all (handed_all fresh bits) more) list ≡ record { answer = refused (under 2 0); lent = list }
    too_many_is_2 more h =
        close_answers ed list (omega (arith, fresh_room bits, all_same_room (handed_all fresh bits) more)) (all_hold more (all_hold bits fresh_holds))
        ∙ read_too_many bits more list h

-- a bit without bytes changes nothing
pub nothing_handed : (t : Scan) → most_bytes ≤ length t.bytes → t.len ≤ too_many → handed_over t [] ≡ t
nothing_handed t room few = ⊎_elim over fits (over_or_in t [])
  where
    over : most_in t.bytes < t.len + 0 → handed_over t [] ≡ t
    over h = let same : too_many ≡ t.len = omega (arith, h, room, few) in handed_over_lem t [] h ∙ ap (held_in t.bytes) same

    fits : t.len + 0 ≤ most_in t.bytes → handed_over t [] ≡ t
    fits h = handed_in t [] h ∙ rw (add-zero t.len, take-append-drop t.len t.bytes)

module _ (ed : Edition) where
  -- The room that is lent, of 998 bytes: however a payload is cut into bits, what is held gets its verdict, its answer and its places

  module _ (room : Bytes) (enough : too_many ≤ length room) (bits : List Bytes) where
    lent_room : too_many ≤ length (handed_into room bits).bytes
    lent_room = omega (arith, enough, all_same_room (held_in room 0) bits)

    pub lent_however_cut : verdict (swiss_in ed) (bytes_held (handed_into room bits)) ≡ verdict (swiss_in ed) (flatten bits)
    lent_however_cut = held_judged ed lent_room (all_hold bits (nothing_held room))

    pub lent_is_read : (list : List ℕ) → read_answer (swiss_in ed) (bytes_held (handed_into room bits)) list ≡ read_answer (swiss_in ed) (flatten bits) list
    lent_is_read list = held_read ed lent_room list (all_hold bits (nothing_held room))

    -- once there are over 997 bytes it is 2, whatever follows
    pub lent_too_many_is_2 : (more : List Bytes) (list : List ℕ) → most_bytes < length (flatten bits) → read_answer (swiss_in ed) (bytes_held (handed_all (handed_into room bits) more)) list ≡ record { answer = refused (under 2 0); lent = list }
    lent_too_many_is_2 more list h =
        held_read ed (omega (arith, lent_room, all_same_room (handed_into room bits) more)) list (all_hold more (all_hold bits (nothing_held room)))
        ∙ read_too_many ed bits more list h

-- Any room: what is held is the payload, or 998 notes that there is too much of it, for a bill or for the room

module _ (room : Bytes) (bits : List Bytes) where
  abbrev Held : Type 0
  Held = ((handed_into room bits).len ≡ length (flatten bits)) × (bytes_held (handed_into room bits) ≡ flatten bits)

  pub few_held : length (flatten bits) ≤ most_in room → Held
  few_held h = by_cases (all_hold bits (nothing_held room))
    where
      by_cases : Holds (flatten bits) (handed_into room bits) → Held
      by_cases (whole few len is) = (len, is)
      by_cases (overfull more len) = absurd (omega (arith, more, h, all_same_room (held_in room 0) bits))

  pub too_many_noted : (more : List Bytes) → most_in room < length (flatten bits) → (handed_all (handed_into room bits) more).len ≡ too_many
  too_many_noted more h = by_cases (all_hold more (all_hold bits (nothing_held room)))
    where
      by_cases : Holds (flatten bits ++ flatten more) (handed_all (handed_into room bits) more) → (handed_all (handed_into room bits) more).len ≡ too_many
      by_cases (whole few len is) = absurd (omega (arith, few, h, length-append (flatten bits) (flatten more), all_same_room (handed_into room bits) more, all_same_room (held_in room 0) bits))
      by_cases (overfull _ len) = len

-- one bit changes no byte before it and none behind it, and where it does not fit, none at all
module _ (t : Scan) (b : Bytes) where
  pub front_stays : take t.len (handed_over t b).bytes ≡ bytes_held t
  front_stays = ⊎_elim (λ h. ap (λ (u : Scan). take t.len u.bytes) (handed_over_lem t b h)) (λ h. ap (λ (u : Scan). take t.len u.bytes) (handed_in t b h) ∙ then_front t b h) (over_or_in t b)

  pub rest_stays : drop (t.len + length b) (handed_over t b).bytes ≡ drop (t.len + length b) t.bytes
  rest_stays = ⊎_elim (λ h. ap (λ (u : Scan). drop (t.len + length b) u.bytes) (handed_over_lem t b h)) (λ h. ap (λ (u : Scan). drop (t.len + length b) u.bytes) (handed_in t b h) ∙ then_rest t b h) (over_or_in t b)

  pub over_stays : most_in t.bytes < t.len + length b → (handed_over t b).bytes ≡ t.bytes
  over_stays h = ap (λ (u : Scan). u.bytes) (handed_over_lem t b h)
