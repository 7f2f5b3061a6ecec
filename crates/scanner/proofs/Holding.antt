-- A scan holds what was handed over, bit by bit, and its close answers what the reader answers on that. Assumes nothing.
use Prim.Native.Nat.{ℕ, ◌+◌, ◌≤◌, ◌<◌}
use native.Mathlib.Omega.{arith}
use mathlib.Core.List.{List, [], ◌∷◌, ◌++◌, append_assoc, append-nil, flatten}
use mathlib.Core.Logic.{⊎_elim}
use mathlib.Core.Path.{◌≡◌, refl, sym, ap, ◌∙◌}
use lib.ListN.{length, take, drop, length-append, length-drop}
use lib.Seq.{take_at, drop_at, length-take-le}
use borrow.Author.Tests.{lt-ltb, le-ltb, ne_eqb}
use Rattle.sieve.specs.Bytes.{Bytes}
use Rattle.sieve.specs.Reading.{read_answer}
use Rattle.sieve.specs.Verdict.{under, refused, findings, first, verdict}
use Rattle.sieve.proofs.ReaderPromises.{refused_unlisted}
use Rattle.swiss.specs.Limits.{most_bytes}
use Rattle.swiss.specs.declared.Edition.{Edition}
use Rattle.swiss.specs.Swiss.{swiss_in}
use Rattle.scanner.specs.declared.Scan.{Scan}
use Rattle.scanner.specs.Scanning.{too_many, held_in, bytes_held, most_in, handed_over, handed_all, close_answer}
use Rattle.scanner.specs.Holding.{Holds, whole, overfull}
use Rattle.scanner.proofs.Handing.{over_or_in, handed_over_lem, handed_in}

-- whatever the room has in it
pub nothing_held : (room : Bytes) → Holds [] (held_in room 0)
nothing_held room = whole (omega arith) refl refl

-- a bit that fits lies behind what was held, and the room is as long as before
module _ (t : Scan) (b : Bytes) where
  abbrev rest : Bytes
  rest = drop (t.len + length b) t.bytes

  module _ (fits : t.len + length b ≤ most_in t.bytes) where
    front : length (bytes_held t ++ b) ≡ t.len + length b
    front = length-append (bytes_held t) b ∙ ap (λ (n : ℕ). n + length b) (length-take-le t.len t.bytes (omega (arith, fits)))

    laid : bytes_held t ++ (b ++ rest) ≡ (bytes_held t ++ b) ++ rest
    laid = sym (append_assoc (bytes_held t) b rest)

    as_long : length (bytes_held t ++ (b ++ rest)) ≡ length t.bytes
    as_long = ap length laid ∙ length-append (bytes_held t ++ b) rest ∙ omega (arith, front, length-drop (t.len + length b) t.bytes, fits)

    then_held : take (t.len + length b) (bytes_held t ++ (b ++ rest)) ≡ bytes_held t ++ b
    then_held = ap (take (t.len + length b)) laid ∙ take_at (bytes_held t ++ b) rest (t.len + length b) front

    pub then_rest : drop (t.len + length b) (bytes_held t ++ (b ++ rest)) ≡ rest
    then_rest = ap (drop (t.len + length b)) laid ∙ drop_at (bytes_held t ++ b) rest (t.len + length b) front

    pub then_front : take t.len (bytes_held t ++ (b ++ rest)) ≡ bytes_held t
    then_front = take_at (bytes_held t) (b ++ rest) t.len (length-take-le t.len t.bytes (omega (arith, fits)))

  pub same_room : length (handed_over t b).bytes ≡ length t.bytes
  same_room = ⊎_elim (λ over. ap (λ (u : Scan). length u.bytes) (handed_over_lem t b over)) (λ fits. ap (λ (u : Scan). length u.bytes) (handed_in t b fits) ∙ as_long fits) (over_or_in t b)

pub all_same_room : (t : Scan) (bits : List Bytes) → length (handed_all t bits).bytes ≡ length t.bytes
unfolding handed_all
all_same_room t [] = refl
all_same_room t (b ∷ bs) = all_same_room (handed_over t b) bs ∙ same_room t b

pub hand_holds : {p : Bytes} {t : Scan} (b : Bytes) → Holds p t → Holds (p ++ b) (handed_over t b)
hand_holds {p} {t} b (whole few len is) = ⊎_elim more behind (over_or_in t b)
  where
    more : most_in t.bytes < t.len + length b → Holds (p ++ b) (handed_over t b)
    more h = rw (handed_over_lem t b h) (overfull (omega (arith, h, len, length-append p b)) refl)

    behind : t.len + length b ≤ most_in t.bytes → Holds (p ++ b) (handed_over t b)
    behind h =
        rw (handed_in t b h)
        (whole
        (omega (arith, h, len, length-append p b, as_long t b h))
        (omega (arith, len, length-append p b))
        (then_held t b h ∙ ap (λ (q : Bytes). q ++ b) is))
hand_holds {p} {t} b (overfull more len) = rw (handed_over_lem t b (omega (arith, len))) (overfull (omega (arith, more, length-append p b)) refl)

pub all_hold : {p : Bytes} {t : Scan} (bits : List Bytes) → Holds p t → Holds (p ++ flatten bits) (handed_all t bits)
unfolding handed_all flatten
all_hold {p} [] h = rw append-nil h
all_hold {p} {t} (b ∷ bs) h = rw (← append_assoc p b (flatten bs)) (all_hold {p = p ++ b} bs (hand_holds b h))

module _ (ed : Edition) where
  -- over 997 bytes the verdict is 2
  pub too_many_refused : (p : Bytes) → most_bytes < length p → verdict (swiss_in ed) p ≡ refused (under 2 0)
  unfolding verdict findings first
  too_many_refused p h = rw (ne_eqb (length p) 0 (λ e. omega arith), lt-ltb _ _ h)

  -- what is held is closed as the payload is read
  pub close_answers : {p : Bytes} {t : Scan} (list : List ℕ) → most_bytes ≤ length t.bytes → Holds p t → close_answer ed t list ≡ read_answer (swiss_in ed) p list
  unfolding close_answer
  close_answers {p} {t} list room (whole few len is) = rw (le-ltb most_bytes t.len (omega (arith, few, len)), is)
  close_answers {p} {t} list room (overfull more len) = rw (len, refused_unlisted (swiss_in ed) p list (under 2 0) (too_many_refused p (omega (arith, more, room))))

  -- in a room of 998 bytes, so many bytes of the front as the length says are read as the payload is
  module _ {p : Bytes} {t : Scan} (room : too_many ≤ length t.bytes) where
    pub held_judged : Holds p t → verdict (swiss_in ed) (bytes_held t) ≡ verdict (swiss_in ed) p
    held_judged (whole few len is) = ap (verdict (swiss_in ed)) is
    held_judged (overfull more len) =
        too_many_refused (bytes_held t) (omega (arith, len, length-take-le t.len t.bytes (omega (arith, len, room))))
        ∙ sym (too_many_refused p (omega (arith, more, room)))

    pub held_read : (list : List ℕ) → Holds p t → read_answer (swiss_in ed) (bytes_held t) list ≡ read_answer (swiss_in ed) p list
    held_read list (whole few len is) = ap (λ (q : Bytes). read_answer (swiss_in ed) q list) is
    held_read list (overfull more len) =
        refused_unlisted (swiss_in ed) (bytes_held t) list (under 2 0) (held_judged (overfull more len) ∙ too_many_refused p (omega (arith, more, room)))
        ∙ sym (refused_unlisted (swiss_in ed) p list (under 2 0) (too_many_refused p (omega (arith, more, room))))
