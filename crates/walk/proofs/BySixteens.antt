-- Lines that are passed among sixteen bytes at once, from mark to mark. Assumes nothing.
use Prim.Native.Nat.{ℕ, zero, suc, ◌+◌, ◌-◌, ◌*◌, ◌^◌, ◌≤◌, ◌<◌}
use native.Mathlib.Nat.{add-zero, add_assoc}
use native.Mathlib.Omega.{arith}
use mathlib.Core.Bool.{true, false, true≢false}
use mathlib.Core.List.{List}
use mathlib.Core.Path.{◌≡◌, refl, sym, ap₂, ◌∙◌}
use lib.Bits.{bit_and}
use lib.Count.{count_trailing_zeros}
use lib.ListN.{length, get_or, take, drop, length-drop}
use lib.Seq.{length-take-le, get_or-take, get_or-drop}
use Rattle.sieve.specs.Bytes.{Bytes}
use Rattle.sieve.specs.Places.{walk_numbers}
use Rattle.sieve.specs.Latin.{in_one}
use Rattle.characters.specs.Marks.{marks_of, without_first}
use Rattle.characters.proofs.Left.{Found, found, none_left}
use Rattle.characters.proofs.Marked.{kept}
use Rattle.walk.specs.declared.Behind.{Behind}
use Rattle.walk.specs.declared.Ahead.{Ahead}
use Rattle.walk.specs.Here.{Going, Among, Inside, Through, GoneThrough, Reached, GoneOn}
use Rattle.walk.specs.Walking.{noted, behind_one_passed}
use Rattle.walk.proofs.Coming.{plain_passed, line_feed, carriage_return, a_break_passed}

-- and on to a third place
pub and_on : {s : Bytes} {l l' l'' : List ℕ} {from at to : ℕ} {p p' p'' : Behind} → Going s l from p l' at p' → Going s l' at p' l'' to p'' → Going s l from p l'' to p''
and_on g h = record { onward = λ set here. h.onward set (g.onward set here); forward = omega (arith, g.forward, h.forward) }

-- from the start of a line, as the contract tells it
pub told : {s : Bytes} {l l' : List ℕ} {at : ℕ} {p p' : Behind} → Going s l p.start p l' at p' → GoneOn s l p l' (record { passed = p'; at = at })
told g = record { here = g.onward; forward = g.forward }

module _ (s : Bytes) (from n left : ℕ) (among : Among s from n left) where
  abbrev window : Bytes
  window = take 16 (drop from s)

  size : length window ≡ 16
  size = length-take-le 16 (drop from s) (omega (arith, length-drop from s, among.whole))

  -- characters by themselves from there on are passed
  passed_on : (l : List ℕ) (p : Behind) (k : ℕ) → n + k ≤ 16 → ((i : ℕ) → i < k → in_one (get_or window (n + i) 0) ≡ true) → Going s l (from + n) p l (from + (n + k)) p
  passed_on l p k h plain =
      let assoc : from + n + k ≡ from + (n + k) = omega arith in
      let fits : from + n + k ≤ length s = omega (arith, h, among.whole) in
      let here : (i : ℕ) → i < k → in_one (get_or s (from + n + i) 0) ≡ true = λ i q. rw (get_or-take 16 (drop from s) (n + i) 0 (omega arith), get_or-drop, ← add_assoc from n i) at (plain i q) in
      record { onward = λ set q. rw assoc at (plain_passed set s l (from + n) p k fits here q); forward = omega arith }

  -- where no mark is left, the sixteen bytes are passed
  pub all_passed : left ≡ 0 → (l : List ℕ) (p : Behind) → Going s l (from + n) p l (from + 16) p
  all_passed e l p =
      let rest : n + (16 - n) ≡ 16 = omega (arith, among.few) in
      rw rest at (passed_on l p (16 - n) (omega (arith, among.few)) (λ i k. none_left n window (rw e at among.marks) i (omega (arith, size))))

  -- the first mark
  module _ (some : 0 < left) where
    first : Found left n window
    first = found left n window (omega (arith, size)) among.marks some

    pub in_window : count_trailing_zeros 32 left < 16
    in_window = omega (arith, first.at, first.within, size)

    -- it is not before the place where the walk stands
    pub at_or_behind : n < 16
    at_or_behind = omega (arith, first.within, size)

    pub to_mark : (l : List ℕ) (p : Behind) → Going s l (from + n) p l (from + count_trailing_zeros 32 left) p
    to_mark l p = rw first.at (passed_on l p first.steps (omega (arith, first.within, size)) first.plain)

    -- and what is left behind it
    pub behind_mark : Among s from (count_trailing_zeros 32 left + 1) (without_first left)
    behind_mark =
        let placed : (k : ℕ) → k ≡ n + first.steps → without_first left ≡ marks_of (drop (k + 1) window) * 2 ^ (k + 1) = λ k e. rw e first.later in
        record { whole = among.whole; few = omega (arith, in_window); marks = placed (count_trailing_zeros 32 left) first.at }

    -- a byte there that is marked is the first mark
    pub marked_here : in_one (get_or s (from + n) 0) ≡ false → count_trailing_zeros 32 left ≡ n
    marked_here odd = by_steps first.steps refl
      where
        by_steps : (k : ℕ) → first.steps ≡ k → count_trailing_zeros 32 left ≡ n
        by_steps zero e = omega (arith, first.at)
        by_steps (suc k) e =
            let plain = rw (get_or-take 16 (drop from s) (n + 0) 0 (omega (arith, first.within, size)), get_or-drop, add-zero n) at (first.plain 0 (omega arith)) in
            absurd (true≢false (sym plain ∙ odd))

-- where the walk stands among sixteen bytes, and how it goes on

pub standing : {s : Bytes} {l l' : List ℕ} {from : ℕ} {a r : Ahead} → Inside s l from a → GoneThrough s l from a l' r → Inside s l' from r
standing i g =
    let t = g i.behind i.among in
    record { behind = t.behind; among = t.among; reached = record { set = i.reached.set; here = t.going.onward i.reached.set i.reached.here } }

pub and_through : {s : Bytes} {l l' l'' : List ℕ} {from : ℕ} {a b r : Ahead} → GoneThrough s l from a l' b → GoneThrough s l' from b l'' r → GoneThrough s l from a l'' r
and_through g h n among =
    let t = g n among in
    let u = h t.behind t.among in
    record { behind = u.behind; among = u.among; going = and_on t.going u.going }

-- the first mark of those that are left: it is there, and the walk comes to it
module _ {s : Bytes} {l : List ℕ} {from k : ℕ} {a : Ahead} (i : Inside s l from a) (some : 0 < a.left) (first : k ≡ count_trailing_zeros 32 a.left) where
  pub mark_among : k < 16
  mark_among = omega (arith, in_window s from i.behind a.left i.among some)

  pub mark_there : from + k < length s
  mark_there = omega (arith, mark_among, i.among.whole)

  pub two_there : 0 < without_first a.left → from + k + 1 < length s
  two_there more =
      let later = behind_mark s from i.behind a.left i.among some in
      omega (arith, first, at_or_behind s from (count_trailing_zeros 32 a.left + 1) (without_first a.left) later more, i.among.whole)

  pub at_mark : Reached s l (from + k) a.passed
  at_mark = record { set = i.reached.set; here = rw first ((to_mark s from i.behind a.left i.among some l a.passed).onward _ i.reached.here) }

-- how many are behind may be told in another way
among_by : {s : Bytes} {from k m left : ℕ} → k ≡ m → Among s from (m + 1) left → Among s from (k + 1) left
among_by e a = rw e a

-- a break of one byte at the first mark, and one of two, of which the second is marked too
module _ {s : Bytes} {from left k : ℕ} (some : 0 < left) (first : k ≡ count_trailing_zeros 32 left) where
  pub over_one : {l l' : List ℕ} {p p' : Behind} → Going s l (from + k) p l' (from + k + 1) p' → GoneThrough s l from (record { passed = p; left = left }) l' (record { passed = p'; left = without_first left })
  over_one {l} {p = p} g n among =
      let assoc : from + k + 1 ≡ from + (k + 1) = omega arith in
      let on : Going s l (from + n) p l (from + k) p = rw first (to_mark s from n left among some l p) in
      record { behind = k + 1; among = among_by first (behind_mark s from n left among some); going = rw assoc at (and_on on g) }

  pub over_two : {l l' : List ℕ} {p p' : Behind} → 0 < without_first left → in_one (get_or s (from + k + 1) 0) ≡ false → Going s l (from + k) p l' (from + k + 2) p' → GoneThrough s l from (record { passed = p; left = left }) l' (record { passed = p'; left = without_first (without_first left) })
  over_two {l} {p = p} more odd g n among =
      let later = among_by first (behind_mark s from n left among some) in
      let next : from + k + 1 ≡ from + (k + 1) = omega arith in
      let second = marked_here s from (k + 1) (without_first left) later more (rw next at odd) in
      let assoc : from + k + 2 ≡ from + (k + 1 + 1) = omega arith in
      let on : Going s l (from + n) p l (from + k) p = rw first (to_mark s from n left among some l p) in
      record { behind = k + 1 + 1; among = among_by (sym second) (behind_mark s from (k + 1) (without_first left) later more); going = rw assoc at (and_on on g) }

-- a line is passed with the LF that ends it, or with CR LF
module _ {s : Bytes} {l : List ℕ} {at : ℕ} {p : Behind} (size : length l ≡ walk_numbers) (there : at < length s) where
  pub feed_passed : get_or s at 0 ≡ 10 → Going s l at p (noted l p.feeds p.start (at - p.start)) (at + 1) (behind_one_passed p at 1)
  feed_passed e = record {
    onward = λ set h. let (z, w) = line_feed set s at there e in a_break_passed set s l at p h size 1 there z w (λ q. omega arith);
    forward = omega arith;
  }

  pub return_passed : get_or s at 0 ≡ 13 → get_or s (at + 1) 0 ≡ 10 → Going s l at p (noted l p.feeds p.start (at - p.start)) (at + 2) (behind_one_passed p at 2)
  return_passed e f = record {
    onward = λ set h. let (fits, (z, w)) = carriage_return set s at there (rw (e, get_or-drop at s 1 0, f) refl) in a_break_passed set s l at p h size 2 there z w (λ q. omega arith);
    forward = omega arith;
  }

-- sixteen bytes after sixteen: the walk stands before those whose marks are kept, and all before it are passed
pub record On (s : Bytes) (l : List ℕ) (at : ℕ) (p : Behind) (l' : List ℕ) (from keep : ℕ) (p' : Behind) : Type 0 where
  pub skip : ℕ
  pub keeps : keep ≡ 0xFFFF * 2 ^ skip
  pub few : skip < 16
  pub whole : 0 < skip → from + 16 ≤ length s
  pub going : Going s l at p l' (from + skip) p'

-- and on by so many sixteens
pub record Onward (s : Bytes) (l : List ℕ) (from keep : ℕ) (p : Behind) (l' : List ℕ) (from' keep' : ℕ) (p' : Behind) : Type 0 where
  pub sixteens : ℕ
  pub place : from' ≡ from + 16 * sixteens
  pub on : (l₀ : List ℕ) (at : ℕ) (p₀ : Behind) → On s l₀ at p₀ l from keep p → On s l₀ at p₀ l' from' keep' p'

-- a whole sixteen, nothing of which is behind the walk
pub afresh : {s : Bytes} {l l' : List ℕ} {at from : ℕ} {p p' : Behind} → Going s l at p l' from p' → On s l at p l' from 0xFFFF p'
afresh {from = from} g = record { skip = 0; keeps = refl; few = omega arith; whole = λ h. absurd (omega arith); going = rw (add-zero from) g }

module _ {s : Bytes} {l₀ l : List ℕ} {at from keep : ℕ} {p₀ p : Behind} (o : On s l₀ at p₀ l from keep p) where
  -- the marks that are kept are those of the bytes before it
  pub among_kept : from + 16 ≤ length s → (m : ℕ) → m ≡ marks_of (take 16 (drop from s)) → Among s from o.skip (bit_and m keep)
  among_kept fits m e =
      let size = length-take-le 16 (drop from s) (omega (arith, length-drop from s)) in
      record { whole = fits; few = omega (arith, o.few); marks = ap₂ bit_and e o.keeps ∙ kept o.skip (take 16 (drop from s)) size }

  -- near the end of the bytes all before `from` are passed
  pub all_before : length s < from + 16 → Going s l₀ at p₀ l from p
  all_before h = by_skip o.skip refl
    where
      by_skip : (k : ℕ) → o.skip ≡ k → Going s l₀ at p₀ l from p
      by_skip zero e = rw (e, add-zero from) at o.going
      by_skip (suc k) e = absurd (omega (arith, o.whole (omega arith)))

  -- there the last sixteen are asked, of which some are behind
  pub the_last : (last : ℕ) → last + 16 ≡ length s → last < from → from < length s → On s l₀ at p₀ l last (0xFFFF * 2 ^ (from - last)) p
  the_last last e h k =
      let place : last + (from - last) ≡ from = omega arith in
      record { skip = from - last; keeps = refl; few = omega arith; whole = λ some. omega arith; going = rw place (all_before (omega arith)) }

  -- through the sixteen: on to a mark that is left, or past them
  module _ {l' : List ℕ} {r : Ahead} (t : Through s l from o.skip p l' r) where
    pub on_to_mark : {k : ℕ} → 0 < r.left → k ≡ count_trailing_zeros 32 r.left → Going s l₀ at p₀ l' (from + k) r.passed
    on_to_mark some first = and_on o.going (and_on t.going (rw first (to_mark s from t.behind r.left t.among some l' r.passed)))

    pub past : r.left ≡ 0 → On s l₀ at p₀ l' (from + 16) 0xFFFF r.passed
    past e = afresh (and_on o.going (and_on t.going (all_passed s from t.behind r.left t.among e l' r.passed)))
