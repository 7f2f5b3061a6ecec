-- The walk over characters and breaks, a step at a time: where it goes on, and the LF bytes behind it. Assumes nothing.
use Prim.Native.Nat.{ℕ, zero, suc, ◌+◌, ◌≤◌, ◌<◌}
use native.Mathlib.Omega.{arith}
use mathlib.Core.List.{List, [], ◌++◌, append-nil}
use mathlib.Core.Logic.{◌≢◌}
use mathlib.Core.Path.{◌≡◌, refl, ap, ◌∙◌}
use lib.ListN.{length, take, drop, length-take, length-drop, take-append-drop, drop_of_length-le}
use lib.Seq.{drop-drop, take-add, length-take-le}
use borrow.Author.Tests.{ne_eqb, lt-ltb, le-ltb}
use Rattle.sieve.specs.declared.Charset.{Charset}
use Rattle.sieve.specs.Bytes.{Bytes}
use Rattle.sieve.specs.Characters.{Width, break_width, passes, walk, bad_place, line_feeds}
use Rattle.sieve.specs.Breaks.{Passed, none_passed, one_passed}
use Rattle.sieve.proofs.Widths.{passes_other}
use Rattle.sieve.proofs.Walking.{walk_passed, walk_stops}
use Rattle.sieve.specs.Charsets.{of_set}
use Rattle.walk.specs.declared.Behind.{Behind}
use Rattle.walk.specs.Here.{Here, Arrived}
use Rattle.sieve.proofs.LineFeeds.{feeds_append, feeds_few}
use Rattle.lines.proofs.Fronts.{Front}

pub character_passes : (w : Width) (t : Bytes) (n : ℕ) → n ≡ w t → n ≢ 0 → passes w t ≡ n
unfolding passes
character_passes w t n e h = rw (← e, ne_eqb n 0 h)

passing : (w : Width) (s : Bytes) (at n : ℕ) → n ≤ length (drop at s) → passes w (drop at s) ≡ n → n ≢ 0 → walk w 0 (drop at s) at ≡ walk w 0 (drop (at + n) s) (at + n)
passing w s at zero h e p = absurd (p refl)
passing w s at (suc n) h e p =
    let t = drop at s in
    let c = take (suc n) t in
    let one : Passed w (drop (suc n) t) (c ++ []) = one_passed c [] n (length-take-le (suc n) t h) (rw (take-append-drop (suc n) t) e) none_passed in
    rw (append-nil, take-append-drop (suc n) t, length-take-le (suc n) t h, drop-drop (suc n) at s) at (walk_passed one at)

module _ {set : Charset} {s : Bytes} {l : List ℕ} {at : ℕ} {passed : Behind} (here : Here set s l at passed) where
  pub few : passed.feeds ≤ at
  few = omega (arith, here.line_feeds, feeds_few (take at s), length-take at s)

  -- a character or a break is passed: n bytes, and f of them are LF
  module _ {n f : ℕ} (front : Front n f (drop at s)) where
    pub goes_on : passes (of_set set) (drop at s) ≡ n → n ≢ 0 → bad_place (of_set set) s ≡ walk (of_set set) 0 (drop (at + n) s) (at + n)
    goes_on e h = here.onward ∙ passing (of_set set) s at n front.there e h

    pub feeds_on : line_feeds (take (at + n) s) ≡ passed.feeds + f
    feeds_on = rw (take-add at n s, feeds_append (take at s) (take n (drop at s)), here.line_feeds, front.feeds)

    pub fits_on : at + n ≤ length s
    fits_on = omega (arith, front.there, here.within, length-drop at s)

  -- nothing passes: the walk stops here
  pub stops_here : at < length s → of_set set (drop at s) ≡ 0 → break_width (drop at s) ≡ 0 → Arrived set s l (record { passed = passed; at = at })
  stops_here h z e = record {
    here = here;
    stopped = here.onward ∙ walk_stops (of_set set) (drop at s) at (λ n. omega (arith, ap length n, length-drop at s)) (passes_other (of_set set) (drop at s) z ∙ e) ∙ rw (lt-ltb at (length s) h);
  }

  -- nothing is left: it stops behind the last byte
  pub ends_here : {stop : ℕ} → length s ≤ at → stop ≡ length s → Arrived set s l (record { passed = passed; at = stop })
  unfolding walk
  ends_here {stop} h e =
      let end : at ≡ stop = omega (arith, here.within) in
      record { here = rw end at here; stopped = here.onward ∙ rw (drop_of_length-le s h, e, le-ltb (length s) (length s) (omega arith)) }
