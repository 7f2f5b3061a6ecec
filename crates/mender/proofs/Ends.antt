-- Empty last lines, from the end: each LF goes while there are more than 31 lines. Assumes nothing.
use Prim.Native.Nat.{ℕ, suc, ◌+◌, ◌-◌, ◌≤◌, ◌<◌}
use native.Mathlib.Omega.{arith}
use mathlib.Core.Bool.{Bool, true, false, cond, ◌&&◌, and-true, and-false}
use mathlib.Core.List.{[], ◌∷◌, ◌++◌}
use mathlib.Core.Path.{◌≡◌, refl, sym, ap, ◌∙◌}
use lib.Dec.{eqb, leb}
use lib.ListN.{length, take, get_or}
use lib.Seq.{take-suc, take-length, length-take-le}
use borrow.Author.Tests.{le-leb, lt-leb, ne_eqb}
use Rattle.sieve.specs.Bytes.{Bytes, every}
use Rattle.sieve.specs.Characters.{line_feeds}
use Rattle.sieve.proofs.LineFeeds.{feeds_append, feeds_few}
use Rattle.runs.proofs.Parts.{every_append}
use Rattle.mender.specs.Steps.{is_lf, line_after, shortened}
use Rattle.mender.specs.Sweeping.{IsEnd}
use Rattle.mender.proofs.Bytewise.{Sort, feed, blank, other, sort_of}

-- the line after a byte, and the breaks behind it
line_after_lem : (i x : ℕ) (q : Bytes) → line_after i x + line_feeds q ≡ i + line_feeds (x ∷ q)
unfolding line_feeds
line_after_lem i x q = by_cases (eqb x 10)
  where
    by_cases : (b : Bool) → cond b (suc i) i + line_feeds q ≡ i + (cond b 1 0 + line_feeds q)
    by_cases true = omega arith
    by_cases false = omega arith

-- an LF at the end goes, where line 31 has come
feed_goes : (i : ℕ) (q : Bytes) → 31 ≤ i + line_feeds q → shortened i (q ++ (10 ∷ [])) ≡ shortened i q
unfolding shortened
feed_goes i [] h = rw (le-leb 31 i (omega (arith, feeds_few [])))
feed_goes i (x ∷ q) h =
    let all : every is_lf (x ∷ (q ++ (10 ∷ []))) ≡ every is_lf (x ∷ q) = every_append is_lf (x ∷ q) (10 ∷ []) ∙ and-true _ in
    rw (all, feed_goes (line_after i x) q (omega (arith, line_after_lem i x q)))

-- any other byte at the end keeps all before it
other_keeps : (i : ℕ) (q : Bytes) (y : ℕ) → eqb y 10 ≡ false → shortened i (q ++ (y ∷ [])) ≡ q ++ (y ∷ [])
unfolding shortened
other_keeps i [] y l = rw (l, and-false)
other_keeps i (x ∷ q) y l =
    let all : every is_lf (x ∷ (q ++ (y ∷ []))) ≡ false = every_append is_lf (x ∷ q) (y ∷ []) ∙ rw (l, and-false) in
    rw (all, and-false, other_keeps (line_after i x) q y l)

-- up to line 31 nothing goes
first_stay : (i : ℕ) (q : Bytes) → i + line_feeds q ≤ 31 → shortened i q ≡ q
unfolding shortened line_feeds
first_stay i [] h = refl
first_stay i (x ∷ q) h = rw (stop (sort_of x) h, first_stay (line_after i x) q (omega (arith, line_after_lem i x q)))
  where
    stop : {x : ℕ} → Sort x → i + line_feeds (x ∷ q) ≤ 31 → leb 31 i && every is_lf (x ∷ q) ≡ false
    stop feed h = rw (lt-leb 31 i (omega arith))
    stop blank h = and-false (leb 31 i)
    stop (other l s) h = rw (l, and-false)

-- while the end is looked for
pub record EndSoFar (bytes : Bytes) (end left : ℕ) : Type 0 where
  pub inside : end ≤ length bytes
  pub lines : left ≡ 1 + line_feeds (take end bytes)
  pub same : shortened 1 (take end bytes) ≡ shortened 1 bytes

module _ (bytes : Bytes) where
  pub at_the_end : {lines : ℕ} → lines ≡ 1 + line_feeds bytes → EndSoFar bytes (length bytes) lines
  at_the_end e = record { inside = omega arith; lines = rw take-length e; same = rw take-length }

  module _ {end left : ℕ} (e : EndSoFar bytes end left) where
    ends_here : shortened 1 (take end bytes) ≡ take end bytes → IsEnd bytes end
    ends_here s =
        let here : take end bytes ≡ shortened 1 bytes = sym s ∙ e.same in
        record { bytes = here; size = rw (← here) (sym (length-take-le end bytes e.inside)); inside = e.inside }

    -- there are no more lines than 31
    pub few_lines : left ≤ 31 → IsEnd bytes end
    few_lines h = ends_here (first_stay 1 (take end bytes) (omega (arith, e.lines)))

    -- with more lines than one there are bytes
    pub more_bytes : 1 < left → 1 ≤ end
    more_bytes h = omega (arith, e.lines, feeds_few (take end bytes), length-take-le end bytes e.inside)

    -- the last byte is parted from those before it
    last_byte : 1 < left → take end bytes ≡ take (end - 1) bytes ++ (get_or bytes (end - 1) 0 ∷ [])
    last_byte h =
        let n : end ≡ suc (end - 1) = omega (arith, more_bytes h) in
        ap (λ (n : ℕ). take n bytes) n ∙ take-suc bytes (end - 1) 0 (omega (arith, more_bytes h, e.inside))

    -- it is no LF
    pub other_last : 1 < left → (get_or bytes (end - 1) 0 ≡ 10 → ⊥) → IsEnd bytes end
    other_last h no-feed =
        ends_here (ap (shortened 1) (last_byte h) ∙ other_keeps 1 (take (end - 1) bytes) (get_or bytes (end - 1) 0) (ne_eqb _ _ no-feed) ∙ sym (last_byte h))

    -- it is an LF: a line goes
    pub feed_last : 31 < left → get_or bytes (end - 1) 0 ≡ 10 → EndSoFar bytes (end - 1) (left - 1)
    unfolding line_feeds
    feed_last h is =
        let parted : take end bytes ≡ take (end - 1) bytes ++ (10 ∷ []) = rw is at (last_byte (omega (arith, h))) in
        let feeds : line_feeds (take end bytes) ≡ line_feeds (take (end - 1) bytes) + 1 = ap line_feeds parted ∙ feeds_append (take (end - 1) bytes) (10 ∷ []) in
        record {
          inside = omega (arith, e.inside);
          lines = omega (arith, e.lines, feeds);
          same = sym (feed_goes 1 (take (end - 1) bytes) (omega (arith, e.lines, feeds))) ∙ ap (shortened 1) (sym parted) ∙ e.same;
        }
