-- A sweep over a payload, byte by byte: what is known before a byte is known after it. Assumes nothing.
use Prim.Native.Nat.{ℕ, ◌+◌, ◌≤◌}
use native.Mathlib.Numerals.{add-one}
use native.Mathlib.Omega.{arith}
use mathlib.Core.Bool.{true, false, cond}
use mathlib.Core.List.{[], ◌∷◌, append-nil}
use mathlib.Core.Path.{◌≡◌, refl, sym, ap, ◌∙◌}
use lib.Dec.{eqb}
use lib.ListN.{length, take, drop, get_or, drop_of_length-le}
use lib.Seq.{drop-cons, length-take-le}
use Rattle.sieve.specs.Bytes.{Bytes}
use Rattle.sieve.specs.Characters.{line_feeds}
use Rattle.mender.specs.declared.Reach.{Reach}
use Rattle.mender.specs.declared.Tally.{Tally}
use Rattle.mender.specs.Steps.{as_lf, despaced, how_many}
use Rattle.mender.specs.Sweeping.{Carries, swept, Farther, SweptTo, CanPass, IsSwept}
use Rattle.mender.proofs.Counted.{despaced_fewer}
use Rattle.mender.proofs.Sweeps.{swept_none, pending_end, pending_none}

pub first_byte : (p room : Bytes) → SweptTo p 0 (record { reach = record { at = 0; solid = 0; line = 1 }; breaks = 0; pairs = 0 }) room
unfolding swept line_feeds
first_byte p room =
    record {
      inside = omega arith;
      few = omega arith;
      few_lines = omega arith;
      few_breaks = omega arith;
      few_pairs = omega arith;
      so_far = record { ordered = omega arith; spaces = refl; whole = sym (pending_none (swept 1 (as_lf p))); lines = refl };
      crs = omega arith;
      lengths = refl;
    }

module _ (p : Bytes) (i : ℕ) (t : Tally) (room : Bytes) (can : CanPass p i t room) where
  -- the byte that is passed, and the bytes behind it
  abbrev x : ℕ
  x = get_or p i 0

  abbrev behind : Bytes
  behind = drop (i + 1) p

  here : drop i p ≡ x ∷ behind
  here = rw add-one (drop-cons p i 0 can.more)

  crs_after : how_many 13 (drop i p) ≡ cond (eqb x 13) 1 0 + how_many 13 behind
  unfolding how_many
  crs_after = rw here

  -- step 1 gives the byte y, which is put
  module _ (y : ℕ) {r : Reach} {after : Bytes} (step : as_lf (drop i p) ≡ y ∷ as_lf behind) (moved : Farther t.reach r) (kept : Carries y t.reach room r after) where
    puts : (breaks : ℕ) → breaks ≡ t.breaks + cond (eqb x 13) 1 0 → breaks ≤ t.breaks + 1 → SweptTo p (i + 1) (record { reach = r; breaks = breaks; pairs = t.pairs }) after
    puts breaks is few =
        let passed = can.passed in
        record {
          inside = omega (arith, can.more);
          few = omega (arith, moved.byte, passed.few);
          few_lines = omega (arith, moved.line, passed.few_lines);
          few_breaks = omega (arith, passed.few_breaks);
          few_pairs = omega (arith, passed.few_pairs);
          so_far = kept (despaced p) (as_lf behind) (rw step at passed.so_far);
          crs = omega (arith, passed.crs, crs_after);
          lengths = omega (arith, passed.lengths, ap length step);
        }

  -- any other byte than CR
  pub after_byte : eqb x 13 ≡ false → {r : Reach} {after : Bytes} → Farther t.reach r → Carries x t.reach room r after
      → SweptTo p (i + 1) (record { reach = r; breaks = t.breaks; pairs = t.pairs }) after
  unfolding as_lf
  after_byte is moved kept =
      let none : ◌≡◌ {A = ℕ} (cond (eqb x 13) 1 0) 0 = rw is in
      puts x (rw (here, is)) moved kept t.breaks (omega (arith, none)) (omega arith)

  module _ (is : eqb x 13 ≡ true) where
    one : ◌≡◌ {A = ℕ} (cond (eqb x 13) 1 0) 1
    one = rw is

    -- a CR that no LF follows
    pub after_lone : eqb (get_or (drop i p) 1 0) 10 ≡ false → {r : Reach} {after : Bytes} → Farther t.reach r
        → Carries 10 t.reach room r after → SweptTo p (i + 1) (record { reach = r; breaks = t.breaks + 1; pairs = t.pairs }) after
    unfolding as_lf
    after_lone alone moved kept = puts 10 (rw (here, is, rw here at alone)) moved kept (t.breaks + 1) (omega (arith, one)) (omega arith)

    -- CR LF: the CR goes
    pub after_pair : eqb (get_or (drop i p) 1 0) 10 ≡ true → SweptTo p (i + 1) (record { reach = t.reach; breaks = t.breaks + 1; pairs = t.pairs + 1 }) room
    unfolding as_lf
    after_pair followed =
        let passed = can.passed in
        let step : as_lf (drop i p) ≡ as_lf behind = rw (here, is, rw here at followed) in
        record {
          inside = omega (arith, can.more);
          few = omega (arith, passed.few);
          few_lines = omega (arith, passed.few_lines);
          few_breaks = omega (arith, passed.few_breaks);
          few_pairs = omega (arith, passed.few_pairs);
          so_far = rw step at passed.so_far;
          crs = omega (arith, passed.crs, crs_after, one);
          lengths = omega (arith, passed.lengths, ap length step);
        }

-- after the last byte
pub after_last : {p room : Bytes} {i : ℕ} {t : Tally} → SweptTo p i t room → length p ≤ i → length p ≤ length room
    → IsSwept p (record { bytes = t.reach.solid; lines = t.reach.line; breaks = t.breaks; pairs = t.pairs }) room
unfolding as_lf how_many
after_last {p} {room} {i} {t} passed h fits =
    let none : drop i p ≡ [] = drop_of_length-le p h in
    let whole : despaced p ≡ take t.reach.solid room = rw (none, swept_none, pending_end, append-nil) at passed.so_far.whole in
    let size : t.reach.solid ≡ length (despaced p) = sym (ap length whole ∙ length-take-le t.reach.solid room (omega (arith, passed.few, passed.so_far.ordered, passed.inside))) in
    record {
      bytes = sym whole;
      size = size;
      lines = rw whole passed.so_far.lines;
      breaks = omega (arith, rw none at passed.crs);
      pairs = omega (arith, rw none at passed.lengths, passed.inside);
      fits = omega (arith, size, despaced_fewer p);
    }
