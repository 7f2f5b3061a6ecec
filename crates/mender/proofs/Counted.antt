-- The counts say exactly what went: lengths, spaces and breaks add up, step by step. Assumes nothing.
use Prim.Native.Nat.{ℕ, ◌+◌, ◌≤◌}
use native.Mathlib.Omega.{arith}
use mathlib.Core.Bool.{Bool, true, false, cond, ◌&&◌, and-eq-true_iff}
use mathlib.Core.List.{[], ◌∷◌}
use mathlib.Core.Path.{◌≡◌, refl}
use lib.Dec.{eqb, leb}
use lib.ListN.{length}
use borrow.Author.Tests.{eqb-true}
use Rattle.sieve.specs.Bytes.{Bytes, every}
use Rattle.sieve.specs.Characters.{line_feeds}
use Rattle.sieve.specs.Lines.{begins_lf}
use Rattle.sieve.proofs.Bounds.{case_at_most}
use Rattle.mender.specs.Steps.{is_lf, without_space, line_after, spaceless, as_lf, padding, unpadded, unspaced, shortened, despaced, reworked, how_many, cr_lfs}
use Rattle.mender.specs.Mending.{repairs_of}
use Rattle.mender.specs.Promised.{AddsUp}
use Rattle.mender.proofs.Bytewise.{Sort, feed, blank, other, sort_of, Opening, lone_lf, cr_lf, lone_cr, space, firm, opening_of}

pub few_of : (x : ℕ) (s : Bytes) → how_many x s ≤ length s
unfolding how_many
few_of x [] = omega arith
few_of x (y ∷ s) = omega (arith, few_of x s, case_at_most 1 (eqb y x) {x = 1} {y = 0} (λ e. omega arith) (omega arith))

-- step 1 takes a byte of each CR LF, and no space
record Fed (p q : Bytes) : Type 0 where
  pub lengths : length q + cr_lfs p ≡ length p
  pub spaces : how_many 32 q ≡ how_many 32 p
  pub breaks : line_feeds q + cr_lfs p ≡ line_feeds p + how_many 13 p

fed_head : {x : ℕ} {s : Bytes} → Opening x s → Fed s (as_lf s) → Fed (x ∷ s) (as_lf (x ∷ s))
unfolding as_lf cr_lfs how_many line_feeds
fed_head lone_lf h = record { lengths = omega (arith, h.lengths); spaces = omega (arith, h.spaces); breaks = omega (arith, h.breaks) }
fed_head cr_lf h = record { lengths = omega (arith, h.lengths); spaces = omega (arith, h.spaces); breaks = omega (arith, h.breaks) }
fed_head {s = s} (lone_cr e) h =
    let alone : ◌≡◌ {A = ℕ} (cond (eqb 13 13 && begins_lf s) 1 0) 0 = rw e in
    simp e (record { lengths = omega (arith, h.lengths, alone); spaces = omega (arith, h.spaces); breaks = omega (arith, h.breaks, alone) })
fed_head space h = record { lengths = omega (arith, h.lengths); spaces = omega (arith, h.spaces); breaks = omega (arith, h.breaks) }
fed_head {x} {s} (firm l c p) h =
    let lone : ◌≡◌ {A = ℕ} (cond (eqb x 13 && begins_lf s) 1 0) 0 = rw c in
    let no-cr : ◌≡◌ {A = ℕ} (cond (eqb x 13) 1 0) 0 = rw c in
    simp c (record { lengths = omega (arith, h.lengths, lone); spaces = omega (arith, h.spaces); breaks = omega (arith, h.breaks, lone, no-cr) })

fed : (p : Bytes) → Fed p (as_lf p)
unfolding as_lf cr_lfs how_many line_feeds
fed [] = record { lengths = refl; spaces = refl; breaks = refl }
fed (x ∷ s) = fed_head (opening_of x s) (fed s)

-- a byte that goes by steps 2 and 3 is a space
record Fewer (q t : Bytes) : Type 0 where
  pub shorter : length t ≤ length q
  pub spaces : length q + how_many 32 t ≡ length t + how_many 32 q
  pub breaks : line_feeds t ≡ line_feeds q

space_fewer : (g : Bool) {x : ℕ} {t q : Bytes} → Sort x → Fewer q t → Fewer (x ∷ q) (without_space g x t)
unfolding how_many line_feeds
space_fewer g feed h = record { shorter = omega (arith, h.shorter); spaces = omega (arith, h.spaces); breaks = omega (arith, h.breaks) }
space_fewer true blank h = record { shorter = omega (arith, h.shorter); spaces = omega (arith, h.spaces); breaks = omega (arith, h.breaks) }
space_fewer false blank h = record { shorter = omega (arith, h.shorter); spaces = omega (arith, h.spaces); breaks = omega (arith, h.breaks) }
space_fewer g (other l s) h = simp s (record { shorter = omega (arith, h.shorter); spaces = omega (arith, h.spaces); breaks = omega (arith, h.breaks) })

unpadded_fewer : (q : Bytes) → Fewer q (unpadded q)
unfolding unpadded how_many line_feeds
unpadded_fewer [] = record { shorter = omega arith; spaces = refl; breaks = refl }
unpadded_fewer (x ∷ q) = space_fewer (padding q) (sort_of x) (unpadded_fewer q)

unspaced_fewer : (i : ℕ) (q : Bytes) → Fewer q (unspaced i q)
unfolding unspaced how_many line_feeds
unspaced_fewer i [] = record { shorter = omega arith; spaces = refl; breaks = refl }
unspaced_fewer i (x ∷ q) = space_fewer (spaceless i) (sort_of x) (unspaced_fewer (line_after i x) q)

pub despaced_fewer : (p : Bytes) → length (despaced p) ≤ length (as_lf p)
despaced_fewer p = omega (arith, (unpadded_fewer (as_lf p)).shorter, (unspaced_fewer 1 (unpadded (as_lf p))).shorter)

-- a byte that goes by step 4 is an LF
record Cropped (q t : Bytes) : Type 0 where
  pub shorter : length t ≤ length q
  pub breaks : length q + line_feeds t ≡ length t + line_feeds q
  pub spaces : how_many 32 t ≡ how_many 32 q

all_cropped : (s : Bytes) → every is_lf s ≡ true → Cropped s []
unfolding line_feeds how_many
all_cropped [] h = record { shorter = omega arith; breaks = refl; spaces = refl }
all_cropped (x ∷ s) h =
    let (a, b) = (and-eq-true_iff (is_lf x) (every is_lf s)).0 h in
    let c = all_cropped s b in
    rw (eqb-true x 10 a) (record { shorter = omega arith; breaks = omega (arith, c.breaks); spaces = omega (arith, c.spaces) })

shortened_cropped : (i : ℕ) (q : Bytes) → Cropped q (shortened i q)
unfolding shortened line_feeds how_many
shortened_cropped i [] = record { shorter = omega arith; breaks = refl; spaces = refl }
shortened_cropped i (x ∷ q) = by_cases (leb 31 i && every is_lf (x ∷ q)) refl (shortened_cropped (line_after i x) q)
  where
    by_cases : (b : Bool) → leb 31 i && every is_lf (x ∷ q) ≡ b → Cropped q (shortened (line_after i x) q) → Cropped (x ∷ q) (cond b [] (x ∷ shortened (line_after i x) q))
    by_cases true e h = all_cropped (x ∷ q) ((and-eq-true_iff (leb 31 i) (every is_lf (x ∷ q))).0 e).1
    by_cases false e h = record { shorter = omega (arith, h.shorter); breaks = omega (arith, h.breaks); spaces = omega (arith, h.spaces) }

pub adds_up : (p : Bytes) → AddsUp p (reworked p) (repairs_of p)
adds_up p =
    let a = fed p in
    let b = unpadded_fewer (as_lf p) in
    let c = unspaced_fewer 1 (unpadded (as_lf p)) in
    let d = shortened_cropped 1 (despaced p) in
    record {
      lengths = omega (arith, a.lengths, b.shorter, c.shorter, d.shorter);
      breaks = refl;
      spaces = omega (arith, a.spaces, b.shorter, c.shorter, b.spaces, c.spaces, d.spaces);
      lines = omega (arith, a.breaks, b.breaks, c.breaks, d.shorter, d.breaks);
    }
