-- The first line of any bytes: what can come after it, and where it ends, byte by byte. Assumes nothing.
use Prim.Native.Nat.{ℕ, suc, ◌+◌, ◌≤◌, ◌<◌}
use native.Mathlib.Omega.{arith}
use mathlib.Core.Bool.{Bool, true, false, true≢false, cond, ◌&&◌, ◌||◌}
use mathlib.Core.List.{[], ◌∷◌, ◌++◌}
use mathlib.Core.Logic.{◌≢◌}
use mathlib.Core.Path.{◌≡◌, refl}
use lib.Dec.{eqb}
use lib.ListN.{length, get_or, take, drop, drop_of_length-le}
use lib.Seq.{take-length, take-append_seam}
use Rattle.sieve.specs.declared.Break.{Break}
use Rattle.sieve.specs.declared.Break.TheVariants.{Lf, CrLf}
use Rattle.sieve.specs.Bytes.{Bytes}
use Rattle.sieve.specs.Lines.{break_bytes, cut}
use Rattle.sieve.specs.Characters.{break_width}
use Rattle.sieve.proofs.Heads.{Head, lf, crlf, other, head}
use Rattle.sieve.specs.Lines.{of_break}
use Rattle.runs.proofs.ByteByByte.{next}

-- a line with nothing after it; or a line, a break, and the bytes after that
pub data FirstLine : Bytes → Type 0 where
  only : (l : Bytes) → cut l ≡ record { first = l; rest = [] } → FirstLine l
  followed : (l : Bytes) (k : Break) (r : Bytes) → cut (l ++ (break_bytes k ++ r)) ≡ record { first = l; rest = record { break = k; line = (cut r).first } ∷ (cut r).rest } → FirstLine (l ++ (break_bytes k ++ r))

pub first_line : (s : Bytes) → FirstLine s
unfolding cut
first_line [] = only [] refl
first_line (x ∷ s) = by_cases (head x s) (first_line s)
  where
    by_cases : {x : ℕ} {s : Bytes} → Head x s → FirstLine s → FirstLine (x ∷ s)
    by_cases (lf {s}) f = followed [] Lf s refl
    by_cases (crlf {s}) f = followed [] CrLf s refl
    by_cases {x} (other e f) (only l h) = only (x ∷ l) (rw (e, f, h))
    by_cases {x} (other e f) (followed l k r h) = followed (x ∷ l) k r (rw (e, f, h))

-- the line is the front of the bytes
pub first_in_front : {s : Bytes} → FirstLine s → take (length (cut s).first) s ≡ (cut s).first
first_in_front (only l h) = rw h (take-length l)
first_in_front (followed l k r h) = rw h (take-append_seam l (break_bytes k ++ r))

-- byte by byte: one that begins no break is of the line, and a break ends it

one_longer : {x : ℕ} {s : Bytes} → Head x s → break_width (x ∷ s) ≡ 0 → length (cut (x ∷ s)).first ≡ suc (length (cut s).first)
unfolding cut break_width
one_longer lf h = absurd (omega arith)
one_longer crlf h = absurd (omega arith)
one_longer (other e f) h = rw (e, f)

stop : {x : ℕ} {s : Bytes} → Head x s → break_width (x ∷ s) ≢ 0 → length (cut (x ∷ s)).first ≡ 0
unfolding cut break_width
stop lf h = refl
stop crlf h = refl
stop (other e f) h = absurd (h (rw (e, f)))

module _ (s : Bytes) (at : ℕ) where
  pub no_break : at < length s → of_break (get_or s at 0) ≡ false → break_width (drop at s) ≡ 0
  unfolding break_width
  no_break h e = rw (next s at h) (neither (eqb (get_or s at 0) 10) (eqb (get_or s at 0) 13) _ e)
    where
      neither : (a b c : Bool) → (a || b) ≡ false → ◌≡◌ {A = ℕ} (cond a 1 (cond (b && c) 2 0)) 0
      neither true b c e = absurd (true≢false e)
      neither false true c e = absurd (true≢false e)
      neither false false c e = refl

  pub goes_on : at < length s → break_width (drop at s) ≡ 0 → length (cut (drop at s)).first ≡ suc (length (cut (drop (at + 1) s)).first)
  goes_on h e = rw (next s at h) (one_longer (head _ _) (rw (next s at h) at e))

  pub stops : at < length s → break_width (drop at s) ≢ 0 → length (cut (drop at s)).first ≡ 0
  stops h e = rw (next s at h) (stop (head _ _) (rw (next s at h) at e))

  pub ends : length s ≤ at → (length (cut (drop at s)).first ≡ 0) × (break_width (drop at s) ≡ 0)
  unfolding cut break_width
  ends h = (rw (drop_of_length-le s h), rw (drop_of_length-le s h))
