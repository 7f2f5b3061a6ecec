-- One byte more is laid by steps 2 and 3: what held before it holds after it. Assumes nothing.
use Prim.Native.Nat.{ℕ, zero, suc, ◌+◌, ◌-◌, ◌<◌}
use native.Mathlib.Numerals.{add-one}
use native.Mathlib.Omega.{arith}
use mathlib.Core.Bool.{Bool, true, false, cond}
use mathlib.Core.List.{[], ◌∷◌, ◌++◌, append_assoc, append-nil}
use mathlib.Core.Path.{◌≡◌, refl, sym, ap, ◌∙◌}
use lib.Dec.{eqb}
use lib.ListN.{length, take, set, replicate}
use lib.Seq.{take-suc-set, take-set-le, append_snoc}
use Rattle.sieve.specs.Bytes.{Bytes}
use Rattle.sieve.specs.Characters.{line_feeds}
use Rattle.sieve.proofs.LineFeeds.{feeds_append}
use Rattle.mender.specs.declared.Reach.{Reach}
use Rattle.mender.specs.Steps.{spaceless, padding, unpadded, unspaced}
use Rattle.mender.specs.Sweeping.{line_ends, pending, swept, SoFar}
use Rattle.mender.proofs.Bytewise.{Sort, feed, blank, other, sort_of}

-- steps 2 and 3, byte by byte

pub swept_none : (i : ℕ) → swept i [] ≡ []
unfolding swept unpadded unspaced
swept_none i = refl

pub swept_feed : (i : ℕ) (q : Bytes) → swept i (10 ∷ q) ≡ 10 ∷ swept (suc i) q
unfolding swept unpadded unspaced
swept_feed i q = refl

pub swept_other : (i x : ℕ) (q : Bytes) → eqb x 10 ≡ false → eqb x 32 ≡ false → swept i (x ∷ q) ≡ x ∷ swept i q
unfolding swept unpadded unspaced
swept_other i x q l s = simp (s, l)

-- a space in line 4 or line 29 goes, whether or not it ends the line
pub swept_taken : (i : ℕ) (q : Bytes) → spaceless i ≡ true → swept i (32 ∷ q) ≡ swept i q
unfolding swept unpadded unspaced
swept_taken i q h = by_cases (padding q)
  where
    by_cases : (b : Bool) → unspaced i (cond b (unpadded q) (32 ∷ unpadded q)) ≡ unspaced i (unpadded q)
    by_cases true = refl
    by_cases false = rw h

-- a space in another line
pub swept_space : (i : ℕ) (q : Bytes) → spaceless i ≡ false → swept i (32 ∷ q) ≡ cond (padding q) (swept i q) (32 ∷ swept i q)
unfolding swept unpadded unspaced
swept_space i q h = by_cases (padding q)
  where
    by_cases : (b : Bool) → unspaced i (cond b (unpadded q) (32 ∷ unpadded q)) ≡ cond b (unspaced i (unpadded q)) (32 ∷ unspaced i (unpadded q))
    by_cases true = refl
    by_cases false = rw h

-- where spaces alone are left of a line, nothing is laid of it
padding_ends : (i : ℕ) (q : Bytes) → spaceless i ≡ false → padding q ≡ line_ends (swept i q)
unfolding padding
padding_ends i [] h = rw (swept_none i)
padding_ends i (x ∷ q) h = by_cases (sort_of x) (padding_ends i q h)
  where
    spaces : (b : Bool) → padding q ≡ b → padding q ≡ line_ends (swept i q) → padding q ≡ line_ends (cond b (swept i q) (32 ∷ swept i q))
    spaces true e ih = ih
    spaces false e ih = e

    by_cases : {x : ℕ} → Sort x → padding q ≡ line_ends (swept i q) → padding (x ∷ q) ≡ line_ends (swept i (x ∷ q))
    by_cases feed ih = rw (swept_feed i q)
    by_cases blank ih = rw (swept_space i q h) (spaces (padding q) refl ih)
    by_cases {x} (other l s) ih = rw (swept_other i x q l s, s)

pub swept_pending : (i : ℕ) (q : Bytes) → spaceless i ≡ false → swept i (32 ∷ q) ≡ pending 1 (swept i q)
unfolding pending
swept_pending i q h = swept_space i q h ∙ rw (padding_ends i q h)

-- spaces that are pending

pub pending_end : (k : ℕ) → pending k [] ≡ []
unfolding pending
pending_end k = refl

pending_feed : (k : ℕ) (t : Bytes) → pending k (10 ∷ t) ≡ 10 ∷ t
unfolding pending
pending_feed k t = refl

pending_other : (k x : ℕ) (t : Bytes) → eqb x 10 ≡ false → pending k (x ∷ t) ≡ replicate k 32 ++ (x ∷ t)
unfolding pending
pending_other k x t l = rw l

pub pending_none : (t : Bytes) → pending 0 t ≡ t
unfolding pending
pending_none t = by_cases (line_ends t)
  where
    by_cases : (b : Bool) → cond b t t ≡ t
    by_cases true = refl
    by_cases false = refl

abbrev blanks : ℕ → Bytes
blanks k = replicate k 32

one_more : (k : ℕ) → blanks k ++ (32 ∷ []) ≡ blanks (suc k)
one_more zero = refl
one_more (suc k) = ap (λ (r : Bytes). 32 ∷ r) (one_more k)

one_before : (k : ℕ) (t : Bytes) → blanks k ++ (32 ∷ t) ≡ 32 ∷ (blanks k ++ t)
one_before zero t = refl
one_before (suc k) t = ap (λ (r : Bytes). 32 ∷ r) (one_before k t)

pending_more : (k : ℕ) (t : Bytes) → pending k (pending 1 t) ≡ pending (suc k) t
unfolding pending
pending_more k t = by_cases (line_ends t) refl
  where
    by_cases : (b : Bool) → line_ends t ≡ b → pending k (cond b t (32 ∷ t)) ≡ cond b t (blanks (suc k) ++ t)
    by_cases true e = rw e
    by_cases false e = one_before k t

-- how far a sweep has come

-- a byte that is laid behind all others: whatever lies before it stays
laid_last : (all rest room : Bytes) (n x i : ℕ) → n < length room → all ≡ take n room ++ (x ∷ swept i rest) → i ≡ 1 + line_feeds (take n room ++ (x ∷ []))
    → SoFar all rest (record { at = n + 1; solid = n + 1; line = i }) (set room n x)
laid_last all rest room n x i h whole lines =
    let laid : take (n + 1) (set room n x) ≡ take n room ++ (x ∷ []) = rw add-one (take-suc-set room n x h) in
    let none : n + 1 - (n + 1) ≡ 0 = omega arith in
    record {
      ordered = omega arith;
      spaces = rw none (sym (append-nil _));
      whole = rw (none, pending_none, laid) (whole ∙ sym (append_snoc (take n room) x (swept i rest)));
      lines = rw laid lines;
    }

no_feeds : (k : ℕ) → line_feeds (replicate k 32) ≡ 0
unfolding line_feeds
no_feeds zero = refl
no_feeds (suc k) = omega (arith, no_feeds k)

module _ {all rest room : Bytes} {s : Reach} where
  -- a break: spaces before it go
  pub after_feed : SoFar all (10 ∷ rest) s room → s.solid < length room
      → SoFar all rest (record { at = s.solid + 1; solid = s.solid + 1; line = s.line + 1 }) (set room s.solid 10)
  unfolding line_feeds
  after_feed st h =
      let k = s.at - s.solid in
      let whole : all ≡ take s.solid room ++ (10 ∷ swept (suc s.line) rest) =
      st.whole ∙ ap (λ (r : Bytes). take s.solid room ++ r) (ap (pending k) (swept_feed s.line rest) ∙ pending_feed k (swept (suc s.line) rest)) in
      laid_last all rest room s.solid 10 (s.line + 1) h
      (rw (add-one s.line) whole)
      (omega (arith, st.lines, feeds_append (take s.solid room) (10 ∷ [])))

  -- a space within line 4 or line 29
  pub after_taken : spaceless s.line ≡ true → SoFar all (32 ∷ rest) s room → SoFar all rest s room
  after_taken h st = record { ordered = st.ordered; spaces = st.spaces; whole = rw (swept_taken s.line rest h) at st.whole; lines = st.lines }

  -- another space is pending
  pub after_space : spaceless s.line ≡ false → SoFar all (32 ∷ rest) s room → s.at < length room
      → SoFar all rest (record { at = s.at + 1; solid = s.solid; line = s.line }) (set room s.at 32)
  after_space outside st h =
      let k = s.at - s.solid in
      let kept : take s.solid (set room s.at 32) ≡ take s.solid room = take-set-le s.solid room s.at 32 st.ordered in
      let more : s.at + 1 - s.solid ≡ suc k = omega (arith, st.ordered) in
      let laid : take (s.at + 1) (set room s.at 32) ≡ take s.at room ++ (32 ∷ []) = rw add-one (take-suc-set room s.at 32 h) in
      record {
        ordered = omega (arith, st.ordered);
        spaces =
            rw (kept, more)
            (laid
            ∙ ap (λ (r : Bytes). r ++ (32 ∷ [])) st.spaces
            ∙ append_assoc (take s.solid room) (blanks k) (32 ∷ [])
            ∙ ap (λ (r : Bytes). take s.solid room ++ r) (one_more k));
        whole =
            rw (kept, more)
            (st.whole ∙ ap (λ (r : Bytes). take s.solid room ++ r) (ap (pending k) (swept_pending s.line rest outside) ∙ pending_more k (swept s.line rest)));
        lines = rw kept st.lines;
      }

  -- any other byte is laid behind the spaces that were pending
  pub after_other : (x : ℕ) → eqb x 10 ≡ false → eqb x 32 ≡ false → SoFar all (x ∷ rest) s room → s.at < length room
      → SoFar all rest (record { at = s.at + 1; solid = s.at + 1; line = s.line }) (set room s.at x)
  unfolding line_feeds
  after_other x l p st h =
      let k = s.at - s.solid in
      let whole : all ≡ take s.at room ++ (x ∷ swept s.line rest) = rw (swept_other s.line x rest l p, pending_other k x (swept s.line rest) l, ← append_assoc, ← st.spaces) at st.whole in
      let feeds : line_feeds (x ∷ []) ≡ 0 = rw l in
      laid_last all rest room s.at x s.line h whole
      (omega (arith, st.lines, feeds_append (take s.at room) (x ∷ []), ap line_feeds st.spaces, feeds_append (take s.solid room) (replicate k 32), no_feeds k))
