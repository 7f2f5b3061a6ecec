-- The four steps change what they name and nothing else. Assumes nothing.
use Prim.Native.Nat.{ℕ, suc}
use mathlib.Core.Bool.{Bool, true, false, true≢false, false≢true, cond, ◌&&◌, and-eq-true_iff, and-false}
use mathlib.Core.List.{[], ◌∷◌}
use mathlib.Core.Path.{◌≡◌, refl, sym, ap, ◌∙◌}
use lib.Dec.{eqb, leb}
use lib.ListN.{drop}
use borrow.Author.Tests.{leb-true}
use Rattle.sieve.specs.Bytes.{Bytes, every}
use Rattle.sieve.specs.Lines.{begins_lf}
use Rattle.mender.specs.Steps.{is_lf, spaceless, as_lf, padding, unpadded, unspaced, shortened, reworked}
use Rattle.mender.specs.Sweeping.{swept}
use Rattle.mender.specs.Promised.{LineEnds, at_end, at_break, after_space, Like, end, lf, cr_lf, cr, stays, at_line_end, within_line, last_lines, loose, firm_bytes}
use Rattle.mender.proofs.Bytewise.{Opening, lone_lf, cr_lf as head-pair, lone_cr, space, firm, opening_of}
use Rattle.mender.proofs.Sweeps.{swept_feed, swept_other, swept_taken, swept_space}

-- steps 1 to 3, byte by byte

abbrev rest : ℕ → Bytes → Bytes
rest i s = swept i (as_lf s)

pair_is : (s : Bytes) → as_lf (13 ∷ 10 ∷ s) ≡ as_lf (10 ∷ s)
unfolding as_lf
pair_is s = refl

space_is : (s : Bytes) → as_lf (32 ∷ s) ≡ 32 ∷ as_lf s
unfolding as_lf
space_is s = refl

firm_is : (x : ℕ) (s : Bytes) → eqb x 13 ≡ false → as_lf (x ∷ s) ≡ x ∷ as_lf s
unfolding as_lf
firm_is x s h = rw h

feed_is : (s : Bytes) → as_lf (10 ∷ s) ≡ 10 ∷ as_lf s
unfolding as_lf
feed_is s = refl

lone_is : (s : Bytes) → begins_lf s ≡ false → as_lf (13 ∷ s) ≡ 10 ∷ as_lf s
unfolding as_lf
lone_is s h = rw h

module _ (i : ℕ) where
  at_feed : (s : Bytes) → rest i (10 ∷ s) ≡ 10 ∷ rest (suc i) s
  at_feed s = ap (swept i) (feed_is s) ∙ swept_feed i (as_lf s)

  at_pair : (s : Bytes) → rest i (13 ∷ 10 ∷ s) ≡ 10 ∷ rest (suc i) s
  at_pair s = ap (swept i) (pair_is s) ∙ at_feed s

  at_lone : (s : Bytes) → begins_lf s ≡ false → rest i (13 ∷ s) ≡ 10 ∷ rest (suc i) s
  at_lone s h = ap (swept i) (lone_is s h) ∙ swept_feed i (as_lf s)

  at_firm : (x : ℕ) (s : Bytes) → eqb x 10 ≡ false → eqb x 13 ≡ false → eqb x 32 ≡ false → rest i (x ∷ s) ≡ x ∷ rest i s
  at_firm x s l c p = ap (swept i) (firm_is x s c) ∙ swept_other i x (as_lf s) l p

-- a space goes because its line ends, or because it stands within line 4 or line 29; or it stays
data Space (i : ℕ) (s : Bytes) : Type 0 where
  ends : padding (as_lf s) ≡ true → rest i (32 ∷ s) ≡ rest i s → Space i s
  within : spaceless i ≡ true → rest i (32 ∷ s) ≡ rest i s → Space i s
  left : rest i (32 ∷ s) ≡ 32 ∷ rest i s → Space i s

space_of : (i : ℕ) (s : Bytes) → Space i s
space_of i s = by_cases (spaceless i) refl
  where
    outside : (b : Bool) → padding (as_lf s) ≡ b → rest i (32 ∷ s) ≡ cond b (rest i s) (32 ∷ rest i s) → Space i s
    outside true e h = ends e h
    outside false e h = left h

    by_cases : (b : Bool) → spaceless i ≡ b → Space i s
    by_cases true e = within e (ap (swept i) (space_is s) ∙ swept_taken i (as_lf s) e)
    by_cases false e = outside (padding (as_lf s)) refl (ap (swept i) (space_is s) ∙ swept_space i (as_lf s) e)

-- a payload of which LF alone is left has only breaks and spaces
abbrev Loose : ℕ → Bytes → Type 0
Loose i s = every is_lf (rest i s) ≡ true → every loose s ≡ true

loose_space : (i : ℕ) (s : Bytes) → Space i s → Loose i s → Loose i (32 ∷ s)
loose_space i s (ends p e) ih h = ih (rw e at h)
loose_space i s (within p e) ih h = ih (rw e at h)
loose_space i s (left e) ih h = absurd (false≢true (rw e at h))

loose_head : (i : ℕ) {x : ℕ} {s : Bytes} → Opening x s → ((j : ℕ) → Loose j s) → Loose i (x ∷ s)
loose_head i {s = s} lone_lf ih h = ih (suc i) (rw (at_feed i s) at h)
loose_head i (head-pair {s}) ih h = ih i (rw (pair_is s) at h)
loose_head i {s = s} (lone_cr e) ih h = ih (suc i) (rw (at_lone i s e) at h)
loose_head i {s = s} space ih h = loose_space i s (space_of i s) (ih i) h
loose_head i {x} {s} (firm l c p) ih h = absurd (false≢true (rw (at_firm i x s l c p, l) at h))

only_loose : (i : ℕ) (s : Bytes) → Loose i s
only_loose i [] h = refl
only_loose i (x ∷ s) h = loose_head i (opening_of x s) (λ j. only_loose j s) h

-- spaces that end a line after step 1 ended it before
ends_line : {x : ℕ} {s : Bytes} → Opening x s → (padding (as_lf s) ≡ true → LineEnds s) → padding (as_lf (x ∷ s)) ≡ true → LineEnds (x ∷ s)
unfolding padding
ends_line lone_lf ih h = at_break refl
ends_line head-pair ih h = at_break refl
ends_line (lone_cr e) ih h = at_break refl
ends_line {s = s} space ih h = after_space (ih (rw (space_is s) at h))
ends_line {x} {s} (firm l c p) ih h = absurd (true≢false (sym (rw (firm_is x s c, p) at h) ∙ l))

line_ends_lem : (s : Bytes) → padding (as_lf s) ≡ true → LineEnds s
line_ends_lem [] h = at_end
line_ends_lem (x ∷ s) h = ends_line (opening_of x s) (line_ends_lem s) h

-- all four steps

abbrev made : ℕ → Bytes → Bytes
made i s = shortened i (rest i s)

-- a break, and what follows it, goes or stays
like_break : (i : ℕ) (w s : Bytes) → rest i w ≡ 10 ∷ rest (suc i) s → Like i w (10 ∷ made (suc i) s) → Like i w (made i w)
unfolding shortened
like_break i w s e k = rw e (by_cases (leb 31 i && every is_lf (rest (suc i) s)) refl)
  where
    by_cases : (b : Bool) → leb 31 i && every is_lf (rest (suc i) s) ≡ b → Like i w (cond b [] (10 ∷ made (suc i) s))
    by_cases true h = let (a, c) = (and-eq-true_iff _ _).0 h in last_lines (leb-true 31 i a) (only_loose i w (rw e c))
    by_cases false h = k

-- any other byte that is left
like_left : (i x : ℕ) (w s : Bytes) → eqb x 10 ≡ false → rest i w ≡ x ∷ rest i s → Like i w (x ∷ made i s) → Like i w (made i w)
unfolding shortened
like_left i x w s l e k = rw (e, l, and-false) k

like_space : (i : ℕ) (s : Bytes) → Space i s → Like i s (made i s) → Like i (32 ∷ s) (made i (32 ∷ s))
like_space i s (ends p e) ih = rw e (at_line_end (line_ends_lem s p) ih)
like_space i s (within p e) ih = rw e (within_line p ih)
like_space i s (left e) ih = like_left i 32 (32 ∷ s) s refl e (stays refl ih)

-- the bytes, and those behind the first
pub record AndBehind (s : Bytes) : Type 0 where
  pub all : (i : ℕ) → Like i s (made i s)
  pub behind : (i : ℕ) → Like i (drop 1 s) (made i (drop 1 s))

like_head : (i : ℕ) {x : ℕ} {s : Bytes} → Opening x s → AndBehind s → Like i (x ∷ s) (made i (x ∷ s))
like_head i {s = s} lone_lf ih = like_break i (10 ∷ s) s (at_feed i s) (lf (ih.all (suc i)))
like_head i (head-pair {s}) ih = like_break i (13 ∷ 10 ∷ s) s (at_pair i s) (cr_lf (ih.behind (suc i)))
like_head i {s = s} (lone_cr e) ih = like_break i (13 ∷ s) s (at_lone i s e) (cr e (ih.all (suc i)))
like_head i {s = s} space ih = like_space i s (space_of i s) (ih.all i)
like_head i {x} {s} (firm l c p) ih = like_left i x (x ∷ s) s l (at_firm i x s l c p) (stays (rw (l, c)) (ih.all i))

both : (s : Bytes) → AndBehind s
unfolding as_lf swept unpadded unspaced shortened
both [] = record { all = λ i. end; behind = λ i. end }
both (x ∷ s) = let b = both s in record { all = λ i. like_head i (opening_of x s) b; behind = b.all }

-- what the steps make of a payload is like it
pub reworked_like : (p : Bytes) → Like 1 p (reworked p)
unfolding swept
reworked_like p = (both p).all 1

-- no other byte differs

none_firm : (s : Bytes) → every loose s ≡ true → firm_bytes s ≡ []
unfolding firm_bytes
none_firm [] h = refl
none_firm (x ∷ s) h = let (a, b) = (and-eq-true_iff (loose x) (every loose s)).0 h in rw a (none_firm s b)

pub same_firm : {i : ℕ} {s t : Bytes} → Like i s t → firm_bytes s ≡ firm_bytes t
unfolding firm_bytes
same_firm end = refl
same_firm (lf r) = same_firm r
same_firm (cr_lf r) = same_firm r
same_firm (cr e r) = same_firm r
same_firm (stays {x = x} {s = s} {t = t} o r) = by_cases (loose x) (same_firm r)
  where
    by_cases : (b : Bool) → firm_bytes s ≡ firm_bytes t → cond b (firm_bytes s) (x ∷ firm_bytes s) ≡ cond b (firm_bytes t) (x ∷ firm_bytes t)
    by_cases true ih = ih
    by_cases false ih = ap (λ (r : Bytes). x ∷ r) ih
same_firm (at_line_end e r) = same_firm r
same_firm (within_line e r) = same_firm r
same_firm (last_lines {s = s} h e) = none_firm s e
