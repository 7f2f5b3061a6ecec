-- Lines hold no CR and no LF exactly where the writer finds no stray break; and so it is where they join to the same bytes as lines that hold none. Assumes nothing.
use Prim.Native.Nat.{ℕ, suc, ◌+◌, ◌*◌, ◌<◌}
use native.Mathlib.Omega.{arith}
use mathlib.Core.Bool.{Bool, true, false, true≢false, cond}
use mathlib.Core.List.Memᴰ
use mathlib.Core.List.{List, [], ◌∷◌, ◌++◌, Memᴰ}
use mathlib.Core.Logic.{◌⊎◌, inl, inr}
use mathlib.Core.Option.{Option, some, none, get_or, none-ne-some, some-injective}
use mathlib.Core.Path.{◌≡◌, refl, sym, ◌∙◌, ap}
use lib.ListN.{length}
use borrow.Author.Tests.{ne_eqb}
use Rattle.sieve.specs.declared.Break.{Break}
use Rattle.sieve.specs.declared.Break.TheVariants.{Lf, CrLf}
use Rattle.sieve.specs.Bytes.{Bytes, first_such}
use Rattle.sieve.specs.Lines.{break_bytes, of_break, after_breaks, joined}
use Rattle.sieve.specs.Lawful.{no_more, one_more, Clean}
use Rattle.sieve.specs.Places.{Placed, placed}
use Rattle.sieve.specs.Verdict.{Refusal, under_at}
use Rattle.sieve.specs.Writing.{stray_break}
use Rattle.sieve.proofs.Cutting.{Each}
use Rattle.sieve.proofs.Walking.{each}
use Rattle.sieve.proofs.Findings.{such_none, none_such}

pub clean_bytes : (l : Bytes) → ((x : ℕ) → Memᴰ x l → of_break x ≡ false) → Clean l
clean_bytes [] h = no_more
clean_bytes (x ∷ l) h =
    let e = h x (Memᴰ.head refl) in
    one_more (λ f. true≢false (sym (ap of_break f) ∙ e)) (λ f. true≢false (sym (ap of_break f) ∙ e)) (clean_bytes l (λ y m. h y (Memᴰ.tail m)))

bytes_clean : (l : Bytes) → Clean l → (x : ℕ) → Memᴰ x l → of_break x ≡ false
bytes_clean [] c x m = absurd (Memᴰ.not-nil m)
bytes_clean (y ∷ l) (one_more a b c) x m = by_cases (Memᴰ.cases_cons m) (bytes_clean l c x)
  where
    by_cases : (x ≡ y) ⊎ Memᴰ x l → (Memᴰ x l → of_break x ≡ false) → of_break x ≡ false
    by_cases (inl e) ih = rw (e, ne_eqb y 10 a, ne_eqb y 13 b)
    by_cases (inr m) ih = ih m

pub unstray_clean : (k : Break) (ls : List Bytes) (i at : ℕ) → stray_break i (placed at k ls) ≡ none → Each Clean ls
unfolding stray_break placed
unstray_clean k [] i at h = λ l m. absurd (Memᴰ.not-nil m)
unstray_clean k (l ∷ ls) i at h = by_cases (first_such of_break at l) refl (unstray_clean k ls (suc i) (at + length l + length (break_bytes k)))
  where
    by_cases : (o : Option ℕ) → first_such of_break at l ≡ o → (stray_break (suc i) (placed (at + length l + length (break_bytes k)) k ls) ≡ none → Each Clean ls) → Each Clean (l ∷ ls)
    by_cases none e ih = each (clean_bytes l (such_none of_break at l e)) (ih (rw (e, stray_break) at h))
    by_cases (some j) e ih = absurd (none-ne-some _ (sym (rw (e, stray_break) at h)))

pub clean_unstray : (k : Break) (ls : List Bytes) (i at : ℕ) → Each Clean ls → stray_break i (placed at k ls) ≡ none
unfolding stray_break placed
clean_unstray k [] i at h = refl
clean_unstray k (l ∷ ls) i at h =
    rw (none_such of_break at l (bytes_clean l (h l (Memᴰ.head refl))), stray_break) (clean_unstray k ls (suc i) _ (λ m j. h m (Memᴰ.tail j)))

-- how many bytes of breaks there are in some bytes, and in lines
abbrev break_bytes_in : Bytes → ℕ
break_bytes_in [] = 0
break_bytes_in (x ∷ s) = cond (of_break x) 1 0 + break_bytes_in s

abbrev strays : List Bytes → ℕ
strays [] = 0
strays (l ∷ ls) = break_bytes_in l + strays ls

in_both : (a b : Bytes) → break_bytes_in (a ++ b) ≡ break_bytes_in a + break_bytes_in b
in_both [] b = omega arith
in_both (x ∷ a) b = omega (arith, in_both a b)

-- each break has its own bytes, and the lines have the others
in_after : (k : Break) (ls : List Bytes) → break_bytes_in (after_breaks k ls) ≡ length (break_bytes k) * length ls + strays ls
in_after Lf [] = refl
in_after CrLf [] = refl
in_after Lf (l ∷ ls) = omega (arith, in_both l (after_breaks Lf ls), in_after Lf ls)
in_after CrLf (l ∷ ls) = omega (arith, in_both l (after_breaks CrLf ls), in_after CrLf ls)

none_in : (l : Bytes) → Clean l → break_bytes_in l ≡ 0
none_in [] c = refl
none_in (x ∷ l) (one_more a b c) = rw (ne_eqb x 10 a, ne_eqb x 13 b) (omega (arith, none_in l c))

clean_strays : (ls : List Bytes) → Each Clean ls → strays ls ≡ 0
clean_strays [] h = refl
clean_strays (l ∷ ls) h = omega (arith, none_in l (h l (Memᴰ.head refl)), clean_strays ls (λ m i. h m (Memᴰ.tail i)))

in_none : (l : Bytes) → break_bytes_in l ≡ 0 → (x : ℕ) → Memᴰ x l → of_break x ≡ false
in_none [] h x m = absurd (Memᴰ.not-nil m)
in_none (y ∷ l) h x m = by_cases (of_break y) refl (Memᴰ.cases_cons m) (in_none l (omega arith) x)
  where
    by_cases : (b : Bool) → of_break y ≡ b → (x ≡ y) ⊎ Memᴰ x l → (Memᴰ x l → of_break x ≡ false) → of_break x ≡ false
    by_cases true e m ih = absurd (omega (arith, rw e at h))
    by_cases false e (inl s) ih = rw s e
    by_cases false e (inr i) ih = ih i

strays_clean : (ls : List Bytes) → strays ls ≡ 0 → Each Clean ls
strays_clean [] h = λ l m. absurd (Memᴰ.not-nil m)
strays_clean (l ∷ ls) h = each (clean_bytes l (in_none l (omega arith))) (strays_clean ls (omega arith))

-- as many lines as some that hold no CR and no LF, which join to the same bytes, hold none either
pub same_bytes_clean : (k : Break) (ls ms : List Bytes) → length ls ≡ length ms → joined k ls ≡ joined k ms → Each Clean ms → Each Clean ls
same_bytes_clean k [] ms n e h = λ l m. absurd (Memᴰ.not-nil m)
same_bytes_clean k (l ∷ ls) [] n e h = absurd (omega arith)
same_bytes_clean k (l ∷ ls) (m ∷ ms) n e h =
    let same : length ls ≡ length ms = omega arith in
    let bytes : length (break_bytes k) * length ls ≡ length (break_bytes k) * length ms = rw same in
    strays_clean (l ∷ ls)
    (omega (arith, bytes, ap break_bytes_in e, in_both l (after_breaks k ls), in_both m (after_breaks k ms), in_after k ls, in_after k ms, clean_strays (m ∷ ms) h))

-- a stray break is refused under 3, with the line that it is in and the byte's place
pub record StrayFound (i : ℕ) (ls : List Placed) (r : Refusal) : Type 0 where
  pub line : r.line < i + length ls
  pub is : r ≡ under_at 3 r.line (get_or r.place 0)

pub stray_found : (i : ℕ) (ls : List Placed) (r : Refusal) → stray_break i ls ≡ some r → StrayFound i ls r
unfolding stray_break
stray_found i [] r h = absurd (none-ne-some r h)
stray_found i (l ∷ ls) r h = by_cases (first_such of_break l.start l.text) refl (stray_found (suc i) ls r)
  where
    by_cases : (o : Option ℕ) → first_such of_break l.start l.text ≡ o → (stray_break (suc i) ls ≡ some r → StrayFound (suc i) ls r) → StrayFound i (l ∷ ls) r
    by_cases none e ih = let s = ih (rw (e, stray_break) at h) in record { line = omega (arith, s.line); is = s.is }
    by_cases (some at) e ih =
        let s : under_at 3 i at ≡ r = some-injective _ _ (rw (e, stray_break) at h) in
        rw (← s) (record { line = omega arith; is = refl })
