-- Where line 4 ends: an IBAN holds no break, so with what ends a line behind it, it is the line. Assumes nothing.
use Prim.Native.Nat.{ℕ, suc, ◌+◌}
use native.Mathlib.Omega.{arith}
use mathlib.Core.Bool.{Bool, true, false, true≢false, false≢true, cond, ◌&&◌, not, and-eq-true_iff}
use mathlib.Core.List.{[], ◌∷◌, ◌++◌, append-nil}
use mathlib.Core.Path.{◌≡◌, refl, sym, ap, ◌∙◌, subst}
use lib.Dec.{eqb, ltb}
use lib.ListN.{length, take, drop, take-append-drop, length-drop}
use lib.Seq.{take_all, drop-length, drop-drop, drop-append_seam}
use borrow.Author.Tests.{le-ltb}
use Rattle.sieve.specs.declared.Break.{Break}
use Rattle.sieve.specs.declared.Break.TheVariants.{Lf, CrLf}
use Rattle.sieve.specs.Bytes.{Bytes, ascii, same, every}
use Rattle.sieve.specs.Characters.{break_width}
use Rattle.sieve.specs.Lawful.{no_more, one_more, Clean}
use Rattle.sieve.specs.Letters.{digit, capital, digit_or_capital}
use Rattle.sieve.specs.Lines.{break_bytes, cut, breaks_of}
use Rattle.sieve.proofs.Bounds.{same_is}
use Rattle.sieve.proofs.Cutting.{cut_clean}
use Rattle.sieve.proofs.Heads.{Head, lf, crlf, other, head}
use Rattle.swiss.specs.Forms.{iban_country, iban}
use Rattle.swiss.specs.Limits.{iban_length, switzerland, liechtenstein}
use Rattle.swiss.proofs.Forms.{iban_length_lem}
use Rattle.lines.proofs.FirstLine.{FirstLine, only, followed, first_line}
use Rattle.glance.specs.FixedLines.{ends_with}

-- no break is among the bytes of an IBAN

clean_append : (l r : Bytes) → Clean l → Clean r → Clean (l ++ r)
clean_append [] r p q = q
clean_append (x ∷ l) r (one_more a b p) q = one_more a b (clean_append l r p q)

every_clean : (f : ℕ → Bool) (l : Bytes) → f 10 ≡ false → f 13 ≡ false → every f l ≡ true → Clean l
every_clean f [] a b h = no_more
every_clean f (x ∷ l) a b h =
    let (here, there) = (and-eq-true_iff _ _).0 h in
    one_more (λ e. true≢false (sym here ∙ ap f e ∙ a)) (λ e. true≢false (sym here ∙ ap f e ∙ b)) (every_clean f l a b there)

country_clean : (c : Bytes) → iban_country c ≡ true → Clean c
country_clean c h = every_clean capital c refl refl (by_cases (same c (ascii switzerland)) refl h)
  where
    by_cases : (b : Bool) → same c (ascii switzerland) ≡ b → iban_country c ≡ true → every capital c ≡ true
    by_cases true e h = ap (every capital) (same_is c (ascii switzerland) e)
    by_cases false e h = ap (every capital) (same_is c (ascii liechtenstein) (rw e at h))

pub iban_clean : (l : Bytes) → iban l ≡ true → Clean l
iban_clean l h =
    let starts = take 2 l in
    let digits = take 7 (drop 2 l) in
    let letters = take 12 (drop 9 l) in
    let (front, c) = (and-eq-true_iff (eqb (length l) iban_length && iban_country starts && every digit digits) (every digit_or_capital letters)).0 h in
    let (size, b) = (and-eq-true_iff (eqb (length l) iban_length && iban_country starts) (every digit digits)).0 front in
    let (_, a) = (and-eq-true_iff (eqb (length l) iban_length) (iban_country starts)).0 size in
    let last : letters ≡ drop 9 l = take_all 12 (drop 9 l) (omega (arith, iban_length_lem l h, length-drop 9 l)) in
    let parts : starts ++ (digits ++ letters) ≡ l = rw (last, ← drop-drop 7 2 l, take-append-drop 7 (drop 2 l)) (take-append-drop 2 l) in
    subst Clean parts (clean_append starts (digits ++ letters) (country_clean starts a) (clean_append digits letters (every_clean digit digits refl refl b) (every_clean digit_or_capital letters refl refl c)))

module _ (more : Bool) where
  -- what ends a line begins with no byte of it
  no_line : (r : Bytes) → ends_with r more ≡ true → (cut r).first ≡ []
  unfolding cut ends_with break_width
  no_line [] e = refl
  no_line (x ∷ s) e = by_cases (head x s) e
    where
      by_cases : {x : ℕ} {s : Bytes} → Head x s → ends_with (x ∷ s) more ≡ true → (cut (x ∷ s)).first ≡ []
      by_cases lf e = refl
      by_cases crlf e = refl
      by_cases (other a b) e = absurd (false≢true (rw (a, b) at e))

  -- so clean bytes in front of it are the line
  pub clean_line : (n : ℕ) (t : Bytes) → Clean (take n t) → ends_with (drop n t) more ≡ true → (cut t).first ≡ take n t
  clean_line n t c e = ap (λ (s : Bytes). (cut s).first) (sym (take-append-drop n t)) ∙ rw (cut_clean (take n t) (drop n t) c, no_line (drop n t) e) (append-nil (take n t))

  -- behind three lines, fewer than four are whole exactly where what stands behind the fourth does not end it
  pub goes_on : (t : Bytes) → ltb (suc (suc (suc (length (breaks_of (cut t))))) + cond more 0 1) 4 ≡ not (ends_with (drop (length (cut t).first) t) more)
  unfolding ends_with break_width
  goes_on t = by_cases (first_line t)
    where
      last : (m : Bool) → ltb (3 + cond m 0 1) 4 ≡ not (ends_with [] m)
      last true = refl
      last false = refl

      four : (n : ℕ) → ltb (suc (suc (suc (suc n))) + cond more 0 1) 4 ≡ false
      four n = le-ltb (suc (suc (suc (suc n))) + cond more 0 1) 4 (omega arith)

      ends : (k : Break) (r : Bytes) → ends_with (break_bytes k ++ r) more ≡ true
      ends Lf r = refl
      ends CrLf r = refl

      by_cases : {t : Bytes} → FirstLine t → ltb (suc (suc (suc (length (breaks_of (cut t))))) + cond more 0 1) 4 ≡ not (ends_with (drop (length (cut t).first) t) more)
      by_cases (only l h) = rw (h, drop-length l) (last more)
      by_cases (followed l k r h) = rw (h, drop-append_seam l (break_bytes k ++ r), ends k r) (four (length (breaks_of (cut r))))
