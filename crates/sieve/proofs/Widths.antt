-- What follows from the laws of a set of characters: a break, or the end, ends a character; and what passes. Assumes nothing.
use Prim.Native.Nat.{ℕ, zero, suc, ◌≤◌, zero-le, suc-le-suc}
use native.Mathlib.Nat.{suc-ne-zero}
use mathlib.Core.List.{[], ◌∷◌, ◌++◌, append-nil, append_assoc}
use mathlib.Core.Path.{◌≡◌, refl, sym, ◌∙◌, ap}
use lib.Dec.{eqb-suc-zero}
use lib.ListN.{length, take, drop, take-append-drop}
use lib.Seq.{length-take-le}
use Rattle.sieve.specs.declared.Break.{Break}
use Rattle.sieve.specs.declared.Break.TheVariants.{Lf, CrLf}
use Rattle.sieve.specs.Bytes.{Bytes}
use Rattle.sieve.specs.Lines.{break_bytes}
use Rattle.sieve.specs.Characters.{Width, break_width, passes}
use Rattle.sieve.specs.Lawful.{Unbroken, no_more, one_more, Lawful}

-- the end, or a break with anything after it
pub data Stop : Bytes → Type 0 where
  at_end : Stop []
  at_break : (k : Break) (s : Bytes) → Stop (break_bytes k ++ s)

unbroken_length : {n : ℕ} {s : Bytes} → Unbroken n s → n ≤ length s
unbroken_length no_more = zero-le
unbroken_length (one_more a b p) = suc-le-suc (unbroken_length p)

-- plain bytes end before a stop
unbroken_before : (n : ℕ) (l : Bytes) {t : Bytes} → Stop t → Unbroken n (l ++ t) → n ≤ length l
unbroken_before zero l s p = zero-le
unbroken_before (suc n) (x ∷ l) s (one_more a b p) = suc-le-suc (unbroken_before n l s p)
unbroken_before (suc n) [] at_end p = elim p [ ]
unbroken_before (suc n) [] (at_break Lf s) (one_more a b p) = absurd (a refl)
unbroken_before (suc n) [] (at_break CrLf s) (one_more a b p) = absurd (b refl)

module _ (w : Width) (L : Lawful w) where
  -- of a character that lies within l, what follows l does not matter
  within_line : (l t u : Bytes) (n : ℕ) → suc n ≤ length l → w (l ++ t) ≡ suc n → w (l ++ u) ≡ suc n
  within_line l t u n h e =
      let c = take (suc n) l in
      let r = drop (suc n) l in
      let split : (v : Bytes) → l ++ v ≡ c ++ (r ++ v) = λ v. ap (λ (k : Bytes). k ++ v) (sym (take-append-drop (suc n) l)) ∙ append_assoc c r v in
      ap w (split u) ∙ L.own c (r ++ t) (r ++ u) n (length-take-le (suc n) l h) (sym (ap w (split t)) ∙ e)

  pub ends : (l : Bytes) {t : Bytes} → Stop t → w (l ++ t) ≡ w l
  ends l {t} s = along (w (l ++ t)) (w l) refl refl
    where
      along : (n m : ℕ) → w (l ++ t) ≡ n → w l ≡ m → w (l ++ t) ≡ w l
      along zero zero e f = e ∙ sym f
      along (suc n) m e f = e ∙ sym (rw append-nil at (within_line l t [] n (unbroken_before (suc n) l s (rw e at (L.unbroken (l ++ t)))) e))
      along zero (suc m) e f = absurd (suc-ne-zero m (sym (within_line l [] t m (unbroken_length (rw f at (L.unbroken l))) (rw append-nil f)) ∙ e))

  no_character : {n : ℕ} → Unbroken n [] → n ≡ 0
  no_character no_more = refl

  pub width_break : (k : Break) (s : Bytes) → w (break_bytes k ++ s) ≡ 0
  width_break k s = ends [] (at_break k s) ∙ no_character (L.unbroken [])

  pub passes_break : (k : Break) (s : Bytes) → passes w (break_bytes k ++ s) ≡ length (break_bytes k)
  unfolding passes break_width
  passes_break Lf s = rw (width_break Lf s)
  passes_break CrLf s = rw (width_break CrLf s)

pub passes_character : (w : Width) (s : Bytes) (n : ℕ) → w s ≡ suc n → passes w s ≡ suc n
unfolding passes
passes_character w s n e = rw (e, eqb-suc-zero n)

pub passes_other : (w : Width) (s : Bytes) → w s ≡ 0 → passes w s ≡ break_width s
unfolding passes
passes_other w s e = rw e
