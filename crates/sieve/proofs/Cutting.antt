-- Cutting and writing undo each other. Assumes nothing.
use Prim.Native.Nat.{ℕ, ◌≤◌}
use mathlib.Core.List.{List, [], ◌∷◌, ◌++◌, map, append-nil, Memᴰ}
use mathlib.Core.Logic.{◌≢◌}
use mathlib.Core.Path.{◌≡◌, refl, ◌∙◌, ap}
use lib.Dec.{lit≤}
use lib.ListN.{length}
use borrow.Author.Tests.{ne_eqb}
use Rattle.sieve.specs.declared.Break.TheVariants.{Lf, CrLf}
use Rattle.sieve.specs.Lawful.{Clean, one_more}
use Rattle.sieve.specs.declared.Break.{Break}
use Rattle.sieve.specs.Lines.{Next, Cut, break_bytes, cut, glued, after_breaks, joined}
use Rattle.sieve.specs.Bytes.{Bytes}
use Rattle.sieve.proofs.Heads.{Head, lf, crlf, other, head}

pub glued_cut : (p : Bytes) → glued (cut p) ≡ p
unfolding cut
glued_cut [] = refl
glued_cut (x ∷ s) = by_cases (head x s) (glued_cut s)
  where
    by_cases : {x : ℕ} {s : Bytes} → Head x s → glued (cut s) ≡ s → glued (cut (x ∷ s)) ≡ x ∷ s
    by_cases lf h = ap (λ (r : Bytes). 10 ∷ r) h
    by_cases crlf h = ap (λ (r : Bytes). 13 ∷ r) h
    by_cases {x} (other e f) h = rw (e, f) (ap (λ (r : Bytes). x ∷ r) h)

-- a byte that is neither LF nor CR is of the line that it stands in
pub cut_other : {x : ℕ} (s : Bytes) → x ≢ 10 → x ≢ 13 → cut (x ∷ s) ≡ record { first = x ∷ (cut s).first; rest = (cut s).rest }
unfolding cut
cut_other {x} s a b = rw (ne_eqb x 10 a, ne_eqb x 13 b)

pub cut_break : (k : Break) (s : Bytes) → cut (break_bytes k ++ s) ≡ record { first = []; rest = record { break = k; line = (cut s).first } ∷ (cut s).rest }
unfolding cut
cut_break Lf s = refl
cut_break CrLf s = refl

pub cut_clean : (l r : Bytes) → Clean l → cut (l ++ r) ≡ record { first = l ++ (cut r).first; rest = (cut r).rest }
cut_clean [] r p = refl
cut_clean (x ∷ l) r (one_more a b p) = cut_other (l ++ r) a b ∙ ap (λ (c : Cut). record { first = x ∷ c.first; rest = c.rest }) (cut_clean l r p)

abbrev pub Each : (Bytes → Type 0) → List Bytes → Type 0
Each P ls = (l : Bytes) → Memᴰ l ls → P l

abbrev pub nexts : Break → List Bytes → List Next
nexts k = map (λ l. record { break = k; line = l })

cut_after : (k : Break) (ls : List Bytes) → Each Clean ls → cut (after_breaks k ls) ≡ record { first = []; rest = nexts k ls }
unfolding cut
cut_after k [] h = refl
cut_after k (l ∷ ls) h = rw (cut_break k (l ++ after_breaks k ls), cut_clean l (after_breaks k ls) (h l (Memᴰ.head refl)), cut_after k ls (λ l m. h l (Memᴰ.tail m)), append-nil)

pub cut_joined : (k : Break) (l : Bytes) (ls : List Bytes) → Each Clean (l ∷ ls) → cut (joined k (l ∷ ls)) ≡ record { first = l; rest = nexts k ls }
cut_joined k l ls h = rw (cut_clean l (after_breaks k ls) (h l (Memᴰ.head refl)), cut_after k ls (λ l m. h l (Memᴰ.tail m)), append-nil)

-- a break is of one byte or two
pub break_length : (k : Break) → (1 ≤ length (break_bytes k)) × (length (break_bytes k) ≤ 2)
break_length Lf = (lit≤ tt, lit≤ tt)
break_length CrLf = (lit≤ tt, lit≤ tt)
