-- An accepted Swiss payload with another text as one of its lines, of characters and as long: rules 1 to 5 are kept, and the verdict is what its rules about lines find first. Assumes nothing.
use Prim.Native.Nat.{ℕ, zero, suc}
use mathlib.Core.List.Memᴰ
use mathlib.Core.List.{List, [], ◌∷◌, ◌++◌, map, Memᴰ}
use mathlib.Core.Logic.{◌⊎◌, inl, inr}
use mathlib.Core.Option.{Option, some, none}
use mathlib.Core.Path.{◌≡◌, refl, sym, ap, ◌∙◌}
use lib.Dec.{lit≤}
use lib.ListN.{length, get_or, set, length-set, length-append}
use Rattle.sieve.specs.declared.Break.{Break}
use Rattle.sieve.specs.Bytes.{Bytes}
use Rattle.sieve.specs.Lines.{Bill, break_bytes, after_breaks, joined, written, cut, lines_of, bill_of}
use Rattle.sieve.specs.Characters.{Text}
use Rattle.sieve.specs.Latin.{latin}
use Rattle.sieve.specs.Whole.{bare}
use Rattle.sieve.specs.Verdict.{Refusal, Verdict, accepted, refused, about_lines, first, verdict}
use Rattle.sieve.specs.Keeps.{Keeps}
use Rattle.sieve.specs.Demand.{Is}
use Rattle.sieve.proofs.Latin.{lawful}
use Rattle.sieve.proofs.Accepts.{read_back, accepts_exactly}
use Rattle.sieve.proofs.Stages.{more_kept, more_broken}
use Rattle.swiss.specs.declared.Edition.TheVariants.{V24}
use Rattle.swiss.specs.Swiss.{rules, swiss}
use Rattle.swiss.proofs.DemandThree.{swiss_demand_three}
use Rattle.worth.specs.Bills.{Accepted}

-- a list with another at one place

another : {A : Type 0} (xs : List A) (i : ℕ) (t x : A) → Memᴰ x (set xs i t) → (x ≡ t) ⊎ Memᴰ x xs
another [] i t x m = inr m
another (y ∷ xs) zero t x m = by_cases (Memᴰ.cases_cons m)
  where
    by_cases : (x ≡ t) ⊎ Memᴰ x xs → (x ≡ t) ⊎ Memᴰ x (y ∷ xs)
    by_cases (inl e) = inl e
    by_cases (inr i) = inr (Memᴰ.tail i)
another (y ∷ xs) (suc i) t x m = by_cases (Memᴰ.cases_cons m) (another xs i t x)
  where
    by_cases : (x ≡ y) ⊎ Memᴰ x (set xs i t) → (Memᴰ x (set xs i t) → (x ≡ t) ⊎ Memᴰ x xs) → (x ≡ t) ⊎ Memᴰ x (y ∷ xs)
    by_cases (inl e) ih = inr (Memᴰ.head e)
    by_cases (inr j) ih = later (ih j)
      where
        later : (x ≡ t) ⊎ Memᴰ x xs → (x ≡ t) ⊎ Memᴰ x (y ∷ xs)
        later (inl e) = inl e
        later (inr k) = inr (Memᴰ.tail k)

-- lines with another that is as long are as long when they are joined

as_long_after : (k : Break) (ls : List Bytes) (i : ℕ) (t : Bytes) → length t ≡ length (get_or ls i []) → length (after_breaks k (set ls i t)) ≡ length (after_breaks k ls)
as_long_after k [] i t e = refl
as_long_after k (l ∷ ls) zero t e = rw (length-append (break_bytes k) (t ++ after_breaks k ls), length-append (break_bytes k) (l ++ after_breaks k ls), length-append t (after_breaks k ls), length-append l (after_breaks k ls), e)
as_long_after k (l ∷ ls) (suc i) t e =
    rw (length-append (break_bytes k) (l ++ after_breaks k (set ls i t)), length-append (break_bytes k) (l ++ after_breaks k ls), length-append l (after_breaks k (set ls i t)), length-append l (after_breaks k ls), as_long_after k ls i t e)

as_long : (k : Break) (ls : List Bytes) (i : ℕ) (t : Bytes) → length t ≡ length (get_or ls i []) → length (joined k (set ls i t)) ≡ length (joined k ls)
as_long k [] i t e = refl
as_long k (l ∷ ls) zero t e = rw (length-append t (after_breaks k ls), length-append l (after_breaks k ls), e)
as_long k (l ∷ ls) (suc i) t e = rw (length-append l (after_breaks k (set ls i t)), length-append l (after_breaks k ls), as_long_after k ls i t e)

-- the bill that an accepted payload is
pub accepted_bill : (p : Bytes) (n : ℕ) (k : Break) → Accepted p n k → Is swiss p n k (bill_of p)
unfolding swiss
accepted_bill p n k h =
    let (b, bill-is) = swiss_demand_three.accepts.sound p n k h in
    let e : bill_of p ≡ b = ap bill_of (sym bill-is.writes) ∙ read_back swiss (λ ls. lawful) (lit≤ tt) b bill-is.keeps in
    rw e bill-is

-- what a finding makes of such a payload
abbrev pub as_found : ℕ → Break → Option Refusal → Verdict
as_found n k none = accepted n k
as_found n k (some r) = refused r

module _ (p : Bytes) (n : ℕ) (k : Break) (h : Accepted p n k) (i : ℕ) (t : Bytes) (text : Text latin t) (long : length t ≡ length (get_or (bill_of p).lines i [])) where
  abbrev other : Bill
  other = record { lines = set (bill_of p).lines i t; break = (bill_of p).break }

  other_keeps : Keeps (bare swiss) other
  unfolding swiss written
  other_keeps =
      let keeps = (accepted_bill p n k h).keeps in
      record {
        enough = rw (length-set (bill_of p).lines i t) keeps.enough;
        not_too_many = rw (length-set (bill_of p).lines i t) keeps.not_too_many;
        text = λ l m. along l keeps.text (another (bill_of p).lines i t l m);
        fits = rw (as_long (bill_of p).break (bill_of p).lines i t long) keeps.fits;
        unbroken = λ r m. absurd (Memᴰ.not-nil m);
      }
    where
      along : (l : Bytes) → ((l : Bytes) → Memᴰ l (bill_of p).lines → Text latin l) → (l ≡ t) ⊎ Memᴰ l (bill_of p).lines → Text latin l
      along l texts (inl e) = rw e text
      along l texts (inr m) = texts l m

  pub told : (o : Option Refusal) → first (map (about_lines (set (bill_of p).lines i t)) (rules V24)) ≡ o
      → verdict swiss (joined (bill_of p).break (set (bill_of p).lines i t)) ≡ as_found n k o
  unfolding swiss written bill_of
  told o e =
      let bill-is = accepted_bill p n k h in
      let L = bare swiss in
      let q = joined (bill_of p).break (set (bill_of p).lines i t) in
      let accepts : verdict L q ≡ accepted n k =
      (accepts_exactly L (λ ls. lawful) (lit≤ tt)).complete other other_keeps ∙ rw (length-set (bill_of p).lines i t, bill-is.count, bill-is.break) in
      let same : lines_of (cut q) ≡ set (bill_of p).lines i t = ap (λ (b : Bill). b.lines) (read_back L (λ ls. lawful) (lit≤ tt) other other_keeps) in
      let finds : first (map (about_lines (lines_of (cut q))) (rules V24)) ≡ o = rw same e in
      by_cases o finds accepts
    where
      by_cases : (o : Option Refusal) → first (map (about_lines (lines_of (cut (joined (bill_of p).break (set (bill_of p).lines i t))))) (rules V24)) ≡ o
          → verdict (bare swiss) (joined (bill_of p).break (set (bill_of p).lines i t)) ≡ accepted n k
          → verdict swiss (joined (bill_of p).break (set (bill_of p).lines i t)) ≡ as_found n k o
      by_cases none f a = more_kept (bare swiss) (rules V24) (joined (bill_of p).break (set (bill_of p).lines i t)) n k a f
      by_cases (some r) f a = more_broken (bare swiss) (rules V24) (joined (bill_of p).break (set (bill_of p).lines i t)) n k a r f
