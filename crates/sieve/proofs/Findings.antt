-- What the sieve finds: nothing exactly where no rule is broken; else the first. Assumes nothing.
use Prim.Native.Nat.{ℕ, zero, suc, ◌+◌, ◌≤◌, ◌<◌, zero-le, suc-le-suc}
use native.Mathlib.Nat.{add-zero}
use native.Mathlib.Omega.{arith}
use mathlib.Core.Bool.{Bool, true, false}
use mathlib.Core.List.Memᴰ
use mathlib.Core.List.{List, [], ◌∷◌, ◌++◌, map, Memᴰ}
use mathlib.Core.Logic.{◌⊎◌, inl, inr}
use mathlib.Core.Option.{Option, some, none, none-ne-some}
use mathlib.Core.Path.{◌≡◌, refl, sym, ◌∙◌, ap}
use lib.ListN.{length, get_or, drop, length-append}
use Rattle.sieve.specs.declared.Break.{Break}
use Rattle.sieve.specs.Bytes.{Bytes, first_such}
use Rattle.sieve.specs.Lines.{Bill, cut, lines_of, breaks_of, bill_of}
use Rattle.sieve.specs.Rules.{Rule, Layout}
use Rattle.sieve.specs.Verdict.{Refusal, accepted, refused, found, no_bytes_refusal, too_many_bytes_refusal, bad_character_refusal, mixed_breaks_refusal, line_count_refusal, about_lines, findings, first, decided, verdict}

-- a test

pub found_none : (b : Bool) (r : Refusal) → found b r ≡ none → b ≡ false
found_none true r h = absurd (none-ne-some r (sym h))
found_none false r h = refl

pub found_some : (b : Bool) (q r : Refusal) → found b q ≡ some r → (b ≡ true) × (q ≡ r)
found_some true q r h = (refl, cc)
found_some false q r h = absurd (none-ne-some r h)

-- the first of a list

-- where nothing is found, each is none, and nothing is found further on
pub each_none : (os : List (Option Refusal)) → first os ≡ none → (i : ℕ) → get_or os i none ≡ none
unfolding first
each_none [] h i = refl
each_none (none ∷ os) h zero = refl
each_none (none ∷ os) h (suc i) = each_none os h i
each_none (some r ∷ os) h i = absurd (none-ne-some r (sym h))

pub none_further : (os : List (Option Refusal)) (n : ℕ) → first os ≡ none → first (drop n os) ≡ none
unfolding first
none_further os zero h = h
none_further [] (suc n) h = refl
none_further (none ∷ os) (suc n) h = none_further os n h
none_further (some r ∷ os) (suc n) h = absurd (none-ne-some r (sym h))

pub first_nil : first [] ≡ none
unfolding first
first_nil = refl

pub none_first : (o : Option Refusal) (os : List (Option Refusal)) → o ≡ none → first os ≡ none → first (o ∷ os) ≡ none
unfolding first
none_first none os e h = h
none_first (some r) os e h = absurd (none-ne-some r (sym e))

-- a verdict accepts where nothing is found, and every finding is then none

pub settled_accepts : {n : ℕ} {k : Break} (b : Bill) (o : Option Refusal) → decided b o ≡ accepted n k → (o ≡ none) × (length b.lines ≡ n) × (b.break ≡ k)
settled_accepts b none h = (refl, cc, cc)
settled_accepts b (some r) h = let z : ◌≡◌ {A = ℕ} 0 1 = cc in absurd (omega arith)

pub settled_refuses : (b : Bill) (o : Option Refusal) (r : Refusal) → decided b o ≡ refused r → o ≡ some r
settled_refuses b none r h = let z : ◌≡◌ {A = ℕ} 0 1 = cc in absurd (omega arith)
settled_refuses b (some q) r h = cc

pub verdict_is : (L : Layout) (p : Bytes) → verdict L p ≡ decided (bill_of p) (first (findings L p))
unfolding verdict
verdict_is L p = refl

pub record Clear (L : Layout) (p : Bytes) : Type 0 where
  pub some_bytes : no_bytes_refusal p ≡ none
  pub not_too_many : too_many_bytes_refusal L p ≡ none
  pub good : bad_character_refusal L p (lines_of (cut p)) ≡ none
  pub unmixed : mixed_breaks_refusal (breaks_of (cut p)) ≡ none
  pub counted : line_count_refusal L (lines_of (cut p)) ≡ none
  pub kept : first (map (about_lines (lines_of (cut p))) L.rules) ≡ none

pub clear : (L : Layout) (p : Bytes) → first (findings L p) ≡ none → Clear L p
unfolding findings
clear L p h =
    let none-at = each_none (findings L p) h in
    record { some_bytes = none-at 0; not_too_many = none-at 1; good = none-at 2; unmixed = none-at 3; counted = none-at 4; kept = none_further (findings L p) 5 h }

pub clear_first : (L : Layout) (p : Bytes) → Clear L p → first (findings L p) ≡ none
unfolding findings
clear_first L p c = none_first _ _ c.some_bytes (none_first _ _ c.not_too_many (none_first _ _ c.good (none_first _ _ c.unmixed (none_first _ _ c.counted c.kept))))

-- the position of the first that is found: no other comes before it
pub record FoundAt (os : List (Option Refusal)) (r : Refusal) : Type 0 where
  pub at : ℕ
  pub is : get_or os at none ≡ some r
  pub before_all : (j : ℕ) (q : Refusal) → get_or os j none ≡ some q → at ≤ j

pub first_at : (os : List (Option Refusal)) (r : Refusal) → first os ≡ some r → FoundAt os r
unfolding first
first_at [] r h = absurd (none-ne-some r h)
first_at (some q ∷ os) r h = record { at = 0; is = h; before_all = λ j q e. zero-le }
first_at (none ∷ os) r h = let f = first_at os r h in record { at = suc f.at; is = f.is; before_all = later f.at f.before_all }
  where
    later : (i : ℕ) → ((j : ℕ) (q : Refusal) → get_or os j none ≡ some q → i ≤ j) → (j : ℕ) (q : Refusal) → get_or (none ∷ os) j none ≡ some q → suc i ≤ j
    later i b zero q e = absurd (none-ne-some q e)
    later i b (suc j) q e = suc-le-suc (b j q e)

pub found_first : (os : List (Option Refusal)) (j : ℕ) (q : Refusal) → get_or os j none ≡ some q → (r : Refusal) × (first os ≡ some r)
unfolding first
found_first [] j q h = absurd (none-ne-some q h)
found_first (some r ∷ os) j q h = (r, refl)
found_first (none ∷ os) zero q h = absurd (none-ne-some q h)
found_first (none ∷ os) (suc j) q h = found_first os j q h

-- rules about lines

abbrev pub Unbroken : List Rule → List Bytes → Type 0
Unbroken rs ls = (r : Rule) → Memᴰ r rs → r.broken ls ≡ false

pub all_unbroken : (rs : List Rule) (ls : List Bytes) → first (map (about_lines ls) rs) ≡ none → Unbroken rs ls
all_unbroken [] ls h r m = absurd (Memᴰ.not-nil m)
all_unbroken (q ∷ rs) ls h r m = by_cases (all_unbroken rs ls (none_further (map (about_lines ls) (q ∷ rs)) 1 h)) (Memᴰ.cases_cons m)
  where
    by_cases : Unbroken rs ls → (r ≡ q) ⊎ Memᴰ r rs → r.broken ls ≡ false
    by_cases ih (inl s) = rw s (found_none (q.broken ls) _ (each_none (map (about_lines ls) (q ∷ rs)) h 0))
    by_cases ih (inr i) = ih r i

pub none_broken : (rs : List Rule) (ls : List Bytes) → Unbroken rs ls → first (map (about_lines ls) rs) ≡ none
unfolding first
none_broken [] ls h = refl
none_broken (r ∷ rs) ls h = rw (h r (Memᴰ.head refl), first) (none_broken rs ls (λ q m. h q (Memᴰ.tail m)))

-- the first of a list that passes a test: those before it do not

pub record SuchAt {A : Type 0} (f : A → Bool) (i : ℕ) (xs : List A) (n : ℕ) : Type 0 where
  pub before : List A
  pub such : A
  pub after : List A
  pub whole : xs ≡ before ++ (such ∷ after)
  pub none_before : (x : A) → Memᴰ x before → f x ≡ false
  pub passes : f such ≡ true
  pub place : i + length before ≡ n

pub such_at : {A : Type 0} (f : A → Bool) (i : ℕ) (xs : List A) (n : ℕ) → first_such f i xs ≡ some n → SuchAt f i xs n
unfolding first_such
such_at f i [] n h = absurd (none-ne-some n h)
such_at {A} f i (x ∷ xs) n h = by_cases (f x) refl (such_at f (suc i) xs n)
  where
    by_cases : (b : Bool) → f x ≡ b → (first_such f (suc i) xs ≡ some n → SuchAt f (suc i) xs n) → SuchAt f i (x ∷ xs) n
    by_cases true e ih = let g : ◌≡◌ {A = Option ℕ} (some i) (some n) = rw (e, first_such) at h in record { before = []; such = x; after = xs; whole = refl; none_before = λ y m. absurd (Memᴰ.not-nil m); passes = e; place = add-zero i ∙ cc }
    by_cases false e ih =
        let r = ih (rw (e, first_such) at h) in
        record {
          before = x ∷ r.before;
          such = r.such;
          after = r.after;
          whole = ap (λ (t : List A). x ∷ t) r.whole;
          none_before = λ y m. either y r.none_before (Memᴰ.cases_cons m);
          passes = r.passes;
          place = omega (arith, r.place);
        }
      where
        either : (y : A) {b : List A} → ((z : A) → Memᴰ z b → f z ≡ false) → (y ≡ x) ⊎ Memᴰ y b → f y ≡ false
        either y k (inl s) = rw s e
        either y k (inr m) = k y m

-- it lies in the list
pub such_within : {A : Type 0} (f : A → Bool) (i : ℕ) (xs : List A) (n : ℕ) → first_such f i xs ≡ some n → n < i + length xs
such_within f i xs n h =
    let s = such_at f i xs n h in
    omega (arith, s.place, ap length s.whole, length-append s.before (s.such ∷ s.after))

pub at_such : {A : Type 0} (f : A → Bool) (i : ℕ) (ks : List A) (x : A) (js : List A) → ((k : A) → Memᴰ k ks → f k ≡ false) → f x ≡ true → first_such f i (ks ++ (x ∷ js)) ≡ some (i + length ks)
unfolding first_such
at_such f i [] x js h e = rw (e, first_such) (ap some (sym (add-zero i)))
at_such f i (k ∷ ks) x js h e = rw (h k (Memᴰ.head refl), first_such) (at_such f (suc i) ks x js (λ k m. h k (Memᴰ.tail m)) e ∙ ap some (omega arith))

pub none_such : {A : Type 0} (f : A → Bool) (i : ℕ) (xs : List A) → ((x : A) → Memᴰ x xs → f x ≡ false) → first_such f i xs ≡ none
unfolding first_such
none_such f i [] h = refl
none_such f i (x ∷ xs) h = rw (h x (Memᴰ.head refl), first_such) (none_such f (suc i) xs (λ y m. h y (Memᴰ.tail m)))

pub such_none : {A : Type 0} (f : A → Bool) (i : ℕ) (xs : List A) → first_such f i xs ≡ none → (x : A) → Memᴰ x xs → f x ≡ false
unfolding first_such
such_none f i [] h x m = absurd (Memᴰ.not-nil m)
such_none f i (y ∷ xs) h x m = by_cases (f y) refl (such_none f (suc i) xs) (Memᴰ.cases_cons m)
  where
    by_cases : (b : Bool) → f y ≡ b → (first_such f (suc i) xs ≡ none → (x : _) → Memᴰ x xs → f x ≡ false) → (x ≡ y) ⊎ Memᴰ x xs → f x ≡ false
    by_cases true e ih m = absurd (none-ne-some i (sym (rw (e, first_such) at h)))
    by_cases false e ih (inl s) = rw s e
    by_cases false e ih (inr m) = ih (rw (e, first_such) at h) x m
