-- What an address finds, all its rules, is what those find that ask something: of one that is there, of type K or not, and of one that is absent. Assumes nothing.
use Prim.Native.Nat.{ℕ, suc, ◌+◌, ◌-◌, ◌<◌, ◌≤◌}
use native.Mathlib.Nat.{add_assoc}
use native.Mathlib.Omega.{arith}
use mathlib.Core.Bool.{Bool, true, false, not, false≢true}
use mathlib.Core.List.{List, [], ◌∷◌, ◌++◌, map}
use mathlib.Core.Path.{◌≡◌, refl, sym, ap, ◌∙◌}
use lib.Dec.{ltb}
use lib.ListN.{length}
use borrow.Author.Tests.{eqb-true, le-ltb}
use Rattle.std.specs.Prelude.{Ok}
use Rattle.sieve.specs.declared.Fault.TheVariants.{NotEmpty}
use Rattle.sieve.specs.Bytes.{Bytes, ascii}
use Rattle.sieve.specs.Characters.{characters}
use Rattle.sieve.specs.Kinds.{empty, filled, at_most, formed}
use Rattle.sieve.specs.Rules.{Rule, When, line, no_text, is_empty, is, has, always, never}
use Rattle.sieve.specs.Verdict.{about_lines}
use Rattle.sieve.proofs.Bounds.{same_is}
use Rattle.sieve.proofs.Findings.{found_none, each_none}
use Rattle.swiss.specs.Forms.{country}
use Rattle.swiss.specs.declared.Edition.{Edition}
use Rattle.swiss.specs.declared.Edition.TheVariants.{V22, V24}
use Rattle.swiss.specs.Limits.{name_most, street_most, house_number_most, postcode_most, town_most, structured, combined}
use Rattle.swiss.specs.Swiss.{is_combined, address}
use Rattle.swiss.proofs.Editions.{not_combined}
use Rattle.findings.specs.Findings.{unless, and_then, finds}
use Rattle.findings.proofs.FirstFault.{numbered, finds_append, found_nothing}
use Rattle.swiss_address.specs.Addresses.{addressee, locality, address_lines, country_alone, empty_from, vacant}

-- a line with no text is not too long
short : (l : Bytes) (most : ℕ) → no_text l ≡ true → ltb most (characters l) ≡ false
unfolding characters
short [] most h = le-ltb most 0 (omega arith)
short (x ∷ l) most h = absurd (omega (arith, eqb-true (length (x ∷ l)) 0 h))

-- the seven lines, numbered from the first on
seven : (n : ℕ) → vacant n ≡ empty n always ∷ empty (n + 1) always ∷ empty (n + 2) always ∷ empty (n + 3) always ∷ empty (n + 4) always ∷ empty (n + 5) always ∷ empty (n + 6) always ∷ []
unfolding empty_from
seven n = simp add_assoc

-- the lines from line i on, of the seven from line n on: line i and those behind it, or none

pub one_more : (n i : ℕ) (ls : List Bytes) → i < n + 7 → finds (empty_from i (n + 7 - i)) ls ≡ and_then (unless (not (is_empty i ls)) (NotEmpty i)) (finds (empty_from (i + 1) (n + 7 - (i + 1))) ls)
unfolding finds empty_from
one_more n i ls h = let e : n + 7 - i ≡ suc (n + 7 - (i + 1)) = omega arith in rw e

pub no_more : (n i : ℕ) (ls : List Bytes) → n + 7 ≤ i → finds (empty_from i (n + 7 - i)) ls ≡ Ok tt
unfolding finds empty_from
no_more n i ls h = let e : n + 7 - i ≡ 0 = omega arith in rw e

module _ (ls : List Bytes) where
  -- a rule that is not broken is left out
  left_out : (r : Rule) (rs : List Rule) → r.broken ls ≡ false → finds (r ∷ rs) ls ≡ finds rs ls
  unfolding finds
  left_out r rs e = rw (e, finds)

  -- a line that must be empty, and what is found once it is
  once_empty : (n : ℕ) (rs ss : List Rule) → (is_empty n ls ≡ true → finds rs ls ≡ finds ss ls) → finds (empty n always ∷ rs) ls ≡ finds (empty n always ∷ ss) ls
  unfolding finds
  once_empty n rs ss h = by_cases (is_empty n ls) refl h
    where
      by_cases : (b : Bool) → is_empty n ls ≡ b → (b ≡ true → finds rs ls ≡ finds ss ls) → finds (empty n always ∷ rs) ls ≡ finds (empty n always ∷ ss) ls
      by_cases true e h = rw (e, finds) (h refl)
      by_cases false e h = rw (e, finds)

  -- no text of such a line is too long
  closed : (n most : ℕ) (rs ss : List Rule) → finds rs ls ≡ finds ss ls → finds (empty n always ∷ at_most most n ∷ rs) ls ≡ finds (empty n always ∷ ss) ls
  closed n most rs ss h = once_empty n (at_most most n ∷ rs) ss (λ z. left_out (at_most most n) rs (short (line n ls) most z) ∙ h)

  -- what is found behind rules hangs on what the others find
  same_behind : (rs ss ts : List Rule) → finds ss ls ≡ finds ts ls → finds (rs ++ ss) ls ≡ finds (rs ++ ts) ls
  same_behind rs ss ts h = rw (finds_append ls rs ss, finds_append ls rs ts, h)

  module _ (n : ℕ) where
    -- what is asked of an address that is absent, once its first line is empty
    abbrev asked : List Rule
    asked =
        empty (n + 1) always ∷ at_most name_most (n + 1)
        ∷ empty (n + 2) always ∷ at_most street_most (n + 2)
        ∷ empty (n + 3) always ∷ at_most house_number_most (n + 3)
        ∷ empty (n + 4) always ∷ at_most postcode_most (n + 4)
        ∷ empty (n + 5) always ∷ at_most town_most (n + 5)
        ∷ empty (n + 6) always ∷ formed (n + 6) (has (n + 6) country)
        ∷ []

    as_asked : is_empty n ls ≡ true → finds asked ls ≡ finds (address V24 n always) ls
    unfolding finds
    as_asked z = sym (left_out (formed n (is n structured)) asked (rw z))

    as_vacant : is_empty n ls ≡ true → finds (vacant n) ls ≡ finds asked ls
    as_vacant z =
        ap (λ (rs : List Rule). finds rs ls) (seven n) ∙ left_out (empty n always) _ (rw z)
        ∙ sym (closed (n + 1) name_most _ _ (closed (n + 2) street_most _ _ (closed (n + 3) house_number_most _ _ (closed (n + 4) postcode_most _ _ (closed (n + 5) town_most _ _ (once_empty (n + 6) _ [] (λ y. left_out (formed (n + 6) (has (n + 6) country)) [] (rw y))))))))

    -- what is asked of the last three lines of type K
    abbrev told : List Rule
    told =
        empty (n + 4) always ∷ at_most postcode_most (n + 4)
        ∷ empty (n + 5) always ∷ at_most town_most (n + 5)
        ∷ filled (n + 6) always ∷ formed (n + 6) (has (n + 6) country)
        ∷ []

    as_told : finds (country_alone n) ls ≡ finds told ls
    as_told = sym (closed (n + 4) postcode_most _ _ (closed (n + 5) town_most _ _ refl))

    module _ (absent : When) where
      -- whether it is absent decides it
      pub by_absence : (e : Edition) (b : Bool) → absent ls ≡ b → finds (address e n (λ (ls : List Bytes). b)) ls ≡ finds (address e n absent) ls
      unfolding finds
      by_absence e b a = rw a

    -- of type S
    pub there : finds (addressee n ++ locality n) ls ≡ finds (address V24 n never) ls
    unfolding finds
    there = refl

    gone_in_24 : is_empty n ls ≡ true → finds (vacant n) ls ≡ finds (address V24 n (is_empty n)) ls
    gone_in_24 z = as_vacant z ∙ as_asked z ∙ by_absence (is_empty n) V24 true z

    module _ (e : Edition) where
      -- where it is not of type K, the editions ask the same
      pub alike : (absent : When) → is_combined e n ls ≡ false → finds (address V24 n absent) ls ≡ finds (address e n absent) ls
      unfolding finds
      alike absent = by_cases e
        where
          by_cases : (e : Edition) → is_combined e n ls ≡ false → finds (address V24 n absent) ls ≡ finds (address e n absent) ls
          by_cases V22 k = rw k
          by_cases V24 k = refl

      -- what 2.4 takes is not of type K
      pub not_of_K : finds (address V24 n never) ls ≡ Ok tt → is_combined e n ls ≡ false
      unfolding numbered
      not_of_K h = by_cases e (not_combined (line n ls) (found_none _ _ (each_none (map (about_lines ls) (address V24 n never)) (found_nothing ls (address V24 n never) refl h) 1)))
        where
          by_cases : (e : Edition) → is n combined ls ≡ false → is_combined e n ls ≡ false
          by_cases V22 k = k
          by_cases V24 k = refl

      -- the type K is no empty line
      filled_by_K : is_combined e n ls ≡ true → is_empty n ls ≡ false
      filled_by_K = by_cases e
        where
          by_cases : (e : Edition) → is_combined e n ls ≡ true → is_empty n ls ≡ false
          by_cases V22 k = ap no_text (same_is (line n ls) (ascii combined) k)
          by_cases V24 k = absurd (false≢true k)

      -- that may be absent, and is; or is there
      pub gone : is_empty n ls ≡ true → finds (vacant n) ls ≡ finds (address e n (is_empty n)) ls
      gone z = gone_in_24 z ∙ alike (is_empty n) (not_K (is_combined e n ls) refl)
        where
          not_K : (b : Bool) → is_combined e n ls ≡ b → is_combined e n ls ≡ false
          not_K true k = absurd (false≢true (sym (filled_by_K k) ∙ z))
          not_K false k = k

      combined_asked : is_combined e n ls ≡ true → finds (address_lines n ++ told) ls ≡ finds (address e n never) ls
      unfolding finds
      combined_asked k = let full = filled_by_K k in rw (k, full)

      -- of type K, or else of type S: what the code asks, rule by rule, is what is asked of an address

      pub as_K : is_combined e n ls ≡ true → finds (address_lines n ++ country_alone n) ls ≡ finds (address e n never) ls
      as_K k = same_behind (address_lines n) (country_alone n) told as_told ∙ combined_asked k

      as_S : is_combined e n ls ≡ false → finds (addressee n ++ locality n) ls ≡ finds (address e n never) ls
      as_S k = there ∙ alike never k

      -- what type S's rules take is no address of type K
      pub kept_as_S : finds (addressee n ++ locality n) ls ≡ Ok tt → finds (address e n never) ls ≡ Ok tt
      kept_as_S h = sym (as_S (not_of_K (sym there ∙ h))) ∙ h

      pub present : is_empty n ls ≡ false → finds (address e n never) ls ≡ finds (address e n (is_empty n)) ls
      present h = by_absence (is_empty n) e false h
