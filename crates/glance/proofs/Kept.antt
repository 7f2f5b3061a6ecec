-- What lines 1 to 4 are where nothing is found in them: three texts of known lengths, and an IBAN. Assumes nothing.
use Prim.Native.Nat.{ℕ, zero, suc}
use mathlib.Core.Bool.{true, false, ◌&&◌, not}
use mathlib.Core.List.{List, [], ◌∷◌, ◌++◌, map}
use mathlib.Core.Option.{Option, some, none, none-ne-some}
use mathlib.Core.Path.{◌≡◌, refl, sym, ap}
use lib.ListN.{length, take}
use borrow.Author.Tests.{not-false}
use Rattle.sieve.specs.Bytes.{Bytes, ascii}
use Rattle.sieve.specs.Mod97.{checks97}
use Rattle.sieve.specs.Rules.{line, no_text}
use Rattle.sieve.specs.Verdict.{Refusal, about_lines, first}
use Rattle.sieve.proofs.Bounds.{same_is}
use Rattle.sieve.proofs.Findings.{found_none, each_none, none_further}
use Rattle.swiss.specs.Forms.{iban}
use Rattle.swiss.specs.Limits.{qr_type, version, coding}
use Rattle.swiss.specs.Swiss.{header, account}
use Rattle.swiss.proofs.Forms.{iban_length_lem}
use Rattle.glance.specs.Glance.{found_in}

-- where nothing is found, nothing is found in the front
pub none_in_front : (os : List (Option Refusal)) (n : ℕ) → first os ≡ none → first (take n os) ≡ none
unfolding first
none_in_front os zero h = refl
none_in_front [] (suc n) h = refl
none_in_front (none ∷ os) (suc n) h = none_in_front os n h
none_in_front (some r ∷ os) (suc n) h = absurd (none-ne-some r (sym h))

-- line 4, by its own rules alone
module _ (ls : List Bytes) (nothing : first (map (about_lines ls) account) ≡ none) where
  filled : no_text (line 4 ls) ≡ false
  filled = found_none _ _ (each_none _ nothing 0)

  pub is_iban : iban (line 4 ls) ≡ true
  is_iban =
      let unbroken : (not (no_text (line 4 ls)) && not (iban (line 4 ls))) ≡ false = found_none _ _ (each_none _ nothing 1) in
      not-false _ (rw filled at unbroken)

module _ (ls : List Bytes) (nothing : found_in ls ≡ none) where
  pub text_1 : line 1 ls ≡ ascii qr_type
  text_1 = same_is (line 1 ls) (ascii qr_type) (not-false _ (found_none _ _ (each_none _ nothing 0)))

  pub text_2 : line 2 ls ≡ ascii version
  text_2 = same_is (line 2 ls) (ascii version) (not-false _ (found_none _ _ (each_none _ nothing 1)))

  pub text_3 : line 3 ls ≡ ascii coding
  text_3 = same_is (line 3 ls) (ascii coding) (not-false _ (found_none _ _ (each_none _ nothing 2)))

  pub iban_4 : iban (line 4 ls) ≡ true
  iban_4 = is_iban ls (none_further (map (about_lines ls) (header ++ account)) 3 nothing)

  pub checks_4 : checks97 (line 4 ls) ≡ true
  checks_4 = not-false _ (found_none _ _ (each_none _ nothing 5))

  pub length_1 : length (line 1 ls) ≡ 3
  length_1 = ap length text_1

  pub length_2 : length (line 2 ls) ≡ 4
  length_2 = ap length text_2

  pub length_3 : length (line 3 ls) ≡ 1
  length_3 = ap length text_3

  pub length_4 : length (line 4 ls) ≡ 21
  length_4 = iban_length_lem (line 4 ls) iban_4
