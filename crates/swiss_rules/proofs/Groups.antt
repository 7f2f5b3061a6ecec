-- A list of rules, group after group: a group looks at no other lines than those that it takes; and what the first groups say of the account. Assumes nothing.
use Prim.Native.Nat.{ℕ, ◌<◌}
use native.Mathlib.Omega.{arith}
use mathlib.Core.Bool.{Bool, true, false, ◌&&◌, not, true≢false}
use mathlib.Core.List.{List, [], ◌∷◌, ◌++◌, map, flatten}
use mathlib.Core.Path.{◌≡◌, refl}
use lib.Dec.{eqb}
use lib.ListN.{length, get_or, get_or-eq_default}
use borrow.Author.Tests.{ne_eqb}
use Rattle.std.specs.Prelude.{Ok}
use Rattle.sieve.specs.Bytes.{Bytes}
use Rattle.sieve.specs.Characters.{characters}
use Rattle.sieve.specs.Rules.{line, is_empty, has, no_text, never}
use Rattle.sieve.specs.Verdict.{about_lines}
use Rattle.sieve.proofs.Findings.{found_none, each_none}
use Rattle.swiss.specs.declared.Edition.{Edition}
use Rattle.swiss.specs.Forms.{iban}
use Rattle.swiss.specs.Swiss.{header, account, address, reserved, payment, reference, information, procedures, pairing, together, rules}
use Rattle.findings.specs.Findings.{and_then, finds, from}
use Rattle.findings.proofs.FirstFault.{numbered, finds_append, found_nothing}
use Rattle.swiss_address.specs.Addresses.{empty_from, vacant}
use Rattle.swiss_rules.specs.Parts.{front, middle, back}

module _ (ls : List Bytes) where
  abbrev l : ℕ → Bytes
  l n = line n ls

  pub of_header : finds header ls ≡ finds header (l 1 ∷ l 2 ∷ l 3 ∷ [])
  unfolding finds
  of_header = refl

  pub of_account : finds account ls ≡ finds account (from 4 (l 4 ∷ []))
  unfolding finds
  of_account = refl

  pub of_payment : finds payment ls ≡ finds payment (from 19 (l 19 ∷ l 20 ∷ []))
  unfolding finds
  of_payment = refl

  pub of_reference : finds reference ls ≡ finds reference (from 28 (l 28 ∷ l 29 ∷ []))
  unfolding finds
  of_reference = refl

  pub of_information : finds information ls ≡ finds information (from 30 (l 30 ∷ l 31 ∷ l 32 ∷ []))
  unfolding finds
  of_information = refl

  of_vacant : finds reserved ls ≡ finds (vacant 12) ls
  unfolding empty_from
  of_vacant = refl

  module _ (e : Edition) where
    pub of_front : finds (front e) ls ≡ and_then (finds header (l 1 ∷ l 2 ∷ l 3 ∷ [])) (and_then (finds account (from 4 (l 4 ∷ []))) (finds (address e 5 never) ls))
    unfolding front flatten
    of_front = rw (finds_append ls header (account ++ address e 5 never), finds_append ls account (address e 5 never), of_header, of_account)

    pub of_middle : finds (middle e) ls ≡ and_then (finds (vacant 12) ls) (and_then (finds payment (from 19 (l 19 ∷ l 20 ∷ []))) (finds (address e 21 (is_empty 21)) ls))
    unfolding middle flatten
    of_middle = rw (finds_append ls reserved (payment ++ address e 21 (is_empty 21)), finds_append ls payment (address e 21 (is_empty 21)), of_vacant, of_payment)

    pub of_back : finds (back e) ls ≡ and_then (finds reference (from 28 (l 28 ∷ l 29 ∷ []))) (and_then (finds information (from 30 (l 30 ∷ l 31 ∷ l 32 ∷ []))) (and_then (finds procedures ls) (finds (pairing e ∷ together ∷ []) ls)))
    unfolding back flatten
    of_back = rw (finds_append ls reference (information ++ procedures ++ (pairing e ∷ together ∷ [])), finds_append ls information (procedures ++ (pairing e ∷ together ∷ [])), finds_append ls procedures (pairing e ∷ together ∷ []), of_reference, of_information)

    pub of_all : finds (rules e) ls ≡ and_then (finds (front e) ls) (and_then (finds (middle e) ls) (finds (back e) ls))
    unfolding rules front middle back flatten
    of_all = rw (finds_append ls (front e) (middle e ++ back e), finds_append ls (middle e) (back e))

    -- where the first lines break no rule, the account is an IBAN
    pub account_formed : finds (front e) ls ≡ Ok tt → has 4 iban ls ≡ true
    unfolding front flatten numbered
    account_formed h =
        let kept = each_none (map (about_lines ls) (front e)) (found_nothing ls (front e) refl h) in
        by_cases (no_text (l 4)) (iban (l 4)) (found_none _ _ (kept 3)) (found_none _ _ (kept 4))
      where
        by_cases : (empty formed : Bool) → true && empty ≡ false → not empty && not formed ≡ false → formed ≡ true
        by_cases true b e f = absurd (true≢false e)
        by_cases false true e f = refl
        by_cases false false e f = absurd (true≢false f)

  -- a bill of fewer than 33 lines breaks no rule about lines 33 and 34
  pub no_procedures : length ls < 33 → finds procedures ls ≡ Ok tt
  unfolding finds characters
  no_procedures h =
      let line-33 : get_or ls 32 [] ≡ [] = get_or-eq_default ls [] {n = 32} (omega arith) in
      let line-34 : get_or ls 33 [] ≡ [] = get_or-eq_default ls [] {n = 33} (omega arith) in
      let not-33 : eqb (length ls) 33 ≡ false = ne_eqb (length ls) 33 (λ e. omega arith) in
      let not-34 : eqb (length ls) 34 ≡ false = ne_eqb (length ls) 34 (λ e. omega arith) in
      rw (line-33, line-34, not-33, not-34) refl
