-- The rules of the Swiss bill around line 4 and line 29: what they find first in lines of which that one is another. Assumes nothing.
use Prim.Native.Nat.{ℕ, zero, suc, ◌≤◌}
use native.Mathlib.Omega.{arith}
use mathlib.Core.Bool.{Bool, true, false, cond, ◌&&◌, ◌||◌, not, and-false, false≢true}
use mathlib.Core.List.Memᴰ
use mathlib.Core.List.{List, [], ◌∷◌, ◌++◌, map, flatten, map-append, Memᴰ}
use mathlib.Core.Option.{Option, some, none}
use mathlib.Core.Path.{◌≡◌, refl, sym, ap, ap₂, subst, ◌∙◌}
use lib.ListN.{length, get_or, set, take, drop}
use lib.Seq.{get_or-set_same, get_or-set_other}
use borrow.Author.Tests.{ne_eqb}
use Rattle.sieve.specs.Bytes.{Bytes, ascii, same}
use Rattle.sieve.specs.Rules.{Rule, When, line, no_text, is_empty, is, has, always}
use Rattle.sieve.specs.Kinds.{empty, filled, formed, checked}
use Rattle.sieve.specs.Mod97.{checks97}
use Rattle.sieve.specs.Mod10.{checks10}
use Rattle.sieve.specs.Verdict.{Refusal, under, found, about_lines, first}
use Rattle.sieve.proofs.Bounds.{same_is}
use Rattle.sieve.proofs.Firsts.{first_append, passed, stopped}
use Rattle.sieve.proofs.Findings.{Unbroken, none_broken}
use Rattle.swiss.specs.Limits.{qr_reference, creditor_reference, no_reference}
use Rattle.swiss.specs.Forms.{iban, qrr, scor}
use Rattle.swiss.specs.declared.Edition.TheVariants.{V24}
use Rattle.swiss.specs.Swiss.{rules, under28, paired, pairing, together}
use Rattle.worth.specs.Worth.{passes_qrr, passes_iban}

-- what rules find first in lines
abbrev finds : List Rule → List Bytes → Option Refusal
finds rs ls = first (map (about_lines ls) rs)

-- which of them are broken
abbrev broken_by : List Rule → List Bytes → List Bool
broken_by rs ls = map (λ r. r.broken ls) rs

-- rules that are broken alike find alike
same_findings : (rs : List Rule) (ls ms : List Bytes) → broken_by rs ls ≡ broken_by rs ms → map (about_lines ls) rs ≡ map (about_lines ms) rs
same_findings [] ls ms e = refl
same_findings (r ∷ rs) ls ms e =
    let h : r.broken ls ≡ r.broken ms = cc in
    let t : broken_by rs ls ≡ broken_by rs ms = cc in
    ap₂ (λ (b : Bool) (os : List (Option Refusal)). found b (under r.number r.line) ∷ os) h (same_findings rs ls ms t)

alike : (rs : List Rule) (ls ms : List Bytes) → broken_by rs ls ≡ broken_by rs ms → finds rs ls ≡ finds rs ms
alike rs ls ms e = ap first (same_findings rs ls ms e)

-- rules that find nothing are passed
past : (front rest : List Rule) (ls : List Bytes) → finds front ls ≡ none → finds (front ++ rest) ls ≡ finds rest ls
past front rest ls e = passed (map (about_lines ls) rest) (ap first (map-append (about_lines ls) front rest) ∙ sym (first_append (map (about_lines ls) front) (map (about_lines ls) rest))) e

-- a rule that is kept, and one that is broken
kept : (r : Rule) (rest : List Rule) (ls : List Bytes) → r.broken ls ≡ false → finds (r ∷ rest) ls ≡ finds rest ls
kept r rest ls e = passed (map (about_lines ls) rest) refl (rw e)

broken : (r : Rule) (rest : List Rule) (ls : List Bytes) → r.broken ls ≡ true → finds (r ∷ rest) ls ≡ some (under r.number r.line)
broken r rest ls e = stopped (map (about_lines ls) rest) refl (rw e)

-- a rule on form and one on check digits, one after the other, and rules behind them that find nothing if both are kept
form_then_check : (n : ℕ) (form check : When) (rest : List Rule) (ls : List Bytes) (a b : Bool) → (formed n form).broken ls ≡ not a → (checked n check).broken ls ≡ not b
    → ((a && b) ≡ true → finds rest ls ≡ none)
    → finds (formed n form ∷ checked n check ∷ rest) ls ≡ cond (a && b) none (some (under (cond a 11 10) n))
form_then_check n form check rest ls true true e g h = kept (formed n form) (checked n check ∷ rest) ls e ∙ kept (checked n check) rest ls g ∙ h refl
form_then_check n form check rest ls true false e g h = kept (formed n form) (checked n check ∷ rest) ls e ∙ broken (checked n check) rest ls g
form_then_check n form check rest ls false b e g h = broken (formed n form) (checked n check ∷ rest) ls e

-- a list with its first n told apart
abbrev shown : ℕ → List Bytes → List Bytes
shown zero ls = ls
shown (suc n) ls = get_or ls 0 [] ∷ shown n (drop 1 ls)

shown_is : (n : ℕ) (ls : List Bytes) → n ≤ length ls → shown n ls ≡ ls
shown_is zero ls h = refl
shown_is (suc n) [] h = absurd (omega arith)
shown_is (suc n) (l ∷ ls) h = ap (λ (t : List Bytes). l ∷ t) (shown_is n ls (omega arith))

-- the rules of line 4 and line 29, and those around them

abbrev rules1to3 : List Rule
rules1to3 = take 3 (rules V24)

abbrev rules5to34 : List Rule
rules5to34 = take 63 (drop 6 (rules V24))

abbrev rules1to28 : List Rule
rules1to28 = take 57 (rules V24)

abbrev rules_from30 : List Rule
rules_from30 = drop 61 (rules V24)

abbrev filled4 : Rule
filled4 = filled 4 always

abbrev empty29 : Rule
empty29 = empty 29 (is 28 no_reference)

abbrev filled29 : Rule
filled29 = filled 29 (λ ls. is 28 qr_reference ls || is 28 creditor_reference ls)

abbrev from4 : List Rule
from4 = filled4 ∷ formed 4 (has 4 iban) ∷ checked 4 (has 4 checks97) ∷ (rules5to34 ++ (pairing V24 ∷ together ∷ []))

abbrev from29 : List Rule
from29 = empty29 ∷ filled29 ∷ formed 29 (under28 qrr scor) ∷ checked 29 (under28 checks10 checks97) ∷ rules_from30

around_4 : rules V24 ≡ rules1to3 ++ from4
unfolding rules flatten
around_4 = refl

around_29 : rules V24 ≡ rules1to28 ++ from29
unfolding rules flatten
around_29 = refl

in_from4 : {r : Rule} → Memᴰ r from4 → Memᴰ r (rules V24)
in_from4 m = rw around_4 (Memᴰ.append_right rules1to3 m)

in_from29 : {r : Rule} → Memᴰ r from29 → Memᴰ r (rules V24)
in_from29 m = rw around_29 (Memᴰ.append_right rules1to28 m)

-- behind the rules of that line
past_4 : {r : Rule} → Memᴰ r (rules5to34 ++ (pairing V24 ∷ together ∷ [])) → Memᴰ r (rules V24)
past_4 m = in_from4 (Memᴰ.tail (Memᴰ.tail (Memᴰ.tail m)))

past_29 : {r : Rule} → Memᴰ r rules_from30 → Memᴰ r (rules V24)
past_29 m = in_from29 (Memᴰ.tail (Memᴰ.tail (Memᴰ.tail (Memᴰ.tail m))))

-- the others do not look at that line, save the pairing at line 4
module _ (ls : List Bytes) (t : Bytes) where
  before_4 : broken_by rules1to3 (set (shown 4 ls) 3 t) ≡ broken_by rules1to3 (shown 4 ls)
  unfolding rules flatten
  before_4 = refl

  behind_4 : broken_by rules5to34 (set (shown 4 ls) 3 t) ≡ broken_by rules5to34 (shown 4 ls)
  unfolding rules flatten
  behind_4 = refl

  last_4 : broken_by (together ∷ []) (set (shown 4 ls) 3 t) ≡ broken_by (together ∷ []) (shown 4 ls)
  last_4 = refl

  before_29 : broken_by rules1to28 (set (shown 29 ls) 28 t) ≡ broken_by rules1to28 (shown 29 ls)
  unfolding rules flatten
  before_29 = refl

  behind_29 : broken_by rules_from30 (set (shown 29 ls) 28 t) ≡ broken_by rules_from30 (shown 29 ls)
  unfolding rules flatten
  behind_29 = refl

-- which the pairing asks for its IID alone
paired_alike : (a b c d k j : Bytes) → take 5 (drop 4 a) ≡ take 5 (drop 4 b) → c ≡ d → k ≡ j → paired V24 a c k ≡ paired V24 b d j
paired_alike a b c d k j e f g = rw (e, f, g)

-- a line that must not be empty and breaks neither rule 10 nor rule 11
both_kept : (e f c : Bool) → e ≡ false → (not e && not f) ≡ false → not c ≡ false → (f && c) ≡ true
both_kept true f c a b d = absurd (false≢true (sym a))
both_kept false true true a b d = refl
both_kept false true false a b d = absurd (false≢true (sym d))
both_kept false false c a b d = absurd (false≢true (sym b))

-- lines that break no rule have an IBAN that passes, and so it is with a QR reference
module _ (ls : List Bytes) (u : Unbroken (rules V24) ls) where
  pub kept_4 : passes_iban (line 4 ls) ≡ true
  kept_4 =
      both_kept (is_empty 4 ls) (iban (line 4 ls)) (checks97 (line 4 ls))
      (u filled4 (in_from4 (Memᴰ.head refl)))
      (u (formed 4 (has 4 iban)) (in_from4 (Memᴰ.tail (Memᴰ.head refl))))
      (u (checked 4 (has 4 checks97)) (in_from4 (Memᴰ.tail (Memᴰ.tail (Memᴰ.head refl)))))

  pub kept_29 : is 28 qr_reference ls ≡ true → passes_qrr (line 29 ls) ≡ true
  kept_29 q =
      both_kept (is_empty 29 ls) (qrr (line 29 ls)) (checks10 (line 29 ls))
      (rw q at (u filled29 (in_from29 (Memᴰ.tail (Memᴰ.head refl)))))
      (rw q at (u (formed 29 (under28 qrr scor)) (in_from29 (Memᴰ.tail (Memᴰ.tail (Memᴰ.head refl))))))
      (rw q at (u (checked 29 (under28 checks10 checks97)) (in_from29 (Memᴰ.tail (Memᴰ.tail (Memᴰ.tail (Memᴰ.head refl)))))))

module _ (ls : List Bytes) (enough : 31 ≤ length ls) (u : Unbroken (rules V24) ls) (t : Bytes) (some-text : 1 ≤ length t) where
  front_none : (front rest : List Rule) → rules V24 ≡ front ++ rest → finds front ls ≡ none
  front_none front rest e = none_broken front ls (λ r m. u r (rw e (Memᴰ.append_left rest m)))

  not_empty : no_text t ≡ false
  not_empty = ne_eqb (length t) 0 (λ z. omega arith)

  -- rules that are broken alike by lines whose first are told apart, and by these with another as line i + 1, find alike
  other_alike : (n i : ℕ) (rs : List Rule) → n ≤ length ls → broken_by rs (set (shown n ls) i t) ≡ broken_by rs (shown n ls) → finds rs (set ls i t) ≡ finds rs ls
  other_alike n i rs h e = alike rs (set ls i t) ls (subst (λ (m : List Bytes). broken_by rs (set m i t) ≡ broken_by rs m) (shown_is n ls h) e)

  -- another text as line 4

  line_4 : line 4 (set ls 3 t) ≡ t
  line_4 = get_or-set_same ls 3 t [] (omega arith)

  pub other_4 : (passes_iban t ≡ true → take 5 (drop 4 t) ≡ take 5 (drop 4 (line 4 ls))) → finds (rules V24) (set ls 3 t) ≡ cond (passes_iban t) none (some (under (cond (iban t) 11 10) 4))
  other_4 iid =
      let before : finds rules1to3 (set ls 3 t) ≡ none = other_alike 4 3 rules1to3 (omega arith) (before_4 ls t) ∙ front_none rules1to3 from4 around_4 in
      let some-4 : filled4.broken (set ls 3 t) ≡ false = ap no_text line_4 ∙ not_empty in
      let form : (formed 4 (has 4 iban)).broken (set ls 3 t) ≡ not (iban t) =
      ap (λ (l : Bytes). not (no_text l) && not (iban l)) line_4 ∙ ap (λ (b : Bool). not b && not (iban t)) not_empty in
      let check : (checked 4 (has 4 checks97)).broken (set ls 3 t) ≡ not (checks97 t) = ap (λ (l : Bytes). not (checks97 l)) line_4 in
      ap (λ (rs : List Rule). finds rs (set ls 3 t)) around_4
      ∙ past rules1to3 from4 (set ls 3 t) before
      ∙ kept filled4 (formed 4 (has 4 iban) ∷ checked 4 (has 4 checks97) ∷ (rules5to34 ++ (pairing V24 ∷ together ∷ []))) (set ls 3 t) some-4
      ∙ form_then_check 4 (has 4 iban) (has 4 checks97) (rules5to34 ++ (pairing V24 ∷ together ∷ [])) (set ls 3 t) (iban t) (checks97 t) form check (λ p. behind (iid p))
    where
      behind : take 5 (drop 4 t) ≡ take 5 (drop 4 (line 4 ls)) → finds (rules5to34 ++ (pairing V24 ∷ together ∷ [])) (set ls 3 t) ≡ none
      behind e =
          let others : finds rules5to34 (set ls 3 t) ≡ none =
          other_alike 4 3 rules5to34 (omega arith) (behind_4 ls t) ∙ none_broken rules5to34 ls (λ r m. u r (past_4 (Memᴰ.append_left (pairing V24 ∷ together ∷ []) m))) in
          let pairs : (pairing V24).broken (set ls 3 t) ≡ false =
          ap not (paired_alike (line 4 (set ls 3 t)) (line 4 ls) _ _ _ _ (ap (λ (l : Bytes). take 5 (drop 4 l)) line_4 ∙ e) (get_or-set_other ls 3 19 t [] (λ z. omega arith)) (get_or-set_other ls 3 27 t [] (λ z. omega arith)))
          ∙ u (pairing V24) (past_4 (Memᴰ.append_right rules5to34 (Memᴰ.head refl))) in
          let ends : finds (together ∷ []) (set ls 3 t) ≡ none =
          other_alike 4 3 (together ∷ []) (omega arith) (last_4 ls t) ∙ none_broken (together ∷ []) ls (λ r m. u r (past_4 (Memᴰ.append_right rules5to34 (Memᴰ.tail m)))) in
          past rules5to34 (pairing V24 ∷ together ∷ []) (set ls 3 t) others ∙ kept (pairing V24) (together ∷ []) (set ls 3 t) pairs ∙ ends

  -- another text as line 29, where line 28 says that it is a QR reference

  line_29 : line 29 (set ls 28 t) ≡ t
  line_29 = get_or-set_same ls 28 t [] (omega arith)

  pub other_29 : is 28 qr_reference ls ≡ true → finds (rules V24) (set ls 28 t) ≡ cond (passes_qrr t) none (some (under (cond (qrr t) 11 10) 29))
  other_29 q =
      let line-28 : line 28 (set ls 28 t) ≡ ascii qr_reference = get_or-set_other ls 28 27 t [] (λ z. omega arith) ∙ same_is (line 28 ls) (ascii qr_reference) q in
      let before : finds rules1to28 (set ls 28 t) ≡ none = other_alike 29 28 rules1to28 (omega arith) (before_29 ls t) ∙ front_none rules1to28 from29 around_29 in
      let not_none : empty29.broken (set ls 28 t) ≡ false = ap (λ (l : Bytes). same l (ascii no_reference) && not (is_empty 29 (set ls 28 t))) line-28 in
      let some-29 : filled29.broken (set ls 28 t) ≡ false =
      ap (λ (l : Bytes). (is 28 qr_reference (set ls 28 t) || is 28 creditor_reference (set ls 28 t)) && no_text l) line_29
      ∙ ap (λ (b : Bool). (is 28 qr_reference (set ls 28 t) || is 28 creditor_reference (set ls 28 t)) && b) not_empty
      ∙ and-false (is 28 qr_reference (set ls 28 t) || is 28 creditor_reference (set ls 28 t)) in
      let form : (formed 29 (under28 qrr scor)).broken (set ls 28 t) ≡ not (qrr t) =
      ap (λ (l : Bytes). not (is_empty 29 (set ls 28 t)) && not (cond (same l (ascii qr_reference)) (has 29 qrr (set ls 28 t)) (cond (same l (ascii creditor_reference)) (has 29 scor (set ls 28 t)) true))) line-28
      ∙ ap (λ (l : Bytes). not (no_text l) && not (qrr l)) line_29 ∙ ap (λ (b : Bool). not b && not (qrr t)) not_empty in
      let check : (checked 29 (under28 checks10 checks97)).broken (set ls 28 t) ≡ not (checks10 t) =
      ap (λ (l : Bytes). not (cond (same l (ascii qr_reference)) (has 29 checks10 (set ls 28 t)) (cond (same l (ascii creditor_reference)) (has 29 checks97 (set ls 28 t)) true))) line-28
      ∙ ap (λ (l : Bytes). not (checks10 l)) line_29 in
      let behind : finds rules_from30 (set ls 28 t) ≡ none =
      other_alike 29 28 rules_from30 (omega arith) (behind_29 ls t)
      ∙ none_broken rules_from30 ls (λ r m. u r (past_29 m)) in
      ap (λ (rs : List Rule). finds rs (set ls 28 t)) around_29
      ∙ past rules1to28 from29 (set ls 28 t) before
      ∙ kept empty29 (filled29 ∷ formed 29 (under28 qrr scor) ∷ checked 29 (under28 checks10 checks97) ∷ rules_from30) (set ls 28 t) not_none
      ∙ kept filled29 (formed 29 (under28 qrr scor) ∷ checked 29 (under28 checks10 checks97) ∷ rules_from30) (set ls 28 t) some-29
      ∙ form_then_check 29 (under28 qrr scor) (under28 checks10 checks97) rules_from30 (set ls 28 t) (qrr t) (checks10 t) form check (λ p. behind)
