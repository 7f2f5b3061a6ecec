-- What edition 2.4 accepts, 2.2 accepts, with the same lines, break and places; what 2.4 refuses, 2.2 refuses alike, save for type K and QRR with EUR. Assumes nothing.
use Prim.Native.Nat.{ℕ}
use native.Mathlib.Omega.{arith}
use mathlib.Core.Bool.{Bool, true, false, cond, ◌&&◌, not, true≢false, and-false}
use mathlib.Core.List.{List, [], ◌∷◌, ◌++◌, map, map-append, flatten}
use mathlib.Core.Option.{Option, some, none}
use mathlib.Core.Path.{◌≡◌, refl, sym, ap, ◌∙◌}
use lib.Dec.{eqb-suc-zero, lit≤}
use lib.ListN.{length, take}
use Rattle.sieve.specs.declared.Break.{Break}
use Rattle.sieve.specs.Bytes.{Bytes, ascii, same}
use Rattle.sieve.specs.Lines.{Bill, cut, lines_of, bill_of, written, joined}
use Rattle.sieve.specs.Paper.{laid}
use Rattle.sieve.specs.Places.{places_of, list_size, inner_of}
use Rattle.sieve.specs.Reading.{no_room_refusal, read_onto, read_answer}
use Rattle.sieve.specs.Writing.{handed, write_findings, laid_onto, write_answer}
use Rattle.sieve.specs.Rules.{Rule, When, line, no_text, is_empty, is, never}
use Rattle.sieve.specs.Verdict.{Refusal, under, accepted, refused, about_lines, findings, first, decided, verdict}
use Rattle.sieve.specs.Keeps.{Keeps}
use Rattle.sieve.proofs.Accepts.{read_back}
use Rattle.sieve.proofs.Bounds.{same_is}
use Rattle.sieve.proofs.DemandThree.{accepted_keeps}
use Rattle.sieve.proofs.Findings.{each_none, settled_accepts, settled_refuses, verdict_is}
use Rattle.sieve.proofs.Latin.{lawful}
use Rattle.swiss.specs.declared.Edition.TheVariants.{V22, V24}
use Rattle.swiss.specs.Forms.{qr_iban}
use Rattle.swiss.specs.Limits.{structured, combined, qr_reference, francs}
use Rattle.swiss.specs.Differing.{may_differ}
use Rattle.swiss.specs.Swiss.{header, account, address, reserved, payment, reference, information, procedures, pairing, together, rules, swiss_in, swiss}
use Rattle.swiss.proofs.DemandThree.{edition_demand_three}

-- a line that is empty or S is not K
pub not_combined : (l : Bytes) → (not (no_text l) && not (same l (ascii structured))) ≡ false → same l (ascii combined) ≡ false
not_combined [] h = refl
not_combined (x ∷ l) h = by_cases (same (x ∷ l) (ascii structured)) refl (rw (eqb-suc-zero (length l)) at h)
  where
    by_cases : (b : Bool) → same (x ∷ l) (ascii structured) ≡ b → not b ≡ false → same (x ∷ l) (ascii combined) ≡ false
    by_cases true e h = ap (λ (s : Bytes). same s (ascii combined)) (same_is (x ∷ l) (ascii structured) e)
    by_cases false e h = absurd (true≢false h)

-- something is found, and 2.2 may say something else of it
abbrev differing : Option Refusal → Bool
differing none = false
differing (some r) = may_differ r

-- what is found first, or else what comes behind
abbrev or_else : Option Refusal → Option Refusal → Option Refusal
or_else none q = q
or_else (some r) q = some r

first_behind : (os ps : List (Option Refusal)) → first (os ++ ps) ≡ or_else (first os) (first ps)
unfolding first
first_behind [] ps = refl
first_behind (none ∷ os) ps = first_behind os ps
first_behind (some r ∷ os) ps = refl

-- what agrees, with what agrees behind it
agree_behind : (a b c d : Option Refusal) → (differing a ≡ false → c ≡ a) → (differing b ≡ false → d ≡ b) → differing (or_else a b) ≡ false → or_else c d ≡ or_else a b
agree_behind none b c d f g h = rw (f refl) (g h)
agree_behind (some r) b c d f g h = rw (f h)

module _ (ls : List Bytes) where
  -- what a group of rules finds
  abbrev finding : List Rule → Option Refusal
  finding rs = first (map (about_lines ls) rs)

  -- another group finds what one finds, unless that is where 2.2 may differ
  record Agrees (rs ss : List Rule) : Type 0 where
    agree : differing (finding rs) ≡ false → finding ss ≡ finding rs

  same_rules : (rs : List Rule) → Agrees rs rs
  same_rules rs = record { agree = λ h. refl }

  finding_behind : (gs rs : List Rule) → finding (gs ++ rs) ≡ or_else (finding gs) (finding rs)
  finding_behind gs rs = ap first (map-append (about_lines ls) gs rs) ∙ first_behind (map (about_lines ls) gs) (map (about_lines ls) rs)

  -- group behind group
  behind : {gs hs rs ss : List Rule} → Agrees gs hs → Agrees rs ss → Agrees (gs ++ rs) (hs ++ ss)
  behind {gs} {hs} {rs} {ss} f g =
      record {
        agree = λ h.
            rw (finding_behind gs rs, finding_behind hs ss)
            (agree_behind (finding gs) (finding rs) (finding hs) (finding ss) f.agree g.agree (rw (finding_behind gs rs) at h));
      }

  -- type K breaks 10 on the first line under 2.4; any other address is judged alike
  address_agrees : (n : ℕ) (absent : When) → may_differ (under 10 n) ≡ true → Agrees (address V24 n absent) (address V22 n absent)
  unfolding first
  address_agrees n absent m = record { agree = by_cases (is n combined ls) refl }
    where
      by_cases : (b : Bool) → is n combined ls ≡ b → differing (finding (address V24 n absent)) ≡ false → finding (address V22 n absent) ≡ finding (address V24 n absent)
      by_cases true k h = absurd (true≢false (sym m ∙ rw (same_is (line n ls) (ascii combined) k, and-false (not (absent ls))) at h))
      by_cases false k h = rw k

  -- QRR with CHF is QRR with either currency
  paired_follows : (qrr qr-iban in_francs : Bool) → not (cond qrr (qr-iban && in_francs) (not qr-iban)) ≡ false → not (cond qrr (qr-iban && true) (not qr-iban)) ≡ false
  paired_follows true true c h = refl
  paired_follows true false c h = h
  paired_follows false b c h = h

  pairing_agrees : Agrees (pairing V24 ∷ together ∷ []) (pairing V22 ∷ together ∷ [])
  unfolding first
  pairing_agrees = record { agree = by_cases ((pairing V24).broken ls) refl }
    where
      by_cases : (b : Bool) → (pairing V24).broken ls ≡ b → differing (finding (pairing V24 ∷ together ∷ [])) ≡ false → finding (pairing V22 ∷ together ∷ []) ≡ finding (pairing V24 ∷ together ∷ [])
      by_cases true k h = absurd (true≢false (rw k at h))
      by_cases false k h = rw (k, paired_follows (same (line 28 ls) (ascii qr_reference)) (qr_iban (line 4 ls)) (same (line 20 ls) (ascii francs)) k)

  rules_agree : Agrees (rules V24) (rules V22)
  unfolding rules flatten
  rules_agree =
      behind (same_rules (header ++ account))
      (behind (address_agrees 5 never refl)
      (behind (same_rules (reserved ++ payment))
      (behind (address_agrees 21 (is_empty 21) refl)
      (behind (same_rules (reference ++ information ++ procedures))
      pairing_agrees))))

-- what 2.4 finds in a payload, 2.2 finds, unless it may differ there; what is found in the whole payload comes before the lines
agree_in_both : (p : Bytes) → differing (first (findings (swiss_in V24) p)) ≡ false → first (findings (swiss_in V22) p) ≡ first (findings (swiss_in V24) p)
unfolding findings
agree_in_both p h =
    let ls = lines_of (cut p) in
    let whole = take 5 (findings (swiss_in V24) p) in
    let in-24 = first_behind whole (map (about_lines ls) (rules V24)) in
    first_behind whole (map (about_lines ls) (rules V22))
    ∙ agree_behind (first whole) (finding ls (rules V24)) (first whole) (finding ls (rules V22)) (λ e. refl) (rules_agree ls).agree (ap differing (sym in-24) ∙ h)
    ∙ sym in-24

nothing_in_both : (p : Bytes) → first (findings (swiss_in V24) p) ≡ none → first (findings (swiss_in V22) p) ≡ none
nothing_in_both p nothing = agree_in_both p (ap differing nothing) ∙ nothing

-- what 2.4 refuses, 2.2 refuses for the same reason, unless it may differ there
pub refused_in_both : (p : Bytes) (r : Refusal) → verdict swiss p ≡ refused r → may_differ r ≡ false → verdict (swiss_in V22) p ≡ refused r
unfolding swiss
refused_in_both p r h m =
    let refuses = settled_refuses (bill_of p) (first (findings (swiss_in V24) p)) r (sym (verdict_is (swiss_in V24) p) ∙ h) in
    verdict_is (swiss_in V22) p ∙ ap (decided (bill_of p)) (agree_in_both p (ap differing refuses ∙ m) ∙ refuses)

module _ (p : Bytes) (n : ℕ) (k : Break) (h : verdict swiss p ≡ accepted n k) where
  -- what 2.4 accepts, 2.2 accepts, with the same count and break
  pub accepted_in_both : verdict (swiss_in V22) p ≡ accepted n k
  unfolding swiss
  accepted_in_both =
      let settles = sym (verdict_is (swiss_in V24) p) ∙ h in
      let nothing = (settled_accepts (bill_of p) (first (findings (swiss_in V24) p)) settles).0 in
      verdict_is (swiss_in V22) p ∙ ap (decided (bill_of p)) (nothing_in_both p nothing ∙ sym nothing) ∙ settles

  -- and the reader answers the same in both, and leaves the same list
  pub read_in_both : (list : List ℕ) → read_answer (swiss_in V22) p list ≡ read_answer swiss p list
  unfolding swiss read_answer places_of
  read_in_both list = rw (accepted_in_both, h) (by_cases (no_room_refusal (length list) (list_size swiss)))
    where
      by_cases : (o : Option Refusal) → read_onto (swiss_in V22) p list (accepted n k) o ≡ read_onto swiss p list (accepted n k) o
      by_cases none = refl
      by_cases (some r) = refl

-- a bill that keeps 2.4 keeps 2.2
pub keeps_both : (b : Bill) → Keeps swiss b → Keeps (swiss_in V22) b
unfolding swiss
keeps_both b h =
    let back = read_back (swiss_in V24) (λ ls. lawful) (lit≤ tt) b h in
    let accepted-in-24 = (edition_demand_three V24).accepts.complete b h in
    accepted_keeps (swiss_in V22) (λ ls. lawful) (lit≤ tt) b (length b.lines) b.break back (accepted_in_both (written b) _ _ accepted-in-24)

-- what is laid, was laid with nothing found
laid_clean : (bytes dest : Bytes) (o : Option Refusal) (n : ℕ) → (laid_onto bytes dest o).answer ≡ laid n → o ≡ none
laid_clean bytes dest none n h = refl
laid_clean bytes dest (some r) n h = let clash : ◌≡◌ {A = ℕ} 0 1 = cc in absurd (omega arith)

-- what the writer lays under 2.4, it lays under 2.2, and leaves the same destination
pub written_in_both : (text : Bytes) (list : List ℕ) (count : ℕ) (k : Break) (dest : Bytes) (n : ℕ) → (write_answer swiss text list count k dest).answer ≡ laid n → write_answer (swiss_in V22) text list count k dest ≡ write_answer swiss text list count k dest
unfolding swiss write_answer write_findings
written_in_both text list count k dest n h =
    let bytes = joined k (handed text (inner_of swiss count list) count) in
    let clean = laid_clean bytes dest (first (write_findings swiss text list count k (length dest))) n h in
    let nothing : first (findings (swiss_in V24) bytes) ≡ none = each_none (write_findings swiss text list count k (length dest)) clean 5 in
    rw (nothing_in_both bytes nothing, nothing)
