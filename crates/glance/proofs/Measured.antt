-- What the code says of line 4, by the 21 bytes behind the fixed lines and by what ends a line, is what `look` says. Assumes nothing.
use Prim.Native.Nat.{ℕ, suc, ◌+◌, ◌<◌}
use native.Mathlib.Omega.{arith}
use mathlib.Core.Bool.{Bool, true, false, false≢true, cond, ◌&&◌, not}
use mathlib.Core.List.{List, [], ◌∷◌, map}
use mathlib.Core.Logic.{◌≢◌}
use mathlib.Core.Option.{Option, some, none}
use mathlib.Core.Path.{◌≡◌, refl, sym, ap, ◌∙◌}
use lib.Dec.{eqb, ltb}
use lib.ListN.{length, get_or, take, drop, length-take, length-drop}
use borrow.Author.Tests.{eqb-true, eqb-false, ne_eqb}
use Rattle.std.specs.Prelude.{Result, Ok, Err, ⊤, is_ok}
use Rattle.sieve.specs.declared.Fault.{Fault}
use Rattle.sieve.specs.Bytes.{Bytes}
use Rattle.sieve.specs.Lines.{Next, cut, breaks_of}
use Rattle.sieve.specs.Places.{Placed}
use Rattle.sieve.specs.Paper.{paper_fault}
use Rattle.sieve.specs.Verdict.{Refusal, about_lines, first}
use Rattle.swiss.specs.Swiss.{account}
use Rattle.swiss.proofs.Forms.{iban_length_lem}
use Rattle.lines.specs.LinesIn.{lines_from, lines_at}
use Rattle.lines.proofs.FirstLine.{first_line, first_in_front}
use Rattle.lines.proofs.LinesLie.{absent}
use Rattle.findings.specs.Findings.{finds, from}
use Rattle.findings.proofs.FirstFault.{numbered, found_nothing, found_fault}
use Rattle.std.specs.Prelude.{None}
use Rattle.glance.specs.FixedLines.{ends_with}
use Rattle.glance.specs.Glance.{unless_found, known, account_as}
use Rattle.glance.proofs.Begun.{look_from}
use Rattle.glance.proofs.Ending.{iban_clean, clean_line, goes_on}
use Rattle.glance.proofs.Kept.{is_iban}

-- the place of the first line
its_place : (at : ℕ) (l : Bytes) (ns : List Next) (d : Placed) → account_as (some (get_or (lines_from at l ns) 0 d)) ≡ known at (length l)
unfolding lines_from
its_place at l [] d = refl
its_place at l (n ∷ ns) d = refl

-- Ok says that nothing is found
nothing : (l : Bytes) (f : Result ⊤ Fault) → f ≡ finds account (from 4 (l ∷ [])) → is_ok f ≡ true → first (map (about_lines (from 4 (l ∷ []))) account) ≡ none
unfolding numbered
nothing l (Ok u) is h = found_nothing (from 4 (l ∷ [])) account refl (sym is)
nothing l (Err f) is h = absurd (false≢true h)

module _ (s : Bytes) (at : ℕ) (more : Bool) where
  abbrev fourth : Bytes
  fourth = (cut (drop at s)).first

  abbrev found : Option Refusal
  found = first (map (about_lines (from 4 (fourth ∷ []))) account)

  abbrev whole : ℕ
  whole = suc (suc (suc (length (breaks_of (cut (drop at s)))))) + cond more 0 1

  -- a line 4 of another length is no IBAN
  other_length : length fourth ≢ 21 → look_from at s more ≡ none
  other_length h = by_cases (eqb at 0) found refl (ltb whole 4)
    where
      by_cases : (z : Bool) (o : Option Refusal) → found ≡ o → (w : Bool) → cond z none (unless_found w o (get_or (lines_at s at) 0 (absent s))) ≡ none
      by_cases true o e w = refl
      by_cases false none e w = absurd (h (iban_length_lem fourth (is_iban (from 4 (fourth ∷ [])) e)))
      by_cases false (some r) e true = refl
      by_cases false (some r) e false = refl

  -- nor are fewer bytes
  pub too_short : length s < at + 21 → look_from at s more ≡ none
  too_short h =
      let t = drop at s in
      other_length (λ e. omega (arith, h, e, ap length (first_in_front (first_line t)), length-take (length fourth) t, length-drop at s))

  -- else both say the same of the 21 bytes: where line 4 has as many, they are line 4; where not, they are no IBAN or are not ended
  pub answer : (f : Result ⊤ Fault) (ended : Bool) → f ≡ finds account (from 4 (take 21 (drop at s) ∷ [])) → ended ≡ ends_with (drop 21 (drop at s)) more → at ≢ 0
      → cond (is_ok f && ended) (known at 21) None ≡ account_as (look_from at s more)
  unfolding numbered
  answer f ended of-bytes ends starts = by_length (eqb (length fourth) 21) refl
    where
      -- an IBAN that is ended is line 4, so another length lets the code say nothing
      not_both : length fourth ≢ 21 → (a b : Bool) → is_ok f ≡ a → ended ≡ b → cond (a && b) (known at 21) None ≡ None
      not_both h false b e g = refl
      not_both h true false e g = refl
      not_both h true true e g =
          let bytes = take 21 (drop at s) in
          let right = is_iban (from 4 (bytes ∷ [])) (nothing bytes f of-bytes e) in
          absurd (h (ap length (clean_line more 21 (drop at s) (iban_clean bytes right) (sym ends ∙ g)) ∙ iban_length_lem bytes right))

      unknown : (w : Bool) (r : Refusal) (p : Placed) → None ≡ account_as (unless_found w (some r) p)
      unknown true r p = refl
      unknown false r p = refl

      by_found : length fourth ≡ 21 → (g : Result ⊤ Fault) → g ≡ finds account (from 4 (fourth ∷ [])) → (e : Bool) → cond (is_ok g && e) (known at 21) None ≡ account_as (unless_found (not e) found (get_or (lines_at s at) 0 (absent s)))
      by_found n (Ok u) is true = rw (found_nothing (from 4 (fourth ∷ [])) account refl (sym is)) (ap (known at) (sym n) ∙ sym (its_place at fourth (cut (drop at s)).rest (absent s)))
      by_found n (Ok u) is false = refl
      by_found n (Err g) is b = rw (found_fault (from 4 (fourth ∷ [])) account refl (sym is)) (unknown (not b) (paper_fault g) (get_or (lines_at s at) 0 (absent s)))

      by_length : (b : Bool) → eqb (length fourth) 21 ≡ b → cond (is_ok f && ended) (known at 21) None ≡ account_as (look_from at s more)
      by_length false e = let n = eqb-false (length fourth) 21 e in not_both n (is_ok f) ended refl refl ∙ sym (ap account_as (other_length n))
      by_length true e =
          let n = eqb-true (length fourth) 21 e in
          let front : take 21 (drop at s) ≡ fourth = ap (λ (i : ℕ). take i (drop at s)) (sym n) ∙ first_in_front (first_line (drop at s)) in
          let on : ltb whole 4 ≡ not ended = goes_on more (drop at s) ∙ rw (n, ← ends) in
          rw (ne_eqb at 0 starts, on) (by_found n f (rw front at of-bytes) ended)
