-- The three fixed lines in front of any bytes: line 4 starts behind them; and bytes whose lines 1 to 4 keep their rules begin with them. Assumes nothing.
use Prim.Native.Nat.{ℕ, suc, ◌+◌, ◌≤◌, ◌<◌}
use native.Mathlib.Omega.{arith}
use mathlib.Core.Bool.{Bool, true, false, cond}
use mathlib.Core.List.{List, [], ◌∷◌, ◌++◌, map}
use mathlib.Core.Option.{Option, some, none}
use mathlib.Core.Path.{◌≡◌, refl, sym, ap, ◌∙◌, subst}
use lib.Dec.{eqb, ltb}
use lib.ListN.{length, get_or, drop, length-append}
use Rattle.sieve.specs.declared.Break.{Break}
use Rattle.sieve.specs.declared.Break.TheVariants.{Lf, CrLf}
use Rattle.sieve.specs.Bytes.{Bytes, ascii}
use Rattle.sieve.specs.Lines.{Next, break_bytes, glued_after, cut, lines_of, breaks_of}
use Rattle.sieve.specs.Places.{Placed}
use Rattle.sieve.specs.Verdict.{Refusal, about_lines, first}
use Rattle.sieve.proofs.Cutting.{glued_cut, break_length}
use Rattle.swiss.specs.Limits.{qr_type, version, coding}
use Rattle.swiss.specs.Swiss.{account}
use Rattle.lines.specs.LinesIn.{lines_from, lines_in, line_of, lines_at}
use Rattle.lines.proofs.LinesLie.{absent}
use Rattle.findings.specs.Findings.{from}
use Rattle.glance.specs.FixedLines.{behind_break, gone_past, then_behind, fourth_start}
use Rattle.glance.specs.Glance.{whole_lines, found_in, unless_found, look}
use Rattle.glance.proofs.Fronts.{Front, stands, fails, front}
use Rattle.glance.proofs.Kept.{text_1, text_2, text_3, length_4}

-- bytes behind the first fixed line, behind two, and behind three, each with its own break

abbrev one : Break → Bytes → Bytes
one i t = ascii qr_type ++ (break_bytes i ++ t)

abbrev two : Break → Break → Bytes → Bytes
two i j t = one i (ascii version ++ (break_bytes j ++ t))

abbrev three : Break → Break → Break → Bytes → Bytes
three i j k t = two i j (ascii coding ++ (break_bytes k ++ t))

-- where they go on
abbrev place : Break → Break → Break → ℕ
place i j k = 0 + 3 + length (break_bytes i) + 4 + length (break_bytes j) + 1 + length (break_bytes k)

data Begun : Bytes → ℕ → Type 0 where
  begun : (i j k : Break) (t : Bytes) → Begun (three i j k t) (place i j k)
  otherwise : (s : Bytes) → Begun s 0

third : (i j : Break) {t : Bytes} {r : ℕ} → Front (ascii coding) (0 + 3 + length (break_bytes i) + 4 + length (break_bytes j)) t r → Begun (two i j t) r
third i j (stands k t) = begun i j k t
third i j (fails t) = otherwise (two i j t)

second : (i : Break) {t : Bytes} {r : ℕ} → Front (ascii version) (0 + 3 + length (break_bytes i)) t r → Begun (one i t) (then_behind (one i t) (ascii coding) r)
second i (fails t) = otherwise (one i t)
second Lf (stands Lf t) = third Lf Lf (front (ascii coding) 9 t)
second Lf (stands CrLf t) = third Lf CrLf (front (ascii coding) 10 t)
second CrLf (stands Lf t) = third CrLf Lf (front (ascii coding) 10 t)
second CrLf (stands CrLf t) = third CrLf CrLf (front (ascii coding) 11 t)

begins : (s : Bytes) → Begun s (fourth_start s)
unfolding fourth_start
begins s = by_cases (front (ascii qr_type) 0 s)
  where
    by_cases : {s : Bytes} {r : ℕ} → Front (ascii qr_type) 0 s r → Begun s (then_behind s (ascii coding) (then_behind s (ascii version) r))
    by_cases (fails s) = otherwise s
    by_cases (stands Lf t) = second Lf (front (ascii version) 4 t)
    by_cases (stands CrLf t) = second CrLf (front (ascii version) 5 t)

length_three : (i j k : Break) (t : Bytes) → length (three i j k t) ≡ place i j k + length t
length_three i j k t = omega (arith, length-append (break_bytes i) (ascii version ++ (break_bytes j ++ (ascii coding ++ (break_bytes k ++ t)))), length-append (break_bytes j) (ascii coding ++ (break_bytes k ++ t)), length-append (break_bytes k) t)

-- they go on within the bytes
pub start_within : (s : Bytes) {at : ℕ} → at ≡ fourth_start s → at ≤ length s
start_within s e = rw e (by_cases (begins s))
  where
    by_cases : {s : Bytes} {r : ℕ} → Begun s r → r ≤ length s
    by_cases (begun i j k t) = omega (arith, length_three i j k t)
    by_cases (otherwise s) = omega arith

-- line 4 of bytes that go on at a place with it, unless that is 0: what is left to ask behind the fixed lines
abbrev pub look_from : ℕ → Bytes → Bool → Option Placed
look_from at s more =
    let c = cut (drop at s) in
    cond (eqb at 0) none
    (unless_found (ltb (suc (suc (suc (length (breaks_of c)))) + cond more 0 1) 4) (first (map (about_lines (from 4 (c.first ∷ []))) account)) (get_or (lines_at s at) 0 (absent s)))

-- so it is with each break
behind_three : (i j k : Break) (t : Bytes) (more : Bool) → (fourth_start (three i j k t) ≡ place i j k) × (look (three i j k t) more ≡ look_from (place i j k) (three i j k t) more)
unfolding fourth_start gone_past behind_break look cut first line_of lines_in lines_from
behind_three Lf Lf Lf t more = (refl, refl)
behind_three Lf Lf CrLf t more = (refl, refl)
behind_three Lf CrLf Lf t more = (refl, refl)
behind_three Lf CrLf CrLf t more = (refl, refl)
behind_three CrLf Lf Lf t more = (refl, refl)
behind_three CrLf Lf CrLf t more = (refl, refl)
behind_three CrLf CrLf Lf t more = (refl, refl)
behind_three CrLf CrLf CrLf t more = (refl, refl)

-- where nothing is found in lines 1 to 4, the bytes begin so

record Fixed (s : Bytes) : Type 0 where
  after_1 : Break
  after_2 : Break
  after_3 : Break
  rest : Bytes
  is : s ≡ three after_1 after_2 after_3 rest
  long : 21 ≤ length rest

fixed_lines : (l : Bytes) (ns : List Next) → found_in (l ∷ map (λ n. n.line) ns) ≡ none → Fixed (l ++ glued_after ns)
fixed_lines l [] h = absurd (omega (arith, length_4 (l ∷ []) h))
fixed_lines l (a ∷ []) h = absurd (omega (arith, length_4 (l ∷ a.line ∷ []) h))
fixed_lines l (a ∷ b ∷ []) h = absurd (omega (arith, length_4 (l ∷ a.line ∷ b.line ∷ []) h))
fixed_lines l (a ∷ b ∷ c ∷ ns) h =
    let ls = l ∷ a.line ∷ b.line ∷ c.line ∷ map (λ n. n.line) ns in
    record {
      after_1 = a.break;
      after_2 = b.break;
      after_3 = c.break;
      rest = c.line ++ glued_after ns;
      is = rw (text_1 ls h, text_2 ls h, text_3 ls h);
      long = omega (arith, length_4 ls h, length-append c.line (glued_after ns));
    }

module _ (s : Bytes) (more : Bool) where
  -- so without such a beginning line 4 is not known
  unknown : (Fixed s → ⊥) → look s more ≡ none
  unfolding look
  unknown h = by_cases (ltb (whole_lines s more) 4) (found_in (lines_of (cut s))) refl
    where
      by_cases : (w : Bool) (o : Option Refusal) → found_in (lines_of (cut s)) ≡ o → unless_found w o (line_of s 4) ≡ none
      by_cases true o e = refl
      by_cases false (some r) e = refl
      by_cases false none e = absurd (h (subst Fixed (glued_cut s) (fixed_lines (cut s).first (cut s).rest e)))

  pub short_unknown : length s < 32 → look s more ≡ none
  short_unknown h = unknown (λ f. omega (arith, h, ap length f.is, length_three f.after_1 f.after_2 f.after_3 f.rest, f.long, break_length f.after_1, break_length f.after_2, break_length f.after_3))

pub look_from_lem : (s : Bytes) (more : Bool) {at : ℕ} → at ≡ fourth_start s → look s more ≡ look_from at s more
look_from_lem s more e = rw e (by_cases (begins s) refl)
  where
    by_cases : {s : Bytes} {r : ℕ} → Begun s r → fourth_start s ≡ r → look s more ≡ look_from r s more
    by_cases (begun i j k t) e = (behind_three i j k t more).1
    by_cases (otherwise s) e = unknown s more (λ f. omega (arith, sym e ∙ ap fourth_start f.is ∙ (behind_three f.after_1 f.after_2 f.after_3 f.rest more).0))
