-- A refusal under 3 points at a byte: of a payload at the first place where neither a character nor a break begins; of lines to be written also at a CR or LF that one of them holds. Assumes nothing.
use Prim.Native.Nat.{ℕ, zero, suc, ◌+◌, ◌-◌, ◌≤◌, ◌<◌}
use native.Mathlib.Nat.{suc-ne-zero, zero-add}
use native.Mathlib.Omega.{arith}
use mathlib.Core.Bool.{Bool, true, not}
use mathlib.Core.List.Memᴰ
use mathlib.Core.List.{List, [], ◌∷◌, ◌++◌, append_assoc}
use mathlib.Core.Logic.{◌≢◌, inl, inr}
use mathlib.Core.Option.{Option, some, none, map, none-ne-some, some-injective}
use mathlib.Core.Path.{◌≡◌, refl, sym, ap, subst, ◌∙◌}
use lib.Dec.{ltb}
use lib.ListN.{length, get_or, take, drop, length-append}
use lib.Seq.{take_at, drop_at}
use Rattle.sieve.specs.declared.Break.{Break}
use Rattle.sieve.specs.Bytes.{Bytes, within, first_such}
use Rattle.sieve.specs.Lines.{break_bytes, of_break, after_breaks, joined, cut, lines_of}
use Rattle.sieve.specs.Characters.{Width, break_width, passes, line_feeds}
use Rattle.sieve.specs.Rules.{Layout}
use Rattle.sieve.specs.Verdict.{Refusal, under, under_at, found, refused, findings, first, verdict}
use Rattle.sieve.specs.Breaks.{Passed, Breaks, no_bytes, too_many_bytes, bad_character, mixed_breaks, too_few_lines, too_many_lines, a_line_rule}
use Rattle.sieve.specs.Paper.{not_laid}
use Rattle.sieve.specs.Lawful.{Clean}
use Rattle.sieve.specs.Places.{placed, list_size, inner_of}
use Rattle.sieve.specs.Pointing.{BeginsNeither, before_breaks, HoldsBreak, PointsInto}
use Rattle.sieve.specs.Writing.{outside, spans, handed, stray_break, write_findings, laid_onto, write_answer}
use Rattle.sieve.proofs.Measuring.{mismeasured_found}
use Rattle.sieve.proofs.Earliest.{refused_earliest}
use Rattle.sieve.proofs.Findings.{found_some, first_at, such_at, such_none, verdict_is}
use Rattle.sieve.proofs.Cutting.{Each}
use Rattle.sieve.proofs.Strays.{clean_bytes}
use Rattle.sieve.proofs.Walking.{some_bytes, each}
use Rattle.sieve.proofs.Widths.{passes_character, passes_other}

-- the reader's

neither : (w : Width) (s : Bytes) → passes w s ≡ 0 → (w s ≡ 0) × (break_width s ≡ 0)
neither w s h = along (w s) refl
  where
    along : (n : ℕ) → w s ≡ n → (w s ≡ 0) × (break_width s ≡ 0)
    along zero e = (e, sym (passes_other w s e) ∙ h)
    along (suc n) e = absurd (suc-ne-zero n (sym (passes_character w s n e) ∙ h))

after_a_run : (w : Width) (a s : Bytes) → Passed w s a → s ≢ [] → passes w s ≡ 0 → BeginsNeither w (a ++ s) (1 + line_feeds a) (length a)
after_a_run w a s q m b =
    let (no_character, no_break) = neither w s b in
    let front : take (length a) (a ++ s) ≡ a = take_at a s (length a) refl in
    let rest : drop (length a) (a ++ s) ≡ s = drop_at a s (length a) refl in
    record {
      inside = omega (arith, length-append a s, some_bytes s m);
      before = rw (front, rest) q;
      no_character = rw rest no_character;
      no_break = rw rest no_break;
      line = rw front;
    }

module _ (L : Layout) (p : Bytes) (i at : ℕ) where
  breaks_points : {j : ℕ} {r : Refusal} → Breaks L p j r → r ≡ under_at 3 i at → BeginsNeither (L.width (lines_of (cut p))) p i at
  breaks_points (no_bytes e) h = absurd (none-ne-some at (ap (λ (r : Refusal). r.place) h))
  breaks_points (too_many_bytes e) h = absurd (none-ne-some at (ap (λ (r : Refusal). r.place) h))
  breaks_points (bad_character a s e q m b) h =
      let w = L.width (lines_of (cut p)) in
      let line : 1 + line_feeds a ≡ i = ap (λ (r : Refusal). r.line) h in
      let place : length a ≡ at = some-injective _ _ (ap (λ (r : Refusal). r.place) h) in
      rw (← line, ← place) (subst (λ (t : Bytes). BeginsNeither w t (1 + line_feeds a) (length a)) e (after_a_run w a s q m b))
  breaks_points (mixed_breaks ks js j e f u) h = absurd (none-ne-some at (ap (λ (r : Refusal). r.place) h))
  breaks_points (too_few_lines e) h = absurd (none-ne-some at (ap (λ (r : Refusal). r.place) h))
  breaks_points (too_many_lines e) h = absurd (none-ne-some at (ap (λ (r : Refusal). r.place) h))
  breaks_points (a_line_rule j q g t) h = absurd (none-ne-some at (ap (λ (r : Refusal). r.place) h))

  pub verdict_points : verdict L p ≡ refused (under_at 3 i at) → BeginsNeither (L.width (lines_of (cut p))) p i at
  verdict_points h = breaks_points (refused_earliest L p (under_at 3 i at) h).breaks refl

-- the writer's

at_end : (u v : Bytes) (x n : ℕ) → length u ≡ n → get_or (u ++ (x ∷ v)) n 0 ≡ x
at_end [] v x n h = rw (← h)
at_end (y ∷ u) v x zero h = absurd (suc-ne-zero _ h)
at_end (y ∷ u) v x (suc n) h = at_end u v x n (omega (arith, h))

front_of : (j : ℕ) (s u v : Bytes) → s ≡ u ++ v → j ≡ length u → take j s ≡ u
front_of j s u v e h = rw (e, h) (take_at u v (length u) refl)

-- a stray break in lines that come behind `front`, the first of them being line i
record Holds (k : Break) (front : Bytes) (ls : List Bytes) (i : ℕ) (r : Refusal) : Type 0 where
  at : ℕ
  before : List Bytes
  line : Bytes
  after : List Bytes
  is : r ≡ under_at 3 (i + length before) at
  inside : at < length (front ++ joined k ls)
  byte : of_break (get_or (front ++ joined k ls) at 0) ≡ true
  lines : ls ≡ before ++ (line ∷ after)
  from : length front + length (before_breaks k before) ≤ at
  to : at < length front + length (before_breaks k before) + length line
  first_line : Each Clean before
  first_byte : Clean (take (at - (length front + length (before_breaks k before))) line)

held_here : (k : Break) (l : Bytes) (ls : List Bytes) (front : Bytes) (i n at : ℕ) → length front ≡ n → first_such of_break n l ≡ some at → Holds k front (l ∷ ls) i (under_at 3 i at)
held_here k l ls front i n at size e =
    let s = such_at of_break n l at e in
    let rest = after_breaks k ls in
    let split : front ++ (l ++ rest) ≡ (front ++ s.before) ++ (s.such ∷ (s.after ++ rest)) = ap (λ (t : Bytes). front ++ (t ++ rest)) s.whole ∙ simp append_assoc in
    let deep : length (front ++ s.before) ≡ at = omega (arith, size, s.place, length-append front s.before) in
    let steps : at - (length front + 0) ≡ length s.before = omega (arith, size, s.place) in
    let own : take (at - (length front + 0)) l ≡ s.before = front_of _ l s.before (s.such ∷ s.after) s.whole steps in
    let short : at < n + length l = omega (arith, s.place, ap length s.whole, length-append s.before (s.such ∷ s.after)) in
    record {
      at = at;
      before = [];
      line = l;
      after = ls;
      is = ap (λ (j : ℕ). under_at 3 j at) (omega arith);
      inside = omega (arith, short, size, length-append front (l ++ rest), length-append l rest);
      byte = rw (split, at_end (front ++ s.before) (s.after ++ rest) s.such at deep) s.passes;
      lines = refl;
      from = omega (arith, size, s.place);
      to = omega (arith, size, short);
      first_line = λ t m. absurd (Memᴰ.not-nil m);
      first_byte = rw own (clean_bytes s.before s.none_before);
    }

-- what the lines behind the first one hold, with that one before them
held_further : (k : Break) (l m : Bytes) (ls : List Bytes) (front : Bytes) (i : ℕ) (r : Refusal) → Clean l → Holds k (front ++ (l ++ break_bytes k)) (m ∷ ls) (suc i) r → Holds k front (l ∷ m ∷ ls) i r
held_further k l m ls front i r clean h =
    let same : (front ++ (l ++ break_bytes k)) ++ joined k (m ∷ ls) ≡ front ++ joined k (l ∷ m ∷ ls) = simp append_assoc in
    let a = length-append front (l ++ break_bytes k) in
    let b = length-append l (break_bytes k) in
    let c = length-append l (break_bytes k ++ before_breaks k h.before) in
    let d = length-append (break_bytes k) (before_breaks k h.before) in
    let start : length (front ++ (l ++ break_bytes k)) + length (before_breaks k h.before) ≡ length front + length (l ++ (break_bytes k ++ before_breaks k h.before)) = omega arith in
    record {
      at = h.at;
      before = l ∷ h.before;
      line = h.line;
      after = h.after;
      is = h.is ∙ ap (λ (j : ℕ). under_at 3 j h.at) (omega arith);
      inside = rw same at h.inside;
      byte = rw same at h.byte;
      lines = ap (λ (t : List Bytes). l ∷ t) h.lines;
      from = omega (arith, h.from);
      to = omega (arith, h.to);
      first_line = each clean h.first_line;
      first_byte = rw start at h.first_byte;
    }

holds : (k : Break) (ls : List Bytes) (front : Bytes) (i n : ℕ) (r : Refusal) → length front ≡ n → stray_break i (placed n k ls) ≡ some r → Holds k front ls i r
unfolding stray_break placed
holds k [] front i n r size h = absurd (none-ne-some r h)
holds k (l ∷ []) front i n r size h = by_cases (first_such of_break n l) refl
  where
    by_cases : (o : Option ℕ) → first_such of_break n l ≡ o → Holds k front (l ∷ []) i r
    by_cases (some at) e = rw (← some-injective _ _ (rw (e, stray_break) at h)) (held_here k l [] front i n at size e)
    by_cases none e = absurd (none-ne-some r (rw (e, stray_break) at h))
holds k (l ∷ m ∷ ls) front i n r size h =
    by_cases (first_such of_break n l) refl
    (holds k (m ∷ ls) (front ++ (l ++ break_bytes k)) (suc i) (n + length l + length (break_bytes k)) r (omega (arith, size, length-append front (l ++ break_bytes k), length-append l (break_bytes k))))
  where
    by_cases : (o : Option ℕ) → first_such of_break n l ≡ o → (stray_break (suc i) (placed (n + length l + length (break_bytes k)) k (m ∷ ls)) ≡ some r → Holds k (front ++ (l ++ break_bytes k)) (m ∷ ls) (suc i) r) → Holds k front (l ∷ m ∷ ls) i r
    by_cases (some at) e ih = rw (← some-injective _ _ (rw (e, stray_break) at h)) (held_here k l (m ∷ ls) front i n at size e)
    by_cases none e ih = held_further k l m ls front i r (clean_bytes l (such_none of_break n l e)) (ih (rw (e, stray_break) at h))

pub stray_points : (k : Break) (ls : List Bytes) (i at : ℕ) → stray_break 1 (placed 0 k ls) ≡ some (under_at 3 i at) → HoldsBreak k ls i at
stray_points k ls i at h =
    let s = holds k ls [] 1 0 (under_at 3 i at) refl h in
    let same : s.at ≡ at = some-injective _ _ (sym (ap (λ (r : Refusal). r.place) s.is)) in
    let number : i ≡ 1 + length s.before = ap (λ (r : Refusal). r.line) s.is in
    record {
      inside = rw same at s.inside;
      byte = rw same at s.byte;
      before = s.before;
      line = s.line;
      after = s.after;
      lines = s.lines;
      number = omega (arith, number);
      from = omega (arith, same, s.from);
      to = omega (arith, same, s.to);
      first_line = s.first_line;
      first_byte = rw (same, zero-add) at s.first_byte;
    }

not_laid_finds : {r : Refusal} (bytes dest : Bytes) (o : Option Refusal) → (laid_onto bytes dest o).answer ≡ not_laid r → o ≡ some r
not_laid_finds bytes dest none h = let z : ◌≡◌ {A = ℕ} 0 1 = cc in absurd (omega arith)
not_laid_finds bytes dest (some q) h = cc

module _ (L : Layout) (text : Bytes) (list : List ℕ) (count : ℕ) (k : Break) (dest : Bytes) (i at : ℕ) where
  abbrev ls : List Bytes
  ls = handed text (inner_of L count list) count

  abbrev bytes : Bytes
  bytes = joined k ls

  abbrev Points : Type 0
  Points = PointsInto L k ls i at

  no_place : (b : Bool) (q j : ℕ) → found b (under q j) ≡ some (under_at 3 i at) → Points
  no_place b q j h = let (_, e) = found_some b _ _ h in absurd (none-ne-some at (ap (λ (r : Refusal). r.place) e))

  outside_points : (o : Option ℕ) → map (under 14) o ≡ some (under_at 3 i at) → Points
  outside_points none h = absurd (none-ne-some _ h)
  outside_points (some j) h = absurd (none-ne-some at (ap (λ (r : Refusal). r.place) (some-injective _ _ h)))

  reader_points : first (findings L bytes) ≡ some (under_at 3 i at) → ((q : Refusal) → stray_break 1 (placed 0 k ls) ≡ some q → Points) → Points
  reader_points h before = by_cases (stray_break 1 (placed 0 k ls)) refl
    where
      by_cases : (o : Option Refusal) → stray_break 1 (placed 0 k ls) ≡ o → Points
      by_cases (some q) e = before q e
      by_cases none e = inr (e, verdict_points L bytes i at (verdict_is L bytes ∙ rw h))

  found_points : (j : ℕ) → get_or (write_findings L text list count k (length dest)) j none ≡ some (under_at 3 i at)
      → ((m : ℕ) (q : Refusal) → get_or (write_findings L text list count k (length dest)) m none ≡ some q → j ≤ m) → Points
  unfolding write_findings
  found_points zero h before = no_place (ltb (length list) (list_size L)) 15 0 h
  found_points (suc zero) h before = no_place (not (within L.fewest_lines L.most_lines count)) 5 count h
  found_points (suc (suc zero)) h before = outside_points (first_such (outside (length text)) 1 (spans count (inner_of L count list))) h
  found_points (suc (suc (suc zero))) h before =
      let (j, s, _) = mismeasured_found L.measures 1 list ls _ h in
      absurd (none-ne-some at (sym (ap (λ (r : Refusal). r.place) s)))
  found_points (suc (suc (suc (suc zero)))) h before = inl (stray_points k ls i at h)
  found_points (suc (suc (suc (suc (suc zero))))) h before = reader_points h (λ q e. absurd (omega (arith, before 4 q e)))
  found_points (suc (suc (suc (suc (suc (suc zero)))))) h before = no_place (ltb (length dest) (length bytes)) 15 0 h
  found_points (suc (suc (suc (suc (suc (suc (suc j))))))) h before = absurd (none-ne-some _ h)

  pub writer_points : (write_answer L text list count k dest).answer ≡ not_laid (under_at 3 i at) → PointsInto L k ls i at
  unfolding write_answer
  writer_points h =
      let f = first_at (write_findings L text list count k (length dest)) (under_at 3 i at) (not_laid_finds bytes dest _ h) in
      found_points f.at f.is f.before_all

  -- either way the place lies in the joined bytes
  pub in_joined : PointsInto L k ls i at → at < length bytes
  in_joined (inl h) = h.inside
  in_joined (inr (_, b)) = b.inside
