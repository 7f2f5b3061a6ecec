-- The walk: it passes a run of characters and breaks, finds no bad place exactly where each line is text, and stops at the first bad place. Assumes nothing.
use Prim.Native.Nat.{ℕ, zero, suc, ◌+◌, ◌<◌}
use native.Mathlib.Nat.{suc-ne-zero, add-zero}
use native.Mathlib.Omega.{arith}
use mathlib.Core.List.Memᴰ
use mathlib.Core.List.{List, [], ◌∷◌, ◌++◌, map, append-nil, append_assoc, cons≢nil, Memᴰ}
use mathlib.Core.Logic.{◌⊎◌, inl, inr, ◌≢◌}
use mathlib.Core.Option.{Option, some, none, none-ne-some}
use mathlib.Core.Path.{◌≡◌, refl, sym, ◌∙◌, ap}
use lib.ListN.{length, length-append}
use Rattle.sieve.specs.declared.Break.{Break}
use Rattle.sieve.specs.declared.Break.TheVariants.{Lf, CrLf}
use Rattle.sieve.specs.Bytes.{Bytes}
use Rattle.sieve.specs.Lines.{Next, Cut, cut, glued_after, break_bytes, after_breaks, joined, lines_of}
use Rattle.sieve.specs.Characters.{Width, Text, none_left, character, break_width, passes, walk, bad_place}
use Rattle.sieve.specs.Lawful.{Unbroken, Clean, no_more, one_more, Lawful}
use Rattle.sieve.specs.Breaks.{Passed, none_passed, one_passed}
use Rattle.sieve.proofs.Heads.{Head, lf, crlf, other, head}
use Rattle.sieve.proofs.Cutting.{glued_cut, cut_other, Each}
use Rattle.sieve.proofs.Widths.{Stop, at_end, at_break, ends, passes_break, passes_character, passes_other}

-- passing a run

over : (w : Width) (c s : Bytes) (i : ℕ) → walk w (length c) (c ++ s) i ≡ walk w 0 s (i + length c)
unfolding walk
over w [] s i = rw add-zero
over w (x ∷ c) s i = over w c s (suc i) ∙ ap (walk w 0 s) (omega arith)

pub walk_passed : {w : Width} {s a : Bytes} → Passed w s a → (i : ℕ) → walk w 0 (a ++ s) i ≡ walk w 0 s (i + length a)
unfolding walk
walk_passed none_passed i = rw add-zero
walk_passed (one_passed [] a n g e r) i = absurd (suc-ne-zero n (sym g))
walk_passed {w} {s} (one_passed (x ∷ c) a n g e r) i =
    rw (append_assoc c a s, e ∙ sym g, walk)
    (rw (append_assoc c a s) (over w c (a ++ s) (suc i)) ∙ walk_passed r (suc i + length c) ∙ ap (walk w 0 s) (omega (arith, length-append c a)))

passed_append : {w : Width} {s b a : Bytes} → Passed w (b ++ s) a → Passed w s b → Passed w s (a ++ b)
passed_append none_passed q = q
passed_append {w} {s} {b = b} (one_passed c a n g e p) q = rw (append_assoc c a b) (one_passed c (a ++ b) n g (rw (append_assoc a b s) e) (passed_append p q))

-- k bytes more of a character, and then text
data Rest (w : Width) : ℕ → Bytes → Type 0 where
  rest : (c t : Bytes) → Text w t → Rest w (length c) (c ++ t)

onto : {w : Width} {k : ℕ} {l : Bytes} (x : ℕ) → Rest w k l → Rest w (suc k) (x ∷ l)
onto x (rest c t h) = rest (x ∷ c) t h

begun : {w : Width} {k : ℕ} {l : Bytes} (x : ℕ) → w (x ∷ l) ≡ suc k → Rest w k l → Text w (x ∷ l)
begun x e (rest c t h) = character (x ∷ c) t _ refl e h

ended : {w : Width} {k : ℕ} {l : Bytes} → Rest w k l → k ≡ 0 → Text w l
ended (rest [] t h) e = h
ended (rest (x ∷ c) t h) e = absurd (suc-ne-zero _ e)

record Reads (w : Width) (k : ℕ) (c : Cut) : Type 0 where
  first : Rest w k c.first
  others : Each (Text w) (map (λ n. n.line) c.rest)

pub each : {P : Bytes → Type 0} {l : Bytes} {ls : List Bytes} → P l → Each P ls → Each P (l ∷ ls)
each {P} {l} {ls} h hs m i = by_cases (Memᴰ.cases_cons i)
  where
    by_cases : (m ≡ l) ⊎ Memᴰ m ls → P m
    by_cases (inl e) = rw e h
    by_cases (inr i) = hs m i

module _ (w : Width) (L : Lawful w) where
  -- the lines of a bill are passed

  text_passed : {l r : Bytes} → Stop r → Text w l → Passed w r l
  text_passed s none_left = none_passed
  text_passed {r = r} s (character c t n g e h) =
      one_passed c t n g (passes_character w _ n (sym (ap w (append_assoc c t r)) ∙ ends w L (c ++ t) s ∙ e)) (text_passed s h)

  break_passed : (k : Break) (s : Bytes) → Passed w s (break_bytes k)
  break_passed Lf s = one_passed (break_bytes Lf) [] 0 refl (passes_break w L Lf s) none_passed
  break_passed CrLf s = one_passed (break_bytes CrLf) [] 1 refl (passes_break w L CrLf s) none_passed

  line_passed : (k : Break) (l : Bytes) (ls : List Bytes) → Text w l → Passed w [] (after_breaks k ls) → Passed w [] (l ++ after_breaks k ls)
  line_passed k l ls t p = passed_append (text_passed (rw append-nil (stop ls)) t) p
    where
      stop : (ls : List Bytes) → Stop (after_breaks k ls)
      stop [] = at_end
      stop (l ∷ ls) = at_break k (l ++ after_breaks k ls)

  lines_passed : (k : Break) (ls : List Bytes) → Each (Text w) ls → Passed w [] (after_breaks k ls)
  lines_passed k [] h = none_passed
  lines_passed k (l ∷ ls) h =
      passed_append (break_passed k _) (line_passed k l ls (h l (Memᴰ.head refl)) (lines_passed k ls (λ l m. h l (Memᴰ.tail m))))

  pub no_bad_place : (k : Break) (ls : List Bytes) → Each (Text w) ls → bad_place w (joined k ls) ≡ none
  unfolding bad_place walk
  no_bad_place k [] h = refl
  no_bad_place k (l ∷ ls) h = rw append-nil at (walk_passed (line_passed k l ls (h l (Memᴰ.head refl)) (lines_passed k ls (λ l m. h l (Memᴰ.tail m)))) 0)

  -- and what has no bad place is lines of text

  width_first : (p : Bytes) → w (cut p).first ≡ w p
  width_first p = sym (along (cut p).first (cut p).rest) ∙ ap w (glued_cut p)
    where
      along : (l : Bytes) (ns : List Next) → w (l ++ glued_after ns) ≡ w l
      along l [] = ends w L l at_end
      along l (n ∷ ns) = ends w L l (at_break n.break (n.line ++ glued_after ns))

  -- what is known of the bytes after the first
  Known : Bytes → Type 0
  Known s = (k i : ℕ) → Unbroken k s → walk w k s i ≡ none → Reads w k (cut s)

  reads_break : {x : ℕ} {s : Bytes} (i : ℕ) → Head x s → Known s → passes w (x ∷ s) ≡ break_width (x ∷ s) → walk w 0 (x ∷ s) i ≡ none → Reads w 0 (cut (x ∷ s))
  unfolding walk cut Known break_width
  reads_break i lf ih e h =
      let r = ih 0 (suc i) no_more (rw (e, walk) at h) in
      record { first = rest [] [] none_left; others = each (ended r.first refl) r.others }
  reads_break i (crlf {s}) ih e h =
      let g : walk w 0 (10 ∷ s) (suc i) ≡ none = rw (passes_break w L Lf s, walk) (rw (e, walk) at h) in
      record { first = rest [] [] none_left; others = (ih 0 (suc i) no_more g).others }
  reads_break i (other f g) ih e h = absurd (none-ne-some _ (sym (rw (e, f, g, walk) at h)))

  reads_character : {x n : ℕ} {s : Bytes} (i : ℕ) → Unbroken (suc n) (x ∷ s) → Known s → w (x ∷ s) ≡ suc n → walk w 0 (x ∷ s) i ≡ none → Reads w 0 (cut (x ∷ s))
  unfolding walk Known
  reads_character {x} {n} {s} i (one_more a b p) ih e h =
      let r = ih n (suc i) p (rw (passes_character w (x ∷ s) n e, walk) at h) in
      let f : w (x ∷ (cut s).first) ≡ suc n = (rw (cut_other s a b) at (width_first (x ∷ s))) ∙ e in
      rw (cut_other s a b) (record { first = rest [] _ (begun x f r.first); others = r.others })

  reads : (s : Bytes) → Known s
  unfolding cut walk Known
  reads [] zero i p h = record { first = rest [] [] none_left; others = λ l m. absurd (Memᴰ.not-nil m) }
  reads [] (suc k) i p h = elim p [ ]
  reads (x ∷ s) (suc k) i (one_more a b p) h =
      let r = reads s k (suc i) p h in
      rw (cut_other s a b) (record { first = onto x r.first; others = r.others })
  reads (x ∷ s) zero i p h = along (w (x ∷ s)) refl (reads s)
    where
      along : (n : ℕ) → w (x ∷ s) ≡ n → Known s → Reads w 0 (cut (x ∷ s))
      along zero e ih = reads_break i (head x s) ih (passes_other w (x ∷ s) e) h
      along (suc n) e ih = reads_character i (rw e at (L.unbroken (x ∷ s))) ih e h

  pub texts : (p : Bytes) → bad_place w p ≡ none → Each (Text w) (lines_of (cut p))
  unfolding bad_place Known
  texts p h = let r = reads p 0 0 no_more h in each (ended r.first refl) r.others

  -- a line of text holds no LF and no CR
  pub text_clean : {l : Bytes} → Text w l → Clean l
  text_clean none_left = no_more
  text_clean (character c s n g e t) = along c s (rw (e ∙ sym g) at (L.unbroken (c ++ s))) (text_clean t)
    where
      along : (c s : Bytes) → Unbroken (length c) (c ++ s) → Clean s → Clean (c ++ s)
      along [] s p q = q
      along (x ∷ c) s (one_more a b p) q = one_more a b (along c s p q)

-- the walk from place i stops at place j: after `skipped` comes a run of characters and breaks, and then what begins neither
pub record Stopped (w : Width) (skip : ℕ) (s : Bytes) (i j : ℕ) : Type 0 where
  pub skipped : Bytes
  pub run : Bytes
  pub bad : Bytes
  pub skips : length skipped ≡ skip
  pub whole : skipped ++ (run ++ bad) ≡ s
  pub passed : Passed w bad run
  pub more : bad ≢ []
  pub begins_none : passes w bad ≡ 0
  pub place : i + (length skipped + length run) ≡ j

pub stops : (w : Width) (skip : ℕ) (s : Bytes) (i j : ℕ) → walk w skip s i ≡ some j → Stopped w skip s i j
unfolding walk
stops w zero [] i j h = absurd (none-ne-some j h)
stops w (suc k) [] i j h = absurd (none-ne-some j h)
stops w (suc k) (x ∷ s) i j h =
    let r = stops w k s (suc i) j h in
    record {
      skipped = x ∷ r.skipped;
      run = r.run;
      bad = r.bad;
      skips = ap suc r.skips;
      whole = ap (λ (t : Bytes). x ∷ t) r.whole;
      passed = r.passed;
      more = r.more;
      begins_none = r.begins_none;
      place = omega (arith, r.place);
    }
stops w zero (x ∷ s) i j h = along (passes w (x ∷ s)) refl (λ n. stops w n s (suc i) j)
  where
    along : (n : ℕ) → passes w (x ∷ s) ≡ n → ((n : ℕ) → walk w n s (suc i) ≡ some j → Stopped w n s (suc i) j) → Stopped w 0 (x ∷ s) i j
    along zero e ih =
        let f : ◌≡◌ {A = Option ℕ} (some i) (some j) = rw (e, walk) at h in
        record { skipped = []; run = []; bad = x ∷ s; skips = refl; whole = refl; passed = none_passed; more = cons≢nil; begins_none = e; place = add-zero i ∙ cc }
    along (suc n) e ih =
        let r = ih n (rw (e, walk) at h) in
        record {
          skipped = [];
          run = (x ∷ r.skipped) ++ r.run;
          bad = r.bad;
          skips = refl;
          whole = ap (λ (t : Bytes). x ∷ t) (append_assoc r.skipped r.run r.bad ∙ r.whole);
          passed = one_passed (x ∷ r.skipped) r.run n (ap suc r.skips) (rw r.whole e) r.passed;
          more = r.more;
          begins_none = r.begins_none;
          place = omega (arith, r.place, length-append r.skipped r.run);
        }

pub some_bytes : (s : Bytes) → s ≢ [] → 0 < length s
some_bytes [] h = absurd (h refl)
some_bytes (x ∷ s) h = omega arith

pub walk_stops : (w : Width) (s : Bytes) (i : ℕ) → s ≢ [] → passes w s ≡ 0 → walk w 0 s i ≡ some i
unfolding walk
walk_stops w [] i h e = absurd (h refl)
walk_stops w (x ∷ s) i h e = rw (e, walk)

-- it stops inside
pub bad_within : (w : Width) (p : Bytes) (at : ℕ) → bad_place w p ≡ some at → at < length p
unfolding bad_place
bad_within w p at h =
    let s = stops w 0 p 0 at h in
    omega (arith, s.place, ap length s.whole, length-append s.skipped (s.run ++ s.bad), length-append s.run s.bad, some_bytes s.bad s.more)
