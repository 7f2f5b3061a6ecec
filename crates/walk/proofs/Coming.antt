-- The walk, a step at a time: the line that it is in, the breaks that it has passed, and the lines that are noted. Assumes nothing.
use Prim.Native.Nat.{ℕ, zero, suc, ◌+◌, ◌-◌, ◌*◌, ◌%◌, ◌^◌, ◌≤◌, ◌<◌}
use native.Mathlib.Nat.{zero-add, add-zero, add_assoc, mod-eq_of_lt}
use native.Mathlib.Omega.{arith}
use mathlib.Core.Bool.{Bool, true, false, cond, ◌&&◌, and-eq-true_iff}
use mathlib.Core.List.{List, ◌∷◌}
use mathlib.Core.Logic.{◌≢◌}
use mathlib.Core.Path.{◌≡◌, refl, sym, ap, ◌∙◌}
use lib.Dec.{eqb, ltb}
use lib.ListN.{length, get_or, drop, set, length-drop, get_or-eq_default}
use lib.Seq.{drop-drop, get_or-drop}
use borrow.Author.Tests.{eqb-true, eqb-false, ltb-true, ltb-false, ne_eqb, le-ltb}
use Rattle.sieve.specs.declared.Break.{Break}
use Rattle.sieve.specs.declared.Break.TheVariants.{Lf, CrLf}
use Rattle.sieve.specs.declared.Charset.{Charset}
use Rattle.sieve.specs.declared.Charset.TheVariants.{Latin, Iso8859}
use Rattle.sieve.specs.Bytes.{Bytes}
use Rattle.sieve.specs.Lines.{break_bytes, cut, breaks_of}
use Rattle.sieve.specs.Characters.{break_width, bad_place, line_feeds}
use Rattle.sieve.specs.Lawful.{Unbroken, no_more, one_more}
use Rattle.sieve.specs.Places.{entries, walk_lines, walk_numbers}
use Rattle.sieve.specs.Latin.{in_one, latin}
use Rattle.sieve.specs.Charsets.{of_set}
use Rattle.sieve.proofs.Widths.{width_break, passes_other}
use Rattle.sieve.proofs.Charsets.{set_lawful, in_each_set}
use Rattle.runs.proofs.ByteByByte.{next}
use Rattle.lines.specs.declared.LineAt.{LineAt}
use Rattle.lines.specs.Results.{IsLineAt}
use Rattle.lines.specs.LinesIn.{lines_in}
use Rattle.characters.specs.Runs.{run, accents, characters_in}
use Rattle.characters.proofs.Accents.{row_goes_on, accent_width}
use Rattle.characters.proofs.Runs.{few as few-run, in_run}
use Rattle.lines.proofs.FirstLine.{stops, ends}
use Rattle.lines.proofs.Fronts.{Front, character_front, break_front}
use Rattle.lines.proofs.LinesAt.{within as line_within}
use Rattle.lines.specs.Parted.{returns_in, of_width}
use Rattle.lines.proofs.Parting.{unbroken, broken}
use Rattle.places.specs.Listed.{greatest, listed, listed_of, Filled}
use Rattle.places.proofs.Listing.{filled_more, filled_all}
use Rattle.walk.specs.declared.Behind.{Behind}
use Rattle.walk.specs.Here.{Here, AllBehind}
use Rattle.walk.specs.Walking.{noted, behind_one_passed, Passable}
use Rattle.walk.proofs.Stepping.{character_passes, few, goes_on, feeds_on, fits_on}

-- bytes that are neither CR nor LF are of the line
unbroken_first : {n : ℕ} {t : Bytes} → Unbroken n t → length (cut t).first ≡ n + length (cut (drop n t)).first
unfolding cut
unbroken_first no_more = sym (zero-add _)
unbroken_first (one_more {x = x} a b p) = rw (ne_eqb x 10 a, ne_eqb x 13 b) (omega (arith, unbroken_first p))

-- a byte that is a character by itself
by_itself : (set : Charset) (s : Bytes) (at : ℕ) → at < length s → in_one (get_or s at 0) ≡ true → 1 ≡ of_set set (drop at s)
by_itself set s at h e = rw (next s at h) (sym (in_each_set set (get_or s at 0) _ e))

-- LF is no character, and a break by itself
pub line_feed : (set : Charset) (s : Bytes) (at : ℕ) → at < length s → get_or s at 0 ≡ 10 → (of_set set (drop at s) ≡ 0) × (1 ≡ break_width (drop at s))
unfolding break_width
line_feed set s at h e = (rw (next s at h, e) (width_break (of_set set) (set_lawful set) Lf (drop (at + 1) s)), rw (next s at h, e))

-- so is CR with LF after it
pub carriage_return : (set : Charset) (s : Bytes) (at : ℕ) → at < length s → eqb (get_or s at 0) 13 && eqb (get_or (drop at s) 1 0) 10 ≡ true → (at + 2 ≤ length s) × ((of_set set (drop at s) ≡ 0) × (2 ≡ break_width (drop at s)))
unfolding break_width
carriage_return set s at h e =
    let (p, q) = (and-eq-true_iff _ _).0 e in
    let first = eqb-true (get_or s at 0) 13 p in
    let second = rw get_or-drop at (eqb-true (get_or (drop at s) 1 0) 10 q) in
    let there : at + 1 < length s = inside s (at + 1) (λ z. let n : ◌≡◌ {A = ℕ} 10 0 = sym second ∙ z in absurd (omega arith)) in
    let two : drop at s ≡ 13 ∷ 10 ∷ drop (at + 1 + 1) s = next s at h ∙ rw (first, next s (at + 1) there, second) refl in
    (omega arith, (rw two (width_break (of_set set) (set_lawful set) CrLf (drop (at + 1 + 1) s)), rw two))
  where
    inside : (s : Bytes) (i : ℕ) → get_or s i 0 ≢ 0 → i < length s
    inside s i k = by_cases (ltb i (length s)) refl
      where
        by_cases : (b : Bool) → ltb i (length s) ≡ b → i < length s
        by_cases true f = ltb-true _ _ f
        by_cases false f = absurd (k (get_or-eq_default s 0 (ltb-false _ _ f)))

-- what is neither begins no break
pub no_break : (s : Bytes) (at : ℕ) → get_or s at 0 ≢ 10 → eqb (get_or s at 0) 13 && eqb (get_or (drop at s) 1 0) 10 ≡ false → break_width (drop at s) ≡ 0
unfolding break_width
no_break s at h e =
    let first : get_or (drop at s) 0 0 ≡ get_or s at 0 = get_or-drop at s 0 0 ∙ ap (λ (n : ℕ). get_or s n 0) (add-zero at) in
    rw (first, ne_eqb (get_or s at 0) 10 h, e)

few_listed : (n : ℕ) → n ≤ walk_lines → listed_of n ≡ n
few_listed n h = by_cases (ltb n walk_lines) refl
  where
    by_cases : (b : Bool) → ltb n walk_lines ≡ b → cond b n walk_lines ≡ n
    by_cases true e = refl
    by_cases false e = omega (arith, ltb-false n walk_lines e)

many_listed : (n : ℕ) → walk_lines ≤ n → listed_of n ≡ walk_lines
many_listed n h = rw (le-ltb n walk_lines h)

-- a line more that is noted, or one that is not among those that are listed
module _ (s : Bytes) (l : List ℕ) (start feeds : ℕ) (size : length l ≡ walk_numbers) where
  pub one_noted : (r : LineAt) → IsLineAt s start r → start ≤ length s → length s ≤ greatest → Filled s l start (listed_of feeds) → Filled s (noted l feeds start (r.end - start)) r.next (listed_of (feeds + 1))
  unfolding entries
  one_noted r is-line-at h short e = by_cases (ltb feeds walk_lines) refl
    where
      by_cases : (b : Bool) → ltb feeds walk_lines ≡ b → Filled s (noted l feeds start (r.end - start)) r.next (listed_of (feeds + 1))
      by_cases true few =
          let next = few_listed (feeds + 1) (omega (arith, ltb-true feeds walk_lines few)) in
          let end = line_within s start r is-line-at h in
          let at : start % 65536 ≡ start = mod-eq_of_lt (omega arith) in
          let size_is : (r.end - start) % 65536 ≡ r.end - start = mod-eq_of_lt (omega (arith, is-line-at.next)) in
          rw (next, few, at, size_is)
          (filled_more s l start feeds r is-line-at h (ltb-true _ _ few) size (rw few at e))
      by_cases false many =
          let next = many_listed (feeds + 1) (omega (arith, ltb-false feeds walk_lines many)) in
          rw (many, next) (rw many at e)

-- an absent line more: past the last line the next one starts at the end, and is empty
pub one_absent : (s : Bytes) (l : List ℕ) (i : ℕ) → i < walk_lines → length l ≡ walk_numbers → Filled s l (length s) (listed_of i) → Filled s (set (set l (2 * i) (length s)) (2 * i + 1) 0) (length s) (listed_of (i + 1))
one_absent s l i h size e =
    let (empty, none) = ends s (length s) (omega arith) in
    let r : LineAt = record { end = length s; next = length s } in
    let is-line-at : IsLineAt s (length s) r = record { end = omega arith; next = omega arith } in
    let nothing : length s - length s ≡ 0 = omega arith in
    rw (few_listed (i + 1) (omega arith), ← nothing) (filled_more s l (length s) i r is-line-at (omega arith) h size (rw (few_listed i (omega arith)) at e))

pub all_listed : (s : Bytes) (l : List ℕ) (at i : ℕ) → walk_lines ≤ i → length l ≡ walk_numbers → Filled s l at (listed_of i) → l ≡ listed s
all_listed s l at i h size e = filled_all s l at walk_lines (omega arith) (omega arith) size (rw (many_listed i h) at e)

-- how many of some breaks are CR LF, if one comes before them
returns_more : (k : Break) (ks : List Break) → returns_in (k ∷ ks) ≡ length (break_bytes k) - 1 + returns_in ks
unfolding returns_in
returns_more Lf ks = sym (zero-add _)
returns_more CrLf ks = omega arith

-- it starts at the first byte, whatever the list that is lent holds
pub begins : (set : Charset) (s : Bytes) (l : List ℕ) → Here set s l 0 (record { feeds = 0; returns = 0; start = 0 })
unfolding bad_place line_feeds listed lines_in
begins set s l = record { onward = refl; line_feeds = refl; within = omega arith; before = omega arith; line = refl; feeds = sym (zero-add _); returns = sym (zero-add _); fewer = omega arith; listed = λ h. refl }

module _ (set : Charset) (s : Bytes) (l : List ℕ) (at : ℕ) (passed : Behind) (here : Here set s l at passed) where
  -- a character is passed
  pub character : (n : ℕ) → n ≡ of_set set (drop at s) → n ≢ 0 → Here set s l (at + n) passed
  character n e h =
      let plain = rw (← e, drop-drop n at s) at (unbroken_first ((set_lawful set).unbroken (drop at s))) in
      let front : Front n 0 (drop at s) = rw (← e) at (character_front set (drop at s)) in
      record {
        onward = goes_on here front (character_passes (of_set set) (drop at s) n e h) h;
        line_feeds = rw add-zero at (feeds_on here front);
        within = fits_on here front;
        before = omega (arith, here.before);
        line = omega (arith, here.line, plain);
        feeds = here.feeds;
        returns = here.returns;
        fewer = omega (arith, here.fewer);
        listed = here.listed;
      }

  -- a break is passed, and its line noted in a list that has room for it
  module _ (size : length l ≡ walk_numbers) (b : ℕ) (in_bytes : at < length s) (z : of_set set (drop at s) ≡ 0) (e : b ≡ break_width (drop at s)) (h : b ≢ 0) where
    abbrev found : LineAt
    found = record { end = at; next = at + b }

    is_line : IsLineAt s passed.start found
    is_line = record { end = omega (arith, here.line, stops s at in_bytes (rw (← e) h)); next = ap (λ (n : ℕ). at + n) e }

    width_is : at + b - at ≡ b
    width_is = omega arith

    its_break : (breaks_of (cut (drop passed.start s)) ≡ of_width b ∷ breaks_of (cut (drop (at + b) s))) × (length (break_bytes (of_width b)) ≡ b)
    its_break = let r = broken s passed.start found is_line (λ w. h (sym width_is ∙ w)) in (rw width_is at r.breaks, rw width_is at r.width)

    pub a_break_passed : Here set s (noted l passed.feeds passed.start (at - passed.start)) (at + b) (behind_one_passed passed at b)
    a_break_passed =
        let (more, width) = its_break in
        let front : Front b 1 (drop at s) = rw (← e) at (break_front (drop at s) (rw (← e) h)) in
        record {
          onward = goes_on here front (passes_other (of_set set) (drop at s) z ∙ sym e) h;
          line_feeds = feeds_on here front;
          within = fits_on here front;
          before = omega arith;
          line = refl;
          feeds = here.feeds ∙ ap (λ (ks : List Break). passed.feeds + length ks) more ∙ omega arith;
          returns = here.returns ∙ ap (λ (ks : List Break). passed.returns + returns_in ks) more ∙ rw (returns_more (of_width b) _, width) (omega arith);
          fewer = omega (arith, here.fewer);
          listed = λ short. one_noted s l passed.start passed.feeds size found is_line (omega (arith, here.before)) short (here.listed short);
        }

-- at the end: the last line ends with the bytes, and all others are behind the walk
module _ {set : Charset} {s : Bytes} {l : List ℕ} {passed : Behind} (here : Here set s l (length s) passed) where
  pub last_line : IsLineAt s passed.start (record { end = length s; next = length s })
  last_line = let (empty, none) = ends s (length s) (omega arith) in record { end = omega (arith, here.line); next = omega arith }

  pub all_behind : AllBehind s passed
  unfolding returns_in
  all_behind =
      let none_left = unbroken s passed.start _ last_line (omega arith) in
      record { fits = few here; feeds = sym (here.feeds ∙ rw none_left (add-zero _)); returns = sym (here.returns ∙ rw none_left (add-zero _)) }

-- what of the numbers of lines that are behind the walk fits
pub passable : {set : Charset} {s : Bytes} {l : List ℕ} {at : ℕ} {passed : Behind} (b : ℕ) → Here set s l at passed → 1 ≤ b → at + b < 2 ^ 64 → Passable passed at b
passable b here w f = record { feeds = few here; returns = here.fewer; wide = w; fits = f }

-- characters by themselves are passed
pub plain_passed : (set : Charset) (s : Bytes) (l : List ℕ) (at : ℕ) (passed : Behind) (n : ℕ) → at + n ≤ length s → ((i : ℕ) → i < n → in_one (get_or s (at + i) 0) ≡ true) → Here set s l at passed → Here set s l (at + n) passed
plain_passed set s l at passed zero h plain here = rw add-zero here
plain_passed set s l at passed (suc n) h plain here =
    let q : at + suc n ≡ at + 1 + n = omega arith in
    let first = rw add-zero at (plain 0 (omega arith)) in
    let next : (i : ℕ) → i < n → in_one (get_or s (at + 1 + i) 0) ≡ true = λ i k. rw (add_assoc at 1 i) (plain (1 + i) (omega arith)) in
    rw q (plain_passed set s l (at + 1) passed n (omega arith) next (character set s l at passed here 1 (by_itself set s at (omega arith) first) (λ z. omega arith)))

-- so is a run of them
pub run_passed : (set : Charset) (s : Bytes) (l : List ℕ) (at : ℕ) (passed : Behind) (n : ℕ) → n ≡ run in_one (drop at s) → Here set s l at passed → Here set s l (at + n) passed
run_passed set s l at passed n e here =
    let fits : at + n ≤ length s = omega (arith, few-run in_one (drop at s), length-drop at s, here.within) in
    plain_passed set s l at passed n fits (λ i h. rw get_or-drop at (in_run in_one i (drop at s) (omega arith))) here

-- a row of umlauts and accents is passed
accents_passed : (s : Bytes) (l : List ℕ) (at : ℕ) (passed : Behind) (n : ℕ) → accents (drop at s) ≡ n → Here Latin s l at passed → Here Latin s l (at + 2 * n) passed
accents_passed s l at passed zero e here = rw add-zero here
accents_passed s l at passed (suc n) e here =
    let (h, one, more) = row_goes_on s at n e in
    let q : at + 2 * suc n ≡ at + 2 + 2 * n = omega arith in
    rw q (accents_passed s l (at + 2) passed n more (character Latin s l at passed here 2 (sym (accent_width s at h one)) (λ z. omega arith)))

-- what is told of a row at a place is passed, or is that no character begins there
pub row_passed : (set : Charset) (s : Bytes) (l : List ℕ) (at : ℕ) (passed : Behind) (n : ℕ) → n ≡ characters_in set (drop at s) → n ≢ 0 → Here set s l at passed → Here set s l (at + n) passed
row_passed Iso8859 s l at passed n e h here = character Iso8859 s l at passed here n e h
row_passed Latin s l at passed n e h here = by_cases (eqb (accents (drop at s)) 0) refl
  where
    by_cases : (b : Bool) → eqb (accents (drop at s)) 0 ≡ b → Here Latin s l (at + n) passed
    by_cases true q = character Latin s l at passed here n (rw q at e) h
    by_cases false q = rw (rw q at e) (accents_passed s l at passed (accents (drop at s)) refl here)

pub no_row : (set : Charset) (t : Bytes) → characters_in set t ≡ 0 → of_set set t ≡ 0
no_row Iso8859 t e = e
no_row Latin t e = by_cases (eqb (accents t) 0) refl
  where
    by_cases : (b : Bool) → eqb (accents t) 0 ≡ b → latin t ≡ 0
    by_cases true q = rw q at e
    by_cases false q = let p = rw q at e in absurd (eqb-false (accents t) 0 q (omega arith))
