-- Over any layout: a verdict, a reading and a writing pack, and packed they are what the calls have to answer; so is the place of a line in the walk's list. Assumes nothing.
use Prim.Native.Nat.{ℕ, zero, suc, ◌+◌, ◌-◌, ◌*◌, ◌≤◌, ◌<◌, min}
use native.Mathlib.Nat.{le_of_suc-le-suc, not-suc-le-zero}
use native.Mathlib.Omega.{arith}
use mathlib.Core.Bool.{Bool, true, false, cond, true≢false, and-eq-true_iff}
use mathlib.Core.List.{List, [], ◌∷◌}
use mathlib.Core.Path.{◌≡◌, refl, sym, ap, ◌∙◌}
use lib.Dec.{leb, ltb}
use lib.ListN.{length, get_or, take}
use borrow.Author.Tests.{le-leb, le-ltb}
use Rattle.sieve.specs.Paper.{Answer, Written, Laying, not_laid, paper, paper_written}
use Rattle.std.specs.Prelude.{Ok, Err}
use Rattle.sieve.specs.declared.Break.{Break}
use Rattle.sieve.specs.Bytes.{Bytes, within}
use Rattle.sieve.specs.Lines.{bill_of}
use Rattle.sieve.specs.Places.{list_size}
use Rattle.sieve.specs.Reading.{Done, IsRead}
use Rattle.sieve.specs.Rules.{Layout}
use Rattle.sieve.specs.Serves.{Serves}
use Rattle.sieve.specs.Verdict.{Verdict, under, accepted, refused, first, verdict}
use Rattle.sieve.specs.Writing.{write_findings, write_answer, IsWritten}
use Rattle.sieve.proofs.Bounds.{is_within}
use Rattle.sieve.proofs.Numbers.{small_verdict, line_count}
use Rattle.sieve.proofs.SmallAnswers.{read_line, read_count, write_line, write_length}
use Rattle.whole.specs.Judged.{IsJudged}
use Rattle.whole.proofs.Shown.{lie}
use Rattle.packing.specs.Packing.{Packs, packed_verdict, PacksLaying, packed_laying, told_count}
use Rattle.packing.specs.Calls.{listed_place, line_place, lines_lie, packed_line, IsPackedRead, IsPackedWritten}

-- the front of a list has the numbers of the list
in_front_lem : (m : ℕ) (l : List ℕ) (i : ℕ) → i < m → get_or (take m l) i 0 ≡ get_or l i 0
in_front_lem zero l i h = absurd (not-suc-le-zero h)
in_front_lem (suc m) [] i h = refl
in_front_lem (suc m) (x ∷ l) zero h = refl
in_front_lem (suc m) (x ∷ l) (suc i) h = in_front_lem m l i (le_of_suc-le-suc h)

-- so it has the places of the lines that it lists
listed_in_front : (m : ℕ) (l : List ℕ) (i : ℕ) → 2 * (i - 1) + 1 < m → listed_place (take m l) i ≡ listed_place l i
listed_in_front m l i h = rw (in_front_lem m l (2 * (i - 1)) (omega arith), in_front_lem m l (2 * (i - 1) + 1) h)

-- a count that is outside is so as it is told
told_outside : (a b count : ℕ) → b < 999 → within a b count ≡ false → within a b (told_count count) ≡ false
told_outside a b count few other = by_cases (within a b (told_count count)) refl
  where
    by_cases : (t : Bool) → within a b (told_count count) ≡ t → t ≡ false
    by_cases false e = refl
    by_cases true e =
        let (low, high) = is_within a b (told_count count) e in
        let inside = (and-eq-true_iff (leb a count) (leb count b)).1 (le-leb a count (omega (arith, low, high, few)), le-leb count b (omega (arith, low, high, few))) in
        absurd (true≢false (sym inside ∙ other))

-- a count that the layout has not is found before all but the list
other_count : (L : Layout) (text dest : Bytes) (list : List ℕ) (count : ℕ) (k : Break) → ltb (length list) (list_size L) ≡ false → within L.fewest_lines L.most_lines count ≡ false
    → write_answer L text list count k dest ≡ record { answer = not_laid (under 5 count); lent = dest }
unfolding write_answer write_findings first
other_count L text dest list count k long other = rw (long, other)

-- what is packed of a reading and of a writing is what the calls have to answer

pub read_packed : {L : Layout} {p : Bytes} {list after : List ℕ} {q : Answer} {n : ℕ} → IsRead L p list q after → n ≡ packed_verdict (paper q) → IsPackedRead L p list n after
read_packed h e = record { number = e ∙ ap packed_verdict h.answer; lent = h.lent }

pub written_packed : {L : Layout} {text dest after : Bytes} {list : List ℕ} {count told : ℕ} {k : Break} {w : Written} {n : ℕ} → IsWritten L text list told k dest w after → told ≡ told_count count
    → n ≡ packed_laying (paper_written w) → IsPackedWritten L text list count k dest n after
written_packed {L} {text} {dest} {list = list} {k = k} h t e =
    let same = ap (λ (c : ℕ). write_answer L text list c k dest) t in
    record { number = e ∙ ap packed_laying h.answer ∙ ap (λ (d : Done Laying). packed_laying d.answer) same; lent = h.lent ∙ ap (λ (d : Done Laying). d.lent) same }

module _ {L : Layout} (serves : Serves L) where
  -- what is answered packs: a verdict, a reading, a writing of fewer than 1000 lines

  pub verdict_packs : (p : Bytes) → Packs (verdict L p)
  verdict_packs p = by_cases (verdict L p) refl
    where
      by_cases : (v : Verdict) → verdict L p ≡ v → Packs v
      by_cases (accepted n k) e = omega (arith, line_count serves p n k e, serves.few)
      by_cases (refused r) e = (small_verdict serves p r e).line

  pub reading_packs : {p : Bytes} {list after : List ℕ} {q : Answer} → IsRead L p list q after → Packs (paper q)
  reading_packs {q = q} h = by_cases q refl
    where
      by_cases : (r : Answer) → q ≡ r → Packs (paper r)
      by_cases (Ok (n, k)) e = omega (arith, read_count serves h e, serves.few)
      by_cases (Err f) e = read_line serves h e

  pub writing_packs : {text dest after : Bytes} {list : List ℕ} {count : ℕ} {k : Break} {w : Written} → IsWritten L text list count k dest w after → count < 1000 → PacksLaying (paper_written w)
  writing_packs {w = w} h low = by_cases w refl
    where
      by_cases : (r : Written) → w ≡ r → PacksLaying (paper_written r)
      by_cases (Ok n) e = omega (arith, write_length serves h e, serves.short)
      by_cases (Err f) e = write_line serves h low e

  -- of a line that the layout may have, the walk's list says where it lies
  pub line_packed : {p : Bytes} {q : Answer} {places : List ℕ} → IsJudged L p q places → (i : ℕ) → line_place L.most_lines places i (paper q) ≡ packed_line L p i (verdict L p)
  line_packed {p} {q} {places} h i = rw (← h.answer) (by_cases q refl)
    where
      by_cases : (r : Answer) → q ≡ r → line_place L.most_lines places i (paper r) ≡ packed_line L p i (paper r)
      by_cases (Err f) e = refl
      by_cases (Ok (n, k)) e = listed (within 1 L.most_lines i) refl
        where
          listed : (b : Bool) → within 1 L.most_lines i ≡ b → cond b (listed_place places i) 0 ≡ cond b (listed_place (lines_lie L (bill_of p)) i) 0
          listed false w = refl
          listed true w =
              let (least, most) = is_within 1 _ i w in
              sym (listed_in_front (2 * L.most_lines) places i (omega (arith, least, most))) ∙ ap (λ (l : List ℕ). listed_place l i) (lie L p (rw e at h) serves.few (omega (arith, serves.short)))

-- with a list that is long enough, a count that the layout has not is told under 5, and 999 in its place where it is more
pub count_told : (L : Layout) (text dest after : Bytes) (list : List ℕ) (count : ℕ) (k : Break) (n : ℕ) → L.most_lines < 999 → list_size L ≤ length list → within L.fewest_lines L.most_lines count ≡ false
    → IsPackedWritten L text list count k dest n after → (n ≡ 5000 + min count 999) × (after ≡ dest)
count_told L text dest after list count k n few long other is =
    let out : within L.fewest_lines L.most_lines (told_count count) ≡ false = told_outside L.fewest_lines L.most_lines count few other in
    let e = other_count L text dest list (told_count count) k (le-ltb _ _ long) out in
    (is.number ∙ ap (λ (d : Done Laying). packed_laying d.answer) e, is.lent ∙ ap (λ (d : Done Laying). d.lent) e)
