-- Rows laid on a page, one after the other. Assumes nothing.
use Prim.Native.Nat.{ℕ, zero, suc, ◌+◌, ◌-◌, ◌≤◌}
use native.Mathlib.Nat.{sub-zero}
use native.Mathlib.Omega.{arith}
use mathlib.Core.Bool.{true}
use mathlib.Core.List.{List, [], ◌∷◌, ◌++◌, map, append_assoc, append-nil}
use mathlib.Core.Logic.{◌≢◌}
use mathlib.Core.Path.{◌≡◌, refl, sym, ap, ◌∙◌}
use lib.ListN.{length, take, drop, length-append, length-drop}
use lib.Seq.{take_all, take-take, take_at, length-take-le}
use borrow.Rule.Slice.PartMut.{mid_of, put_mid}
use Rattle.runs.specs.Laid.{over_fitting}
use Rattle.runs.proofs.Lays.{tail_laid}
use Rattle.sieve.specs.declared.Break.TheVariants.{CrLf}
use Rattle.sieve.specs.Bytes.{Bytes}
use Rattle.sieve.specs.Lines.{break_bytes}
use Rattle.sieve.specs.Pointing.{before_breaks}
use Rattle.swift.specs.declared.Line.{Line}
use Rattle.swift.specs.declared.Page.{Page}
use Rattle.swift.specs.declared.Row.{Row}
use Rattle.swift.specs.Letters.{laid_line, replaced_in_line}
use Rattle.swift.specs.Portions.{line_most, rows, Portion, kept, cut_off, kept_in, cut_in, replaced_in}
use Rattle.swift.specs.Rowed.{RowFits, RowHolds, IsLineBegun}
use Rattle.swift.proofs.Laying.{laid_length}
use Rattle.swift.proofs.Bounds.{kept_append}
use Rattle.swift.specs.Paged.{Roomy, Ready, Paged, IsLaid, IsPut}

abbrev end : Bytes
end = break_bytes CrLf

-- characters that fit on one line are one line, if there are any

no_row : (s : Bytes) → length s ≡ 0 → rows 1 s ≡ []
unfolding rows
no_row [] e = refl
no_row (x ∷ s) e = absurd (omega arith)

pub one_row : (s : Bytes) → length s ≢ 0 → length s ≤ line_most → rows 1 s ≡ s ∷ []
unfolding rows
one_row [] e h = absurd (e refl)
one_row (x ∷ s) e h = ap (λ (r : Bytes). r ∷ []) (take_all line_most (x ∷ s) h)

before_append : (a b : List Bytes) → before_breaks CrLf (map laid_line (a ++ b)) ≡ before_breaks CrLf (map laid_line a) ++ before_breaks CrLf (map laid_line b)
before_append [] b = refl
before_append (l ∷ a) b = rw (before_append a b) (sym (append_assoc (laid_line l) (end ++ before_breaks CrLf (map laid_line a)) (before_breaks CrLf (map laid_line b))))

pub replaced_append : (a b : List Bytes) → replaced_in (a ++ b) ≡ replaced_in a + replaced_in b
unfolding replaced_in
replaced_append [] b = omega arith
replaced_append (l ∷ a) b = omega (arith, replaced_append a b)

-- a row without characters leaves the page as it is
pub none_laid : {buffer : Bytes} {page : Page} {row : Row} → Roomy page → row.length ≡ 0 → IsLaid buffer page row buffer page
none_laid {buffer} {page} {row} roomy e =
    record {
      size = refl;
      roomy = roomy;
      more = omega arith;
      cut = refl;
      paged = λ ls s p h. rw (no_row s (sym h.size ∙ e), append-nil) p;
    }

-- bytes laid at a place lie behind those before it
laid_behind : (b w : Bytes) (at n : ℕ) → length w ≡ n → at + n ≤ length b → take (at + n) (take at b ++ (w ++ drop (at + length w) b)) ≡ take at b ++ w
laid_behind b w at n e h =
    rw (← append_assoc (take at b) w (drop (at + length w) b)) (take_at (take at b ++ w) (drop (at + length w) b) (at + n) (omega (arith, length-append (take at b) w, length-take-le at b (omega arith))))

long_as_before : (b w : Bytes) (at : ℕ) → at + length w ≤ length b → length (take at b ++ (w ++ drop (at + length w) b)) ≡ length b
long_as_before b w at h = omega (arith, length-append (take at b) (w ++ drop (at + length w) b), length-append w (drop (at + length w) b), length-take-le at b (omega arith), length-drop (at + length w) b)

pub replaced_one : (s : Bytes) → replaced_in (s ∷ []) ≡ replaced_in_line s
unfolding replaced_in
replaced_one s = omega arith

module _ (b b₁ b₂ : Bytes) (page : Page) (row line : Row) (ready : Ready b page) (ok : RowFits row) (is : IsLineBegun row line) (some : row.length ≢ 0) where
  abbrev w : Bytes
  w = take row.length line.bytes

  size_w : length w ≡ row.length
  size_w = length-take-le row.length line.bytes (omega (arith, is.room, ok.few))

  -- a row with characters lies behind the others, with CR LF after it
  pub row_laid : b₁ ≡ take page.at b ++ (w ++ drop (page.at + length w) b) → length b₁ ≡ length b → b₂ ≡ take (page.at + row.length) b₁ ++ (end ++ drop (page.at + row.length + 2) b₁)
      → IsLaid b page row b₂ (record { at = page.at + row.length + 2; lines = page.lines + 1; replaced = page.replaced + line.replaced; cut = page.cut })
  row_laid is₁ long is₂ =
      let fits : page.at + row.length + 2 ≤ 370 = omega (arith, ready.roomy.bytes, ready.more, ok.few) in
      let first : take (page.at + row.length) b₁ ≡ take page.at b ++ w = rw is₁ (laid_behind b w page.at row.length size_w (omega (arith, ready.size))) in
      let second : take (page.at + row.length + 2) b₂ ≡ (take page.at b ++ w) ++ end = rw is₂ (laid_behind b₁ end (page.at + row.length) 2 refl (omega (arith, long, ready.size))) ∙ ap (λ (r : Bytes). r ++ end) first in
      record {
        size = ap length is₂ ∙ long_as_before b₁ end (page.at + row.length) (omega (arith, long, ready.size)) ∙ long;
        roomy = record { bytes = omega (arith, ready.roomy.bytes, ok.few); fewer = omega (arith, ready.roomy.fewer, ok.few, ok.fewer, is.fewer) };
        more = omega arith;
        cut = refl;
        paged = λ ls s p h.
            let row_is = one_row s (λ e. some (h.size ∙ e)) (omega (arith, h.size, ok.few)) in
            let whole : before_breaks CrLf (map laid_line (ls ++ rows 1 s)) ≡ before_breaks CrLf (map laid_line ls) ++ (laid_line s ++ end) = before_append ls (rows 1 s) ∙ rw row_is (ap (λ (r : Bytes). before_breaks CrLf (map laid_line ls) ++ r) (ap (λ (r : Bytes). laid_line s ++ r) (append-nil end))) in
            record {
              laid = second ∙ append_assoc (take page.at b) w end ∙ rw (p.laid, is.laid s h) (sym whole);
              size = rw whole (omega (arith, p.size, length-append (before_breaks CrLf (map laid_line ls)) (laid_line s ++ end), length-append (laid_line s) end, laid_length true s, h.size));
              lines = rw row_is (omega (arith, p.lines, length-append ls (s ∷ [])));
              replaced = rw row_is (omega (arith, p.replaced, is.count s h, replaced_append ls (s ∷ []), replaced_one s));
            };
      }

-- so it is where the tails of the room are lent for both
pub row_put : {b t₁ t₂ : Bytes} {page : Page} {row line : Row} → Ready b page → RowFits row → IsLineBegun row line → row.length ≢ 0
    → let at = page.at in let n = row.length in let b₁ = put_mid at (370 - at) b t₁ in
    t₁ ≡ over_fitting (mid_of at (370 - at) b) (take (n - 0) line.bytes) → t₂ ≡ over_fitting (mid_of (at + n) (370 - (at + n)) b₁) end
    → IsLaid b page row (put_mid (at + n) (370 - (at + n)) b₁ t₂) (record { at = at + n + 2; lines = page.lines + 1; replaced = page.replaced + line.replaced; cut = page.cut })
row_put {b} {t₁} {t₂} {page} {row} {line} ready ok is some is₁ is₂ =
    let at = page.at in
    let n = row.length in
    let w = take n line.bytes in
    let b₁ = put_mid at (370 - at) b t₁ in
    let size : length w ≡ n = length-take-le n line.bytes (omega (arith, is.room, ok.few)) in
    let fits : at + n + 2 ≤ 370 = omega (arith, ready.roomy.bytes, ready.more, ok.few) in
    let first : b₁ ≡ take at b ++ (w ++ drop (at + length w) b) = ap (put_mid at (370 - at) b) (rw (sub-zero n) at is₁) ∙ rw ready.size at (tail_laid at b w (omega (arith, ready.size))) in
    let long : length b₁ ≡ length b = ap length first ∙ long_as_before b w at (omega (arith, ready.size)) in
    row_laid b b₁ _ page row line ready ok is some first long (ap (put_mid (at + n) (370 - (at + n)) b₁) is₂ ∙ rw (long ∙ ready.size) at (tail_laid (at + n) b₁ end (omega (arith, long, ready.size))))

-- the first 35 characters fill the same line
pub rows_once : (s : Bytes) → rows 1 (take line_most s) ≡ rows 1 s
unfolding rows
rows_once [] = refl
rows_once (x ∷ s) = ap (λ (r : Bytes). (x ∷ r) ∷ []) (take-take 34 34 s (omega arith))

pub cut_append : (a b : List Portion) → cut_in (a ++ b) ≡ cut_in a + cut_in b
unfolding cut_in
cut_append [] b = omega arith
cut_append (q ∷ a) b = omega (arith, cut_append a b)

pub one_kept : (q : Portion) → kept_in (q ∷ []) ≡ kept q
unfolding kept_in
one_kept q = append-nil (kept q)

pub one_cut : (q : Portion) → cut_in (q ∷ []) ≡ length (cut_off q)
unfolding cut_in
one_cut q = omega arith

-- a line laid, and what was cut of it counted
pub line_put : {buffer after : Bytes} {page : Page} {line : Line} {r : Page} → IsLaid buffer page line.row after r → IsPut buffer page line after (record { at = r.at; lines = r.lines; replaced = r.replaced; cut = r.cut + line.cut })
line_put {buffer} {after} {page} {line} {r} is =
    record {
      size = is.size;
      roomy = record { bytes = is.roomy.bytes; fewer = is.roomy.fewer };
      more = is.more;
      cut = omega (arith, is.cut);
      sheet = λ qs s h l.
          let q : Portion = record { text = s; lines = 1 } in
          let all : kept_in (qs ++ (q ∷ [])) ≡ kept_in qs ++ rows 1 (take line_most s) = kept_append qs (q ∷ []) ∙ ap (λ (k : List Bytes). kept_in qs ++ k) (one_kept q ∙ sym (rows_once s)) in
          let p = is.paged (kept_in qs) (take line_most s) h.paged l.held in
          record {
            paged = rw all (record { laid = p.laid; size = p.size; lines = p.lines; replaced = p.replaced });
            cut = omega (arith, is.cut, h.cut, l.cut, cut_append qs (q ∷ []), one_cut q);
          };
    }

-- four rows, one after the other
pub four_laid : {b₀ b₁ b₂ b₃ b₄ : Bytes} {p₀ p₁ p₂ p₃ p₄ : Page} {r₁ r₂ r₃ r₄ : Row} → IsLaid b₀ p₀ r₁ b₁ p₁ → IsLaid b₁ p₁ r₂ b₂ p₂ → IsLaid b₂ p₂ r₃ b₃ p₃ → IsLaid b₃ p₃ r₄ b₄ p₄
    → (ls : List Bytes) (s₁ s₂ s₃ s₄ : Bytes) → Paged b₀ p₀ ls → RowHolds r₁ s₁ → RowHolds r₂ s₂ → RowHolds r₃ s₃ → RowHolds r₄ s₄ → Paged b₄ p₄ (ls ++ (rows 1 s₁ ++ (rows 1 s₂ ++ (rows 1 s₃ ++ rows 1 s₄))))
four_laid {b₄ = b₄} {p₄ = p₄} i j k l ls s₁ s₂ s₃ s₄ p h₁ h₂ h₃ h₄ =
    rw (← five ls (rows 1 s₁) (rows 1 s₂) (rows 1 s₃) (rows 1 s₄))
    (l.paged (((ls ++ rows 1 s₁) ++ rows 1 s₂) ++ rows 1 s₃) s₄ (k.paged ((ls ++ rows 1 s₁) ++ rows 1 s₂) s₃ (j.paged (ls ++ rows 1 s₁) s₂ (i.paged ls s₁ p h₁) h₂) h₃) h₄)
  where
    five : (a b c d e : List Bytes) → (((a ++ b) ++ c) ++ d) ++ e ≡ a ++ (b ++ (c ++ (d ++ e)))
    five a b c d e = simp append_assoc

-- the first line of several, and the others
pub rows_parted : (n : ℕ) (m : Bytes) → rows (suc n) m ≡ rows 1 (take line_most m) ++ rows n (drop line_most m)
unfolding rows
rows_parted n [] = none n
  where
    none : (k : ℕ) → [] ≡ rows k []
    none zero = refl
    none (suc k) = refl
rows_parted n (x ∷ m) = ap (λ (r : Bytes). (x ∷ r) ∷ rows n (drop line_most (x ∷ m))) (sym (take-take 34 34 m (omega arith)))
