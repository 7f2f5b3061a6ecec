-- All three fields on a page: the counts, and the contents before the last CR LF. Assumes nothing.
use Prim.Native.Nat.{ℕ, ◌+◌, ◌-◌, ◌≤◌, zero-le, suc-le-suc}
use native.Mathlib.Omega.{arith}
use mathlib.Core.List.{List, [], ◌∷◌, ◌++◌, map, append_assoc, append-nil}
use mathlib.Core.Path.{◌≡◌, sym, ap, ◌∙◌}
use lib.ListN.{length, take, length-append}
use lib.Seq.{take_at, take-take}
use Rattle.sieve.specs.declared.Break.{Break}
use Rattle.sieve.specs.declared.Break.TheVariants.{CrLf}
use Rattle.sieve.specs.Bytes.{Bytes}
use Rattle.sieve.specs.Lines.{break_bytes, after_breaks, joined}
use Rattle.sieve.specs.Pointing.{before_breaks}
use Rattle.swift.specs.declared.Counts.{Counts}
use Rattle.swift.specs.declared.Page.{Page}
use Rattle.swift.specs.Letters.{leads, laid_line, laid_from}
use Rattle.swift.specs.Portions.{rows, kept_in}
use Rattle.swift.specs.Fields.{beneficiary, transaction, remittance, fields, contents}
use Rattle.swift.specs.Paged.{blank, Sheet, IsFollowed, AreMade}
use Rattle.swift.proofs.Bounds.{kept_append}
use Rattle.swift.proofs.Following.{blank_sheet}

-- lines with a break after each are lines parted by breaks, and a break

turned : (k : Break) (ls : List Bytes) → break_bytes k ++ before_breaks k ls ≡ after_breaks k ls ++ break_bytes k
turned k [] = append-nil (break_bytes k)
turned k (l ∷ ls) =
    rw (turned k ls) (sym (append_assoc (break_bytes k) (l ++ after_breaks k ls) (break_bytes k) ∙ ap (λ (r : Bytes). break_bytes k ++ r) (append_assoc l (after_breaks k ls) (break_bytes k))))

pub before_joined : (k : Break) (l : Bytes) (ls : List Bytes) → before_breaks k (l ∷ ls) ≡ joined k (l ∷ ls) ++ break_bytes k
before_joined k l ls = rw (turned k ls) (sym (append_assoc l (after_breaks k ls) (break_bytes k)))

before_some : (ls : List Bytes) → 1 ≤ length ls → before_breaks CrLf (map laid_line ls) ≡ joined CrLf (map laid_line ls) ++ break_bytes CrLf
before_some [] h = absurd (omega arith)
before_some (l ∷ ls) h = before_joined CrLf (laid_line l) (map laid_line ls)

-- the line of the account is always there
pub some_lines : (ls : List Bytes) → 1 ≤ length (kept_in (fields ls))
unfolding kept_in beneficiary leads rows
some_lines ls = suc-le-suc zero-le

-- so something is always laid: its slash
pub some_content : (ls : List Bytes) → 1 ≤ length (contents ls)
unfolding kept_in beneficiary leads rows laid_from
some_content ls = suc-le-suc zero-le

-- counts are equal where all their numbers are
same_counts : {a b c d e f a' b' c' d' e' f' : ℕ} → a ≡ a' → b ≡ b' → c ≡ c' → d ≡ d' → e ≡ e' → f ≡ f'
    → ◌≡◌ {A = Counts} (record { bytes = a; beneficiary = b; transaction = c; remittance = d; cut = e; replaced = f }) (record { bytes = a'; beneficiary = b'; transaction = c'; remittance = d'; cut = e'; replaced = f' })
same_counts h i j k l m = rw (h, i, j, k, l, m)

module _ (ls : List Bytes) {b₀ b₁ b₂ : Bytes} {p₁ p₂ : Page} (i : IsFollowed b₀ blank 5 (beneficiary ls) b₁ p₁) (j : IsFollowed b₁ p₁ 1 (transaction ls) b₂ p₂) where
  first_sheet : Sheet b₁ p₁ (beneficiary ls)
  first_sheet = i.sheet [] blank_sheet

  second_sheet : Sheet b₂ p₂ (beneficiary ls ++ transaction ls)
  second_sheet = j.sheet (beneficiary ls) first_sheet

  pub first_lines : p₁.lines ≡ length (kept_in (beneficiary ls))
  first_lines = first_sheet.paged.lines

  pub second_lines : p₂.lines ≡ p₁.lines + length (kept_in (transaction ls))
  second_lines = omega (arith, first_lines, second_sheet.paged.lines, ap length (kept_append (beneficiary ls) (transaction ls)), length-append (kept_in (beneficiary ls)) (kept_in (transaction ls)))

  module _ {b₃ : Bytes} {p₃ : Page} (k : IsFollowed b₂ p₂ 4 (remittance ls) b₃ p₃) where
    third_sheet : Sheet b₃ p₃ (fields ls)
    third_sheet = rw (append_assoc (beneficiary ls) (transaction ls) (remittance ls)) at (k.sheet (beneficiary ls ++ transaction ls) second_sheet)

    pub third_lines : p₃.lines ≡ p₂.lines + length (kept_in (remittance ls))
    third_lines =
        let s = k.sheet (beneficiary ls ++ transaction ls) second_sheet in
        omega (arith, s.paged.lines, second_sheet.paged.lines, ap length (kept_append (beneficiary ls ++ transaction ls) (remittance ls)), length-append (kept_in (beneficiary ls ++ transaction ls)) (kept_in (remittance ls)))

    closed : before_breaks CrLf (map laid_line (kept_in (fields ls))) ≡ contents ls ++ break_bytes CrLf
    closed = before_some (kept_in (fields ls)) (some_lines ls)

    pub at_the_last : p₃.at ≡ length (contents ls) + 2
    at_the_last = third_sheet.paged.size ∙ ap length closed ∙ length-append (contents ls) (break_bytes CrLf)

    pub all_made : length b₀ ≡ 370 → AreMade ls b₃ (record { bytes = p₃.at - 2; beneficiary = p₁.lines; transaction = p₂.lines - p₁.lines; remittance = p₃.lines - p₂.lines; cut = p₃.cut; replaced = p₃.replaced })
    all_made size =
        let bytes : p₃.at - 2 ≡ length (contents ls) = omega (arith, at_the_last) in
        record {
          size = k.size ∙ j.size ∙ i.size ∙ size;
          counts = same_counts bytes first_lines (omega (arith, second_lines)) (omega (arith, third_lines)) third_sheet.cut third_sheet.paged.replaced;
          laid =
              sym (take-take (p₃.at - 2) p₃.at b₃ (omega arith)) ∙ ap (take (p₃.at - 2)) (third_sheet.paged.laid ∙ closed)
              ∙ take_at (contents ls) (break_bytes CrLf) (p₃.at - 2) (sym bytes);
        }

-- the length told is that of the contents
pub as_told : {ls : List Bytes} {after : Bytes} {r : Counts} → AreMade ls after r → r.bytes ≡ length (contents ls)
as_told counts-are = ap (λ (c : Counts). c.bytes) counts-are.counts
