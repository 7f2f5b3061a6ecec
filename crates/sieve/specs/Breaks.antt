-- What it means that a payload breaks a rule of the sieve, rule by rule, with no walk and no loop. Assumes nothing.
use Rattle.std.specs.Prelude.{ℕ, suc, ◌+◌, ◌<◌, true, ◌≢◌, ◌≡◌, length}
use mathlib.Core.List.{List, [], ◌∷◌, ◌++◌, Memᴰ}
use Rattle.std.proofs.Math.Option.{some}
use Rattle.std.proofs.Math.ListN.{get_elem?}
use Rattle.sieve.specs.declared.Break.{Break}
use Rattle.sieve.specs.Bytes.{Bytes}
use Rattle.sieve.specs.Lines.{cut, lines_of, breaks_of, kind}
use Rattle.sieve.specs.Characters.{Width, passes, line_feeds}
use Rattle.sieve.specs.Rules.{Rule, Layout}
use Rattle.sieve.specs.Verdict.{Refusal, under, under_at}

-- `a` is a run of characters and breaks, one after the other, where `s` comes after it
pub data Passed (w : Width) (s : Bytes) : Bytes → Type 0 where
  none_passed : Passed w s []
  one_passed : (c a : Bytes) (n : ℕ) → length c ≡ suc n → passes w (c ++ (a ++ s)) ≡ suc n → Passed w s a → Passed w s (c ++ a)

-- the payload p breaks the rule at this position of the sieve, and a refusal under that rule says this
pub data Breaks (L : Layout) (p : Bytes) : ℕ → Refusal → Type 0 where
  -- 1: there are no bytes
  no_bytes : p ≡ [] → Breaks L p 0 (under 1 0)
  -- 2: there are too many
  too_many_bytes : L.most_bytes < length p → Breaks L p 1 (under 2 0)
  -- 3: after a run of characters and breaks comes something that begins neither
  bad_character : (a s : Bytes) → a ++ s ≡ p → Passed (L.width (lines_of (cut p))) s a → s ≢ [] → passes (L.width (lines_of (cut p))) s ≡ 0
      → Breaks L p 2 (under_at 3 (1 + line_feeds a) (length a))
  -- 4: after some breaks like the first comes one unlike it
  mixed_breaks : (ks js : List Break) (j : Break) → breaks_of (cut p) ≡ ks ++ (j ∷ js) → ((k : Break) → Memᴰ k ks → k ≡ kind (breaks_of (cut p))) → j ≢ kind (breaks_of (cut p))
      → Breaks L p 3 (under 4 (suc (length ks)))
  -- 5: there are too few lines, or too many
  too_few_lines : length (lines_of (cut p)) < L.fewest_lines → Breaks L p 4 (under 5 (length (lines_of (cut p))))
  too_many_lines : L.most_lines < length (lines_of (cut p)) → Breaks L p 4 (under 5 (length (lines_of (cut p))))
  -- 6 to 13 and 17: a rule of the layout's list is broken by the lines
  a_line_rule : (j : ℕ) (r : Rule) → get_elem? L.rules j ≡ some r → r.broken (lines_of (cut p)) ≡ true → Breaks L p (5 + j) (under r.number r.line)
