-- The sieve of a layout held against any bytes, and the verdict: the first refusal that it finds. Assumes nothing.
use Rattle.std.specs.Prelude.{ℕ, ◌+◌, Bool, true, false, not, List, [], ◌∷◌, map, eqb, ltb, take, length}
use Rattle.std.proofs.Math.Option
use Rattle.std.proofs.Math.Option.{Option, some, none}
use Rattle.sieve.specs.declared.Break.{Break}
use Rattle.sieve.specs.Bytes.{Bytes, within, first_such}
use Rattle.sieve.specs.Lines.{Bill, cut, lines_of, breaks_of, kind, same_break, bill_of}
use Rattle.sieve.specs.Characters.{bad_place, line_feeds}
use Rattle.sieve.specs.Rules.{Rule, Layout}

-- what a refusal says: its number, its line and, where a byte is to blame, that byte's place
pub record Refusal : Type 0 where
  pub number : ℕ
  pub line : ℕ
  pub place : Option ℕ

abbrev pub under : ℕ → ℕ → Refusal
under r i = record { number = r; line = i; place = none }

abbrev pub under_at : ℕ → ℕ → ℕ → Refusal
under_at r i at = record { number = r; line = i; place = some at }

pub data Verdict : Type 0 where
  accepted : ℕ → Break → Verdict
  refused : Refusal → Verdict

-- what a test finds
abbrev pub found : Bool → Refusal → Option Refusal
found true r = some r
found false r = none

-- 1: no bytes
abbrev pub no_bytes_refusal : Bytes → Option Refusal
no_bytes_refusal p = found (eqb (length p) 0) (under 1 0)

-- 2: too many bytes
abbrev pub too_many_bytes_refusal : Layout → Bytes → Option Refusal
too_many_bytes_refusal L p = found (ltb L.most_bytes (length p)) (under 2 0)

-- 3: a place where neither a character nor a break begins; 1 + LF bytes before the first such place
abbrev pub bad_character_refusal : Layout → Bytes → List Bytes → Option Refusal
bad_character_refusal L p ls = Option.map (λ at. under_at 3 (1 + line_feeds (take at p)) at) (bad_place (L.width ls) p)

-- 4: a break unlike the first one; the line that the earliest such break ends
abbrev pub mixed_breaks_refusal : List Break → Option Refusal
mixed_breaks_refusal ks = Option.map (under 4) (first_such (λ k. not (same_break (kind ks) k)) 1 ks)

-- 5: too few lines or too many; the count
abbrev pub line_count_refusal : Layout → List Bytes → Option Refusal
line_count_refusal L ls = found (not (within L.fewest_lines L.most_lines (length ls))) (under 5 (length ls))

-- 6 to 13 and 17: a rule about lines
abbrev pub about_lines : List Bytes → Rule → Option Refusal
about_lines ls r = found (r.broken ls) (under r.number r.line)

-- what each rule of the sieve finds in a payload, in order: first the whole payload, then its lines
unfoldable pub findings : Layout → Bytes → List (Option Refusal)
findings L p =
    let c = cut p in
    let ls = lines_of c in
    no_bytes_refusal p ∷ too_many_bytes_refusal L p ∷ bad_character_refusal L p ls ∷ mixed_breaks_refusal (breaks_of c) ∷ line_count_refusal L ls ∷ map (about_lines ls) L.rules

unfoldable pub first : List (Option Refusal) → Option Refusal
first [] = none
first (o ∷ os) = elim o [ some r ↦ some r | none ↦ first os ]

-- the first broken rule wins
abbrev pub decided : Bill → Option Refusal → Verdict
decided b none = accepted (length b.lines) b.break
decided b (some r) = refused r

unfoldable pub verdict : Layout → Bytes → Verdict
verdict L p = decided (bill_of p) (first (findings L p))
