-- The bytes of a character or a break that begins here are there; a break holds one LF, and a character none. Assumes nothing.
use Prim.Native.Nat.{ℕ, ◌≤◌}
use native.Mathlib.Nat.{zero-add}
use native.Mathlib.Omega.{arith}
use mathlib.Core.List.{[], ◌∷◌}
use mathlib.Core.Logic.{◌≢◌}
use mathlib.Core.Path.{◌≡◌, refl}
use lib.ListN.{length, take}
use borrow.Author.Tests.{ne_eqb}
use Rattle.sieve.specs.declared.Charset.{Charset}
use Rattle.sieve.specs.Bytes.{Bytes}
use Rattle.sieve.specs.Characters.{break_width, line_feeds}
use Rattle.sieve.specs.Lawful.{Unbroken, no_more, one_more}
use Rattle.sieve.proofs.Heads.{Head, lf, crlf, other, head}
use Rattle.sieve.specs.Charsets.{of_set}
use Rattle.sieve.proofs.Charsets.{set_lawful}

-- the first n bytes are there, and f of them are LF
pub record Front (n f : ℕ) (s : Bytes) : Type 0 where
  pub there : n ≤ length s
  pub feeds : line_feeds (take n s) ≡ f

unbroken_front : {n : ℕ} {s : Bytes} → Unbroken n s → Front n 0 s
unfolding line_feeds
unbroken_front no_more = record { there = omega arith; feeds = refl }
unbroken_front (one_more {x = x} a b p) =
    let r = unbroken_front p in record { there = omega arith; feeds = rw (ne_eqb x 10 a, zero-add) r.feeds }

-- a character of any set holds no LF
pub character_front : (set : Charset) (s : Bytes) → Front (of_set set s) 0 s
character_front set s = unbroken_front ((set_lawful set).unbroken s)

-- a break is there, and holds one
pub break_fits : (s : Bytes) → break_width s ≤ length s
unfolding break_width
break_fits [] = omega arith
break_fits (x ∷ s) = by_cases (head x s)
  where
    by_cases : {x : ℕ} {s : Bytes} → Head x s → break_width (x ∷ s) ≤ length (x ∷ s)
    by_cases lf = omega arith
    by_cases crlf = omega arith
    by_cases (other e f) = rw (e, f) (omega arith)

pub break_front : (s : Bytes) → break_width s ≢ 0 → Front (break_width s) 1 s
unfolding break_width line_feeds
break_front s h = record { there = break_fits s; feeds = along s h }
  where
    one : {x : ℕ} {s : Bytes} → Head x s → break_width (x ∷ s) ≢ 0 → line_feeds (take (break_width (x ∷ s)) (x ∷ s)) ≡ 1
    one lf h = refl
    one crlf h = refl
    one (other e f) h = absurd (h (rw (e, f)))

    along : (s : Bytes) → break_width s ≢ 0 → line_feeds (take (break_width s) s) ≡ 1
    along [] h = absurd (h refl)
    along (x ∷ s) h = one (head x s) h
