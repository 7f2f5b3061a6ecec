-- How a bit is handed over, and how a scan is closed. Assumes nothing.
use Prim.Native.Nat.{ℕ, ◌+◌, ◌-◌, ◌≤◌, ◌<◌}
use native.Mathlib.Nat.{sub-zero}
use mathlib.Core.Bool.{Bool, true, false}
use mathlib.Core.List.{List, ◌++◌}
use mathlib.Core.Logic.{◌⊎◌, inl, inr}
use mathlib.Core.Path.{◌≡◌, refl}
use lib.Dec.{ltb}
use lib.ListN.{length, take, drop}
use borrow.Author.Tests.{ltb-true, ltb-false, lt-ltb, le-ltb}
use Rattle.sieve.specs.Paper.{Answer}
use Rattle.std.specs.Prelude.{Err}
use Rattle.sieve.specs.declared.Fault.TheVariants.{TooManyBytes}
use Rattle.sieve.specs.Bytes.{Bytes}
use Rattle.sieve.specs.Reading.{IsRead}
use Rattle.swiss.specs.Limits.{most_bytes}
use Rattle.swiss.specs.declared.Edition.{Edition}
use Rattle.swiss.specs.Swiss.{swiss_in}
use Rattle.scanner.specs.declared.Scan.{Scan}
use Rattle.scanner.specs.Scanning.{too_many, held_in, bytes_held, most_in, handed_over, close_answer, IsClosed}

module _ (t : Scan) (b : Bytes) where
  -- a bit does not fit, or it does
  pub over_or_in : (most_in t.bytes < t.len + length b) ⊎ (t.len + length b ≤ most_in t.bytes)
  over_or_in = by_cases (ltb (most_in t.bytes) (t.len + length b)) refl
    where
      by_cases : (o : Bool) → ltb (most_in t.bytes) (t.len + length b) ≡ o → (most_in t.bytes < t.len + length b) ⊎ (t.len + length b ≤ most_in t.bytes)
      by_cases true e = inl (ltb-true (most_in t.bytes) (t.len + length b) e)
      by_cases false e = inr (ltb-false (most_in t.bytes) (t.len + length b) e)

  pub handed_over_lem : most_in t.bytes < t.len + length b → handed_over t b ≡ held_in t.bytes too_many
  unfolding handed_over
  handed_over_lem h = rw (lt-ltb (most_in t.bytes) (t.len + length b) h)

  pub handed_in : t.len + length b ≤ most_in t.bytes → handed_over t b ≡ held_in (bytes_held t ++ (b ++ drop (t.len + length b) t.bytes)) (t.len + length b)
  unfolding handed_over
  handed_in h = rw (le-ltb (most_in t.bytes) (t.len + length b) h)

module _ (ed : Edition) (t : Scan) (list : List ℕ) where
  pub over_closed : most_bytes < t.len → IsClosed ed t list (Err TooManyBytes) list
  unfolding close_answer
  over_closed h = let e = lt-ltb _ _ h in record { answer = rw e; lent = rw e }

  pub held_closed : t.len ≤ most_bytes → {r : Answer} {after : List ℕ} → IsRead (swiss_in ed) (take (t.len - 0) t.bytes) list r after → IsClosed ed t list r after
  unfolding close_answer
  held_closed h is =
      let e = le-ltb _ _ h in
      let all : IsRead (swiss_in ed) (bytes_held t) list _ _ = rw sub-zero at is in
      record { answer = rw e all.answer; lent = rw e all.lent }
