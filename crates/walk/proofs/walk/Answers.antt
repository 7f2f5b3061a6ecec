-- `walk::walk` meets its contract. Assumes nothing.
use Prim.Native.Nat.{ℕ, ◌+◌, ◌≤◌, ◌<◌}
use native.Mathlib.Omega.{arith}
use mathlib.Core.List.{List}
use mathlib.Core.Path.{◌≡◌}
use lib.ListN.{length, replicate}
use borrow.Author.Tests.{lt-ltb, le-ltb}
use Rattle.sieve.specs.Places.{walk_numbers}
use Rattle.std.specs.Prelude.{Err}
use Rattle.sieve.specs.declared.Charset.{Charset}
use Rattle.sieve.specs.declared.Fault.TheVariants.{BadCharacter}
use Rattle.sieve.specs.Paper.{Answer}
use Rattle.sieve.specs.Bytes.{Bytes}
use Rattle.sieve.specs.Characters.{bad_place}
use Rattle.sieve.specs.Charsets.{of_set}
use Rattle.lines.specs.Parted.{breaks_in}
use Rattle.places.specs.Listed.{listed_short}
use Rattle.walk.specs.declared.Standing.{Standing}
use Rattle.walk.specs.Here.{Here, Arrived}
use Rattle.walk.specs.Walking.{IsTold}
use Rattle.walk.proofs.Stepping.{few}
use Rattle.walk.proofs.Coming.{all_behind}
use Rattle.walk.proofs.walk.Goals as goal

module _ {set : Charset} {s : Bytes} {l : List ℕ} {r : Standing} (arrived : Arrived set s l r) where
  -- before the end: the byte there is bad
  bad-told : {after : List ℕ} → r.at < length s → after ≡ replicate walk_numbers 0 → IsTold s (bad_place (of_set set) s) (Err (BadCharacter (1 + r.passed.feeds) r.at)) after
  bad-told h e = rw (arrived.stopped, lt-ltb r.at (length s) h) (record { told = rw arrived.here.line_feeds; places = e })

  -- at the end: nothing is bad
  to_end : length s ≤ r.at → Here set s l (length s) r.passed
  to_end h = let e : r.at ≡ length s = omega (arith, arrived.here.within) in rw e at arrived.here

  clean-told : {p : Answer} {after : List ℕ} → length s ≤ r.at → p ≡ breaks_in s → after ≡ listed_short s → IsTold s (bad_place (of_set set) s) p after
  clean-told h a b = rw (arrived.stopped, le-ltb r.at (length s) h) (record { told = a; places = b })

pub overflow_add-result : goal.overflow_add-result
overflow_add-result c = record { fits = omega (arith, c.if-at-s.true, few c.come-standing.ensures.here) }

pub counted-requires : goal.counted-requires
counted-requires c = all_behind (to_end c.come-standing.ensures c.if-at-s.false)
