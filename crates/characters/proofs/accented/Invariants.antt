use Prim.Native.Nat.{◌+◌, ◌*◌, ◌≤◌}
use mathlib.Core.Path.{◌≡◌}
use lib.ListN.{length, drop}
use Rattle.std.specs.Slice.Iter.{chunks_exact_rest, chunks_exact_size}
use Rattle.characters.specs.Runs.{accents}
use Rattle.characters.proofs.accented.Given as goal

abbrev pub invariant-loop-two : goal.invariant-loop-two
invariant-loop-two l = record {
  few : l.n + length (chunks_exact_rest l.two-iterator) ≤ length l.s;
  by_two : chunks_exact_size l.two-iterator ≡ 2;
  all : 2 * accents (drop l.from l.s) ≡ l.n + 2 * accents (chunks_exact_rest l.two-iterator);
}
