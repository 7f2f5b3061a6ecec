-- A packed number loses nothing but a bad byte's place: what is below 1000 is a count or a length, the rest a refusal; and each gives its parts back. Assumes nothing.
use Prim.Native.Nat.{ℕ, ◌≤◌, ◌<◌}
use native.Mathlib.Omega.{arith}
use mathlib.Core.Path.{◌≡◌, refl}
use lib.Dec.{lit≤}
use Rattle.sieve.specs.declared.Break.{Break}
use Rattle.sieve.specs.declared.Break.TheVariants.{Lf, CrLf}
use Rattle.sieve.specs.declared.Fault.{Fault}
use Rattle.sieve.specs.Paper.{paper_fault}
use Rattle.sieve.specs.Verdict.{Refusal}
use Rattle.sieve.proofs.Numbers.{low_number}
use Rattle.packing.specs.Packing.{shift, packed_refusal, packed_place, mark, packed_count}

pub low_mark : (k : Break) → mark k ≤ 100
low_mark Lf = lit≤ tt
low_mark CrLf = lit≤ tt

pub count_below : (n : ℕ) (k : Break) → n < 100 → packed_count n k < shift
count_below n k few = omega (arith, low_mark k)

pub refusal_above : (f : Fault) → shift ≤ packed_refusal (paper_fault f)
refusal_above f = omega (arith, low_number f)

pub one_number_one_line : (r s : Refusal) → r.line < shift → s.line < shift → packed_refusal r ≡ packed_refusal s → (r.number ≡ s.number) × (r.line ≡ s.line)
one_number_one_line r s a b e = (omega arith, omega arith)

pub one_start_one_length : (at to m n : ℕ) → m < shift → n < shift → packed_place at m ≡ packed_place to n → (at ≡ to) × (m ≡ n)
one_start_one_length at to m n a b e = (omega arith, omega arith)

pub one_count_one_break : (m n : ℕ) (j k : Break) → m < 100 → n < 100 → packed_count m j ≡ packed_count n k → (m ≡ n) × (j ≡ k)
one_count_one_break m n Lf Lf a b e = (omega arith, refl)
one_count_one_break m n Lf CrLf a b e = absurd (omega arith)
one_count_one_break m n CrLf Lf a b e = absurd (omega arith)
one_count_one_break m n CrLf CrLf a b e = (omega arith, refl)
