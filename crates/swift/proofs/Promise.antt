-- What a user of the fields may rely on, stated on their contract. Assumes nothing.
use Rattle.std.specs.Prelude.{Ok, Err}
use Prim.Native.Nat.{ℕ}
use native.Mathlib.Omega.{arith}
use mathlib.Core.Option.{Option, some, none}
use mathlib.Core.Path.{◌≡◌, refl, sym, ap, ◌∙◌}
use lib.ListN.{length}
use Rattle.sieve.specs.declared.Fault.{Fault}
use Rattle.sieve.specs.Bytes.{Bytes, over}
use Rattle.sieve.specs.Lines.{cut, lines_of}
use Rattle.sieve.specs.Paper.{paper_fault}
use Rattle.sieve.specs.Rules.{Layout}
use Rattle.sieve.specs.Verdict.{Refusal, first}
use Rattle.sieve.proofs.PaperLosesNothing.{one_fault}
use Rattle.swift.specs.declared.Counts.{Counts}
use Rattle.swift.specs.Fields.{contents, counts_of}
use Rattle.swift.specs.Answering.{mapped, not_mapped, mapped_onto, field_findings, fields_answer, paper_mapped, IsMapped, Mapped}

-- two answers that say the same in the paper's words are equal
one_mapped : (q r : Mapped) → paper_mapped q ≡ paper_mapped r → q ≡ r
one_mapped (Ok c) (Ok d) e = ap Ok cc
one_mapped (Ok c) (Err g) e = let z : ◌≡◌ {A = ℕ} 0 1 = cc in absurd (omega arith)
one_mapped (Err f) (Ok d) e = let z : ◌≡◌ {A = ℕ} 0 1 = cc in absurd (omega arith)
one_mapped (Err f) (Err g) e = ap Err (one_fault f g cc)

-- one answer, and one content of the destination
pub one_mapping : {L : Layout} {p dest : Bytes} {q r : Mapped} {a b : Bytes} → IsMapped L p dest q a → IsMapped L p dest r b → (q ≡ r) × (a ≡ b)
one_mapping {q = q} {r = r} h k = (one_mapped q r (h.answer ∙ sym k.answer), h.lent ∙ sym k.lent)

-- a refusal changes no byte
pub refusal_changes_nothing : {L : Layout} {p dest : Bytes} {f : Fault} {after : Bytes} → IsMapped L p dest (Err f) after → after ≡ dest
unfolding fields_answer
refusal_changes_nothing {L} {p} {dest} {f} h = h.lent ∙ by_cases (first (field_findings L p _)) h.answer
  where
    by_cases : (o : Option Refusal) → not_mapped (paper_fault f) ≡ (mapped_onto (lines_of (cut p)) dest o).answer → (mapped_onto (lines_of (cut p)) dest o).lent ≡ dest
    by_cases none e = let z : ◌≡◌ {A = ℕ} 0 1 = cc in absurd (omega arith)
    by_cases (some r) e = refl

-- else the counts are told, the contents lie in the front, and what lies behind them stays
pub laid_in_front : {L : Layout} {p dest : Bytes} {c : Counts} {after : Bytes} → IsMapped L p dest (Ok c) after → (c ≡ counts_of (lines_of (cut p))) × (after ≡ over dest (contents (lines_of (cut p))))
unfolding fields_answer
laid_in_front {L} {p} {dest} {c} h = let (told, is) = by_cases (first (field_findings L p _)) h.answer in (told, h.lent ∙ is)
  where
    by_cases : (o : Option Refusal) → mapped c ≡ (mapped_onto (lines_of (cut p)) dest o).answer → (c ≡ counts_of (lines_of (cut p))) × ((mapped_onto (lines_of (cut p)) dest o).lent ≡ over dest (contents (lines_of (cut p))))
    by_cases none e = (cc, refl)
    by_cases (some r) e = let z : ◌≡◌ {A = ℕ} 0 1 = cc in absurd (omega arith)

-- what is found is what is told: nothing where the fields are laid, else the refusal
pub laid_found_nothing : {L : Layout} {p dest : Bytes} {c : Counts} {after : Bytes} → IsMapped L p dest (Ok c) after → first (field_findings L p (length dest)) ≡ none
unfolding fields_answer
laid_found_nothing {L} {p} {dest} {c} h = by_cases (first (field_findings L p (length dest))) h.answer
  where
    by_cases : (o : Option Refusal) → mapped c ≡ (mapped_onto (lines_of (cut p)) dest o).answer → o ≡ none
    by_cases none e = refl
    by_cases (some r) e = let z : ◌≡◌ {A = ℕ} 0 1 = cc in absurd (omega arith)

pub refused_found : {L : Layout} {p dest : Bytes} {f : Fault} {after : Bytes} → IsMapped L p dest (Err f) after → first (field_findings L p (length dest)) ≡ some (paper_fault f)
unfolding fields_answer
refused_found {L} {p} {dest} {f} h = by_cases (first (field_findings L p (length dest))) h.answer
  where
    by_cases : (o : Option Refusal) → not_mapped (paper_fault f) ≡ (mapped_onto (lines_of (cut p)) dest o).answer → o ≡ some (paper_fault f)
    by_cases none e = let z : ◌≡◌ {A = ℕ} 0 1 = cc in absurd (omega arith)
    by_cases (some r) e = let s : paper_fault f ≡ r = cc in ap some (sym s)
