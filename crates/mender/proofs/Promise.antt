-- What a user of the mender may rely on, stated on its contract. Assumes nothing.
use Prim.Native.Nat.{ℕ, ◌≤◌}
use native.Mathlib.Omega.{arith}
use mathlib.Core.Option.{Option, some, none}
use mathlib.Core.Path.{◌≡◌, refl, sym, ap, subst₂, ◌∙◌}
use lib.ListN.{length, take, drop}
use lib.Seq.{take-append_seam}
use borrow.Author.Tests.{ltb-false}
use Rattle.std.specs.Prelude.{Ok, Err}
use Rattle.sieve.specs.declared.Break.{Break}
use Rattle.sieve.specs.declared.Fault.{Fault}
use Rattle.sieve.specs.Bytes.{Bytes, over}
use Rattle.sieve.specs.Lines.{bill_of}
use Rattle.sieve.specs.Paper.{paper_fault}
use Rattle.sieve.specs.Verdict.{Refusal, Verdict, accepted, refused, findings, first, decided, verdict}
use Rattle.sieve.proofs.Findings.{each_none, found_none, verdict_is, clear}
use Rattle.sieve.proofs.PaperLosesNothing.{one_fault}
use Rattle.runs.specs.Laid.{over_fitting}
use Rattle.runs.proofs.Lays.{laid_in_lem}
use Rattle.swiss.specs.Swiss.{swiss}
use Rattle.mender.specs.declared.Repairs.{Repairs}
use Rattle.mender.specs.Mending.{mended, not_mended, most_mended, no_repairs, as_it_came, repairs_of, mend_by, mend, mend_findings, mended_onto, mend_answer, paper_mended, IsMended, Mended}
use Rattle.mender.specs.Promised.{Like, firm_bytes, AddsUp, Mends, came_unchanged, by_steps, AreFew}
use Rattle.mender.specs.Steps.{reworked}
use Rattle.mender.proofs.Likeness.{reworked_like, same_firm}
use Rattle.mender.proofs.Counted.{few_of, adds_up}
use Rattle.mender.proofs.Answers.{accepted_none, within_room, whole_accepted}

one_mended : (q r : Mended) → paper_mended q ≡ paper_mended r → q ≡ r
one_mended (Ok (n, c)) (Ok (m, d)) e = let f : n ≡ m = cc in let g : c ≡ d = cc in cc
one_mended (Ok (n, c)) (Err f) e = let z : ◌≡◌ {A = ℕ} 0 1 = cc in absurd (omega arith)
one_mended (Err f) (Ok (n, c)) e = let z : ◌≡◌ {A = ℕ} 0 1 = cc in absurd (omega arith)
one_mended (Err f) (Err g) e = ap Err (one_fault f g cc)

-- one answer, and one content of the destination
pub one_mending : {p dest : Bytes} {q r : Mended} {a b : Bytes} → IsMended p dest q a → IsMended p dest r b → (q ≡ r) × (a ≡ b)
one_mending {q = q} {r = r} h k = (one_mended q r (h.answer ∙ sym k.answer), h.lent ∙ sym k.lent)

-- what the reader accepts comes back unchanged, with all counts 0
pub accepted_is_unchanged : (p : Bytes) (n : ℕ) (k : Break) → verdict swiss p ≡ accepted n k → mend p ≡ as_it_came p
unfolding mend
accepted_is_unchanged p n k v = rw v

short : (p : Bytes) → first (findings swiss p) ≡ none → length p ≤ 997
unfolding swiss
short p nothing = ltb-false 997 (length p) (found_none _ _ (clear swiss p nothing).not_too_many)

-- so the mender writes it as it is, given room
pub accepted_comes_back : (p dest : Bytes) {after : Bytes} {r : Mended} (n : ℕ) (k : Break) → verdict swiss p ≡ accepted n k → length p ≤ length dest → IsMended p dest r after
    → (r ≡ Ok ((length p), no_repairs)) × (after ≡ over dest p)
accepted_comes_back p dest n k v fits h =
    let few : length p ≤ most_mended = omega (arith, short p (accepted_none p n k v)) in
    let made : IsMended p dest (Ok ((length p), no_repairs)) (over_fitting dest p) = whole_accepted p dest few {a = Ok (n, k)} (sym v) refl (within_room (as_it_came p) dest fits refl) in
    let (e, l) = one_mending h made in
    (e, l ∙ laid_in_lem dest p fits)

-- a refusal is what is found, and it changes nothing
pub record RefusedSo (p dest after : Bytes) (f : Fault) : Type 0 where
  pub is_found : first (mend_findings p (mend p).bytes (length dest)) ≡ some (paper_fault f)
  pub unchanged : after ≡ dest

pub refusal_changes_nothing : {p dest after : Bytes} {f : Fault} → IsMended p dest (Err f) after → RefusedSo p dest after f
unfolding mend_answer
refusal_changes_nothing {p} {dest} {after} {f} h = by_cases (first (mend_findings p (mend p).bytes (length dest))) refl h.answer h.lent
  where
    by_cases : (o : Option Refusal) → first (mend_findings p (mend p).bytes (length dest)) ≡ o → not_mended (paper_fault f) ≡ (mended_onto (mend p) dest o).answer → after ≡ (mended_onto (mend p) dest o).lent → RefusedSo p dest after f
    by_cases none e a l = let z : ◌≡◌ {A = ℕ} 0 1 = cc in absurd (omega arith)
    by_cases (some r) e a l = let g : paper_fault f ≡ r = cc in record { is_found = e ∙ ap some (sym g); unchanged = l }

-- what is written: the mended bytes, in the front of the destination, where nothing is found
pub record WrittenSo (p dest after : Bytes) (n : ℕ) (c : Repairs) : Type 0 where
  pub bytes : after ≡ over dest (mend p).bytes
  pub size : n ≡ length (mend p).bytes
  pub repairs : c ≡ (mend p).repairs
  pub nothing_found : first (mend_findings p (mend p).bytes (length dest)) ≡ none

pub written_so : {p dest after : Bytes} {n : ℕ} {c : Repairs} → IsMended p dest (Ok (n, c)) after → WrittenSo p dest after n c
unfolding mend_answer
written_so {p} {dest} {after} {n} {c} h = by_cases (first (mend_findings p (mend p).bytes (length dest))) refl h.answer h.lent
  where
    by_cases : (o : Option Refusal) → first (mend_findings p (mend p).bytes (length dest)) ≡ o → mended n c ≡ (mended_onto (mend p) dest o).answer → after ≡ (mended_onto (mend p) dest o).lent → WrittenSo p dest after n c
    by_cases none e a l = record { bytes = l; size = cc; repairs = cc; nothing_found = e }
    by_cases (some r) e a l = let z : ◌≡◌ {A = ℕ} 0 1 = cc in absurd (omega arith)

-- a payload itself, or what the four steps make of it
either_way : (p : Bytes) → Mends p (mend p).bytes (mend p).repairs
unfolding mend
either_way p = by_cases (verdict swiss p)
  where
    by_cases : (v : Verdict) → Mends p (mend_by v p).bytes (mend_by v p).repairs
    by_cases (accepted n k) = came_unchanged
    by_cases (refused r) = by_steps (reworked_like p) (adds_up p)

few_repairs : {p out : Bytes} {c : Repairs} → length p ≤ most_mended → Mends p out c → AreFew c
few_repairs h came_unchanged = record { breaks = omega arith; spaces = omega arith; lines = omega arith }
few_repairs {p} h (by_steps like a) = record { breaks = omega (arith, a.breaks, few_of 13 p); spaces = omega (arith, a.lengths); lines = omega (arith, a.lengths) }

same_firms : {p out : Bytes} {c : Repairs} → Mends p out c → firm_bytes out ≡ firm_bytes p
same_firms came_unchanged = refl
same_firms (by_steps like a) = sym (same_firm like)

module _ {p dest after : Bytes} {n : ℕ} {c : Repairs} (h : IsMended p dest (Ok (n, c)) after) where
  abbrev out : Bytes
  out = (mend p).bytes

  -- the first n bytes of the destination are the mended bytes
  pub written_first : take n after ≡ out
  written_first = let w = written_so h in rw (w.bytes, w.size) (take-append_seam out (drop (length out) dest))

  none_found : first (findings swiss out) ≡ none
  unfolding mend_findings
  none_found = each_none (mend_findings p out (length dest)) (written_so h).nothing_found 1

  -- the reader accepts what is written
  pub written_is_accepted : verdict swiss (take n after) ≡ accepted (length (bill_of out).lines) (bill_of out).break
  written_is_accepted = ap (verdict swiss) written_first ∙ verdict_is swiss out ∙ ap (decided (bill_of out)) none_found

  -- so mending it again changes nothing
  pub mended_stays : mend (take n after) ≡ as_it_came (take n after)
  mended_stays = accepted_is_unchanged (take n after) _ _ written_is_accepted

  pub mended_again : {room later : Bytes} {r : Mended} → length (take n after) ≤ length room → IsMended (take n after) room r later
      → (r ≡ Ok ((length (take n after)), no_repairs)) × (later ≡ over room (take n after))
  mended_again {room} = accepted_comes_back (take n after) room _ _ written_is_accepted

  -- no other byte differs, and the counts say exactly what went
  pub mended_is_like : Mends p (take n after) c
  mended_is_like = subst₂ (Mends p) (sym written_first) (sym (written_so h).repairs) (either_way p)

  -- so all bytes but CR, LF and space are the same, in the same order
  pub firm_bytes_stay : firm_bytes (take n after) ≡ firm_bytes p
  firm_bytes_stay = same_firms mended_is_like

  -- what is answered and counted are small numbers
  pub small_counts : AreFew c × (n ≤ 997)
  unfolding mend_findings
  small_counts =
      let w = written_so h in
      let few = ltb-false most_mended (length p) (found_none _ _ (each_none (mend_findings p out (length dest)) w.nothing_found 0)) in
      (few_repairs few mended_is_like, omega (arith, w.size, short out none_found))

-- of a payload that the reader refuses: what the steps leave is like it, and the counts add up

pub steps_leave : (p : Bytes) → Like 1 p (reworked p)
steps_leave = reworked_like

pub counts_add_up : (p : Bytes) → AddsUp p (reworked p) (repairs_of p)
counts_add_up = adds_up
