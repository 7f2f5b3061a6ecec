-- How a mending ends, by what is found. Assumes nothing.
use Prim.Native.Nat.{ℕ, ◌-◌, ◌≤◌, ◌<◌}
use native.Mathlib.Nat.{sub-zero}
use native.Mathlib.Omega.{arith}
use mathlib.Core.Option.{some, none}
use mathlib.Core.Path.{◌≡◌, sym, ap, ◌∙◌}
use lib.ListN.{length, take}
use lib.Seq.{take-take}
use borrow.Author.Tests.{lt-ltb, le-ltb}
use Rattle.sieve.specs.Paper.{Answer, paper, paper_fault}
use Rattle.std.specs.Prelude.{Ok, Err}
use Rattle.sieve.specs.declared.Break.{Break}
use Rattle.sieve.specs.declared.Fault.{Fault}
use Rattle.sieve.specs.declared.Fault.TheVariants.{TooManyBytes}
use Rattle.sieve.specs.Bytes.{Bytes}
use Rattle.sieve.specs.Lines.{bill_of}
use Rattle.sieve.specs.Reading.{no_room_refusal}
use Rattle.sieve.specs.Verdict.{Refusal, accepted, refused, findings, first, verdict}
use Rattle.sieve.proofs.Findings.{settled_accepts, settled_refuses, verdict_is}
use Rattle.sieve.proofs.Firsts.{alone}
use Rattle.runs.specs.Laid.{over_fitting}
use Rattle.runs.proofs.Lays.{laid_in_lem}
use Rattle.swiss.specs.Swiss.{swiss}
use Rattle.mender.specs.declared.Repairs.{Repairs}
use Rattle.mender.specs.declared.Swept.{Swept}
use Rattle.mender.specs.Steps.{as_lf, despaced, reworked}
use Rattle.mender.specs.Sweeping.{IsSwept, IsEnd}
use Rattle.mender.specs.Mending.{Mend, mend_of, as_it_came, mend_by_steps, repairs_of, mend, mended_findings, mend_findings, most_mended, mend_answer, EndsByRoom, EndsByReader, IsMended, Mended}

-- room is asked last
module _ (m : Mend) (dest : Bytes) where
  pub within_room : length m.bytes ≤ length dest → {after : Bytes} → after ≡ over_fitting dest m.bytes → EndsByRoom m dest (Ok ((length m.bytes), m.repairs)) after
  within_room h l = let e = le-ltb _ _ h in record { answer = rw e; lent = rw e (l ∙ laid_in_lem dest m.bytes h) }

-- what the reader answers on bytes is what it finds in them
pub accepted_none : (p : Bytes) (n : ℕ) (k : Break) → verdict swiss p ≡ accepted n k → first (findings swiss p) ≡ none
accepted_none p n k v = (settled_accepts (bill_of p) (first (findings swiss p)) (sym (verdict_is swiss p) ∙ v)).0

refused_some : (p : Bytes) (r : Refusal) → verdict swiss p ≡ refused r → first (findings swiss p) ≡ some r
refused_some p r v = settled_refuses (bill_of p) (first (findings swiss p)) r (sym (verdict_is swiss p) ∙ v)

module _ (m : Mend) (dest : Bytes) {a : Answer} (is : paper a ≡ verdict swiss m.bytes) where
  -- the reader refuses mended bytes
  pub by_refusal : {f : Fault} → a ≡ Err f → EndsByReader m dest (Err f) dest
  unfolding first
  by_refusal {f} e = let o = refused_some m.bytes (paper_fault f) (sym is ∙ ap paper e) in record { answer = rw o; lent = rw o }

  -- it accepts them: then room
  pub by_room : {n : ℕ} {k : Break} → a ≡ Ok (n, k) → {r : Mended} {after : Bytes} → EndsByRoom m dest r after
      → EndsByReader m dest r after
  unfolding first
  by_room {n} {k} e h =
      let o = accepted_none m.bytes n k (sym is ∙ ap paper e) in
      let same : first (mended_findings m.bytes (length dest)) ≡ no_room_refusal (length dest) (length m.bytes) = rw o (alone (no_room_refusal (length dest) (length m.bytes))) in
      rw same h

-- the same bytes and repairs end in the same way
pub same_mend : {b c : Bytes} {m n : Repairs} → b ≡ c → m ≡ n → {dest after : Bytes} {r : Mended} → EndsByRoom (mend_of b m) dest r after → EndsByRoom (mend_of c n) dest r after
same_mend e f h = rw (← e, ← f) h

-- the bytes that the reader is asked about, and the repairs
module _ {p room : Bytes} {r : Swept} {end : ℕ} (sw : IsSwept p r room) (e : IsEnd (take (r.bytes - 0) room) end) where
  all_is : take (r.bytes - 0) room ≡ despaced p
  all_is = rw sub-zero sw.bytes

  ended : IsEnd (despaced p) end
  ended = rw all_is at e

  pub end_is : end ≡ length (reworked p)
  end_is = ended.size

  pub front_is : take (end - 0) room ≡ reworked p
  front_is = rw sub-zero (sym (take-take end r.bytes room (omega (arith, ended.inside, sw.size))) ∙ ap (take end) sw.bytes ∙ ended.bytes)

  pub repairs_are : record { breaks = r.breaks; spaces = length p - r.pairs - r.bytes; lines = r.bytes - end } ≡ repairs_of p
  repairs_are =
      let spaces : length p - r.pairs - r.bytes ≡ length (as_lf p) - length (despaced p) = omega (arith, sw.pairs, sw.size) in
      let lines : r.bytes - end ≡ length (despaced p) - length (reworked p) = omega (arith, sw.size, end_is) in
      rw (sw.breaks, spaces, lines)

-- the whole answer
module _ (p dest : Bytes) where
  -- too many bytes to mend
  pub too_many : most_mended < length p → IsMended p dest (Err TooManyBytes) dest
  unfolding mend_answer mend_findings first
  too_many h = let e = lt-ltb _ _ h in record { answer = rw e; lent = rw e }

  module _ (few : length p ≤ most_mended) where
    ends_so : (m : Mend) → mend p ≡ m → {r : Mended} {after : Bytes} → EndsByReader m dest r after → IsMended p dest r after
    unfolding mend_answer mend_findings first
    ends_so m e h =
        let f = le-ltb _ _ few in
        record { answer = rw (e, f) h.answer; lent = rw (e, f) h.lent }

    -- what the reader accepts
    pub whole_accepted : {a : Answer} {n : ℕ} {k : Break} → paper a ≡ verdict swiss p → a ≡ Ok (n, k) → {r : Mended} {after : Bytes}
        → EndsByRoom (as_it_came p) dest r after → IsMended p dest r after
    unfolding mend
    whole_accepted {n = n} {k = k} is e h = let v : verdict swiss p ≡ accepted n k = sym is ∙ ap paper e in ends_so (as_it_came p) (rw v) (by_room (as_it_came p) dest is e h)

    -- what it refuses
    pub whole_reworked : {a : Answer} {f : Fault} → paper a ≡ verdict swiss p → a ≡ Err f → {r : Mended} {after : Bytes}
        → EndsByReader (mend_by_steps p) dest r after → IsMended p dest r after
    unfolding mend
    whole_reworked {f = f} is e h = let v : verdict swiss p ≡ refused (paper_fault f) = sym is ∙ ap paper e in ends_so (mend_by_steps p) (rw v) h
