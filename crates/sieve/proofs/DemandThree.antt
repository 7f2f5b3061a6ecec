-- Demand 3 over any layout: the theorems, each in plain words. Assumes nothing.
use Prim.Native.Nat.{ℕ, ◌≤◌}
use native.Mathlib.Nat.{le_antisymm}
use mathlib.Core.List.{List, ◌∷◌}
use mathlib.Core.Path.{◌≡◌, refl, sym, ◌∙◌, ap, subst, fun_ext}
use Rattle.sieve.specs.declared.Break.{Break}
use Rattle.sieve.specs.Bytes.{Bytes}
use Rattle.sieve.specs.Lines.{Bill, cut, glued, joined, written, bill_of}
use Rattle.sieve.specs.Rules.{Layout}
use Rattle.sieve.specs.Verdict.{Refusal, Verdict, accepted, refused, verdict}
use Rattle.sieve.specs.Lawful.{Clean, Lawful}
use Rattle.sieve.specs.Keeps.{Keeps}
use Rattle.sieve.specs.Breaks.{Breaks}
use Rattle.sieve.specs.Demand.{AcceptsExactly, RefusesEarliest, DemandThree}
use Rattle.sieve.proofs.Cutting.{glued_cut, Each, nexts, cut_joined}
use Rattle.sieve.proofs.Walking.{text_clean}
use Rattle.sieve.proofs.Accepts.{read_back, accepts_exactly}
use Rattle.sieve.proofs.Earliest.{refuses_earliest, breaks_one}

-- any bytes are what their lines and breaks write
pub any_bytes : (p : Bytes) → glued (cut p) ≡ p
any_bytes = glued_cut

-- lines without CR and LF that are written are cut into the same lines and breaks
pub clean_lines : (k : Break) (l : Bytes) (ls : List Bytes) → Each Clean (l ∷ ls) → cut (joined k (l ∷ ls)) ≡ record { first = l; rest = nexts k ls }
clean_lines = cut_joined

module _ (L : Layout) (laws : (ls : List Bytes) → Lawful (L.width ls)) where
  -- no line of a bill that keeps the rules holds CR or LF
  pub keeps_clean : (b : Bill) → Keeps L b → Each Clean b.lines
  keeps_clean b h l m = text_clean (L.width b.lines) (laws b.lines) (h.text l m)

  -- the verdict of a layout of two lines or more meets demand 3
  pub demand_three : 2 ≤ L.fewest_lines → DemandThree L (verdict L)
  demand_three two = record { accepts = accepts_exactly L laws two; refuses = refuses_earliest L }

  -- a bill keeps the rules if the verdict accepts what it is written as, and it is the bill that those bytes are read as
  pub accepted_keeps : 2 ≤ L.fewest_lines → (b : Bill) (n : ℕ) (k : Break) → bill_of (written b) ≡ b → verdict L (written b) ≡ accepted n k → Keeps L b
  accepted_keeps two b n k e h =
      let (c, is) = (accepts_exactly L laws two).sound (written b) n k h in
      subst (Keeps L) (sym (read_back L laws two c is.keeps) ∙ ap bill_of is.writes ∙ e) is.keeps

-- functions that accept exactly the bills of a layout accept the same, with the same count and break
pub accepts_same : (L : Layout) (f g : Bytes → Verdict) → AcceptsExactly L f → AcceptsExactly L g → (p : Bytes) (n : ℕ) (k : Break) → f p ≡ accepted n k → g p ≡ accepted n k
accepts_same L f g F G p n k h = let (b, is) = F.sound p n k h in rw (is.writes, is.count, is.break) at (G.complete b is.keeps)

-- functions that refuse under the earliest broken rule say the same of what both refuse
pub refuses_same : (L : Layout) (f g : Bytes → Verdict) → RefusesEarliest L f → RefusesEarliest L g → (p : Bytes) (q r : Refusal) → f p ≡ refused q → g p ≡ refused r → q ≡ r
refuses_same L f g F G p q r h k =
    let a = F.earliest p q h in
    let b = G.earliest p r k in
    let same : a.position ≡ b.position = le_antisymm (a.before_all _ _ b.breaks) (b.before_all _ _ a.breaks) in
    breaks_one L p a.breaks (subst (λ (i : ℕ). Breaks L p i r) (sym same) b.breaks)

-- demand 3 leaves one verdict for every payload
pub one_verdict : (L : Layout) (f g : Bytes → Verdict) → DemandThree L f → DemandThree L g → (p : Bytes) → f p ≡ g p
one_verdict L f g F G p = by_cases (f p) (g p) refl refl
  where
    by_cases : (v w : Verdict) → f p ≡ v → g p ≡ w → f p ≡ g p
    by_cases (accepted n k) w e d = e ∙ sym (accepts_same L f g F.accepts G.accepts p n k e)
    by_cases (refused q) (accepted n k) e d = accepts_same L g f G.accepts F.accepts p n k d ∙ sym d
    by_cases (refused q) (refused r) e d = e ∙ ap refused (refuses_same L f g F.refuses G.refuses p q r e d) ∙ sym d

-- a function that gives the verdict of a layout meets what the verdict meets
pub carried : (L : Layout) (f : Bytes → Verdict) → ((p : Bytes) → f p ≡ verdict L p) → DemandThree L (verdict L) → DemandThree L f
carried L f e d = subst (DemandThree L) (sym (fun_ext e)) d
