-- The verdict of a layout with more rules about lines, by what is answered without them and what they find. Assumes nothing.
use Prim.Native.Nat.{ℕ, ◌≤◌}
use native.Mathlib.Omega.{arith}
use mathlib.Core.Bool.{Bool, true, false, cond}
use mathlib.Core.List.{List}
use mathlib.Core.Option.{some, none}
use mathlib.Core.Path.{◌≡◌, refl, sym, ap, ◌∙◌}
use lib.Dec.{leb}
use lib.ListN.{length, replicate}
use borrow.Author.Tests.{ltb-false, le-leb}
use Rattle.sieve.specs.Places.{walk_numbers}
use Rattle.sieve.specs.Paper.{Answer, paper_fault, paper}
use Rattle.std.specs.Prelude.{Ok, Err}
use Rattle.sieve.specs.declared.Break.{Break}
use Rattle.sieve.specs.declared.Fault.{Fault}
use Rattle.sieve.specs.Bytes.{Bytes}
use Rattle.sieve.specs.Characters.{Width}
use Rattle.sieve.specs.Lines.{cut, lines_of, bill_of}
use Rattle.sieve.specs.Rules.{Rule, Layout}
use Rattle.sieve.specs.Verdict.{Verdict, accepted, refused, findings, first, decided, verdict}
use Rattle.sieve.specs.Whole.{limited, bare, limits_of}
use Rattle.sieve.proofs.Findings.{found_none, settled_accepts, verdict_is, clear}
use Rattle.sieve.proofs.Stages.{with_more, in_lines, before_refused, more_kept, more_broken}
use Rattle.places.specs.Listed.{greatest, listed}
use Rattle.places.proofs.Listed.{listed_length}
use Rattle.whole.specs.Judged.{judged_places, IsJudged}

found_alike : (L : Layout) (p : Bytes) (w : Width) → L.width (lines_of (cut p)) ≡ w → first (findings (limited (limits_of L) w) p) ≡ first (findings (bare L) p)
unfolding findings
found_alike L p w e = rw e

judged : (L : Layout) (p : Bytes) {r : Answer} {after : List ℕ} → verdict L p ≡ paper r → after ≡ judged_places p (paper r) → IsJudged L p r after
judged L p v l = record { answer = sym v; places = l ∙ sym (ap (judged_places p) v) }

-- from a layout to one with more rules about lines behind its own
module _ (L : Layout) (rs : List Rule) (p : Bytes) where
  -- what is refused before they are asked is refused
  pub refused_before : {f : Fault} {after : List ℕ} → IsJudged L p (Err f) after → IsJudged (with_more L rs) p (Err f) after
  refused_before {f} is = judged _ p (before_refused L rs p (paper_fault f) (sym is.answer)) (is.places ∙ sym (ap (judged_places p) is.answer))

  -- else they decide

  module _ {n : ℕ} {k : Break} {places : List ℕ} (is : IsJudged L p (Ok (n, k)) places) where
    pub kept : first (in_lines rs p) ≡ none → IsJudged (with_more L rs) p (Ok (n, k)) places
    kept nothing = judged _ p (more_kept L rs p n k (sym is.answer) nothing) (is.places ∙ sym (ap (judged_places p) is.answer))

    pub broken : {r : Answer} {after : List ℕ} (f : Fault) → first (in_lines rs p) ≡ some (paper_fault f) → r ≡ Err f → after ≡ replicate walk_numbers 0 → IsJudged (with_more L rs) p r after
    broken f found same gone = rw same (judged _ p (more_broken L rs p n k (sym is.answer) (paper_fault f) found) gone)

-- of what is accepted, the list has the places of the lines, and the count is theirs
pub counted : (L : Layout) (p : Bytes) {n : ℕ} {k : Break} {places : List ℕ} → IsJudged L p (Ok (n, k)) places → L.most_bytes ≤ greatest → (places ≡ listed p) × (n ≡ length (lines_of (cut p)))
unfolding bill_of
counted L p is few =
    let accepted-is = settled_accepts (bill_of p) (first (findings L p)) (sym (verdict_is L p) ∙ sym is.answer) in
    let short : length p ≤ L.most_bytes = ltb-false _ _ (found_none _ _ (clear L p accepted-is.0).not_too_many) in
    (is.places ∙ sym (ap (judged_places p) is.answer) ∙ rw (le-leb (length p) greatest (omega arith)), sym accepted-is.1)

-- the characters that a payload's lines choose serve as the layout's own: no other lines are asked
pub by_its_lines : (L : Layout) (p : Bytes) (w : Width) → L.width (lines_of (cut p)) ≡ w → {r : Answer} {after : List ℕ} → IsJudged (limited (limits_of L) w) p r after → IsJudged (bare L) p r after
by_its_lines L p w e is =
    let same : verdict (limited (limits_of L) w) p ≡ verdict (bare L) p = verdict_is _ p ∙ ap (decided (bill_of p)) (found_alike L p w e) ∙ sym (verdict_is (bare L) p) in
    record { answer = is.answer ∙ same; places = is.places ∙ ap (judged_places p) same }

-- the list stays as long as it is
pub judged_length : {L : Layout} {p : Bytes} {r : Answer} {after : List ℕ} → IsJudged L p r after → length after ≡ walk_numbers
judged_length {L} {p} is = rw is.places (by_cases (verdict L p))
  where
    short : (b : Bool) → length (cond b (listed p) (replicate walk_numbers 0)) ≡ walk_numbers
    short true = listed_length p
    short false = refl

    by_cases : (v : Verdict) → length (judged_places p v) ≡ walk_numbers
    by_cases (accepted n k) = short (leb (length p) greatest)
    by_cases (refused r) = refl
