-- The line that starts at a place, and what comes after it: what `line_at` tells its callers. Assumes nothing.
use Prim.Native.Nat.{ℕ, ◌+◌, ◌-◌, ◌≤◌}
use native.Mathlib.Nat.{add-zero}
use native.Mathlib.Omega.{arith}
use mathlib.Core.List.{List, [], ◌∷◌, ◌++◌}
use mathlib.Core.Logic.{◌≢◌}
use mathlib.Core.Path.{◌≡◌, refl, sym, ap, ap₂, ◌∙◌}
use lib.ListN.{length, take, drop, length-take, length-drop}
use lib.Seq.{drop-drop, drop-length, drop-append_seam}
use Rattle.sieve.specs.declared.Break.{Break}
use Rattle.sieve.specs.declared.Break.TheVariants.{Lf, CrLf}
use Rattle.sieve.specs.Bytes.{Bytes}
use Rattle.sieve.proofs.Cutting.{break_length}
use Rattle.sieve.specs.Lines.{Next, break_bytes, cut}
use Rattle.sieve.specs.Characters.{break_width}
use Rattle.lines.specs.declared.LineAt.{LineAt}
use Rattle.lines.specs.Results.{IsLineAt}
use Rattle.lines.proofs.Fronts.{break_fits}
use Rattle.lines.proofs.FirstLine.{FirstLine, only, followed, first_line, first_in_front}

no_break : break_width [] ≡ 0
unfolding break_width
no_break = refl

width_of : (k : Break) (s : Bytes) → break_width (break_bytes k ++ s) ≡ length (break_bytes k)
unfolding break_width
width_of Lf s = refl
width_of CrLf s = refl

pub some_width : (k : Break) → length (break_bytes k) ≢ 0
some_width k e = omega (arith, break_length k)

-- some bytes as what a break parts from the line before: the break with their first line, and their other lines
abbrev pub behind : Break → Bytes → List Next
behind k s = record { break = k; line = (cut s).first } ∷ (cut s).rest

-- what comes after the line that starts at place `at`: nothing; or a break, and the bytes after it
pub data Onward (s : Bytes) (at : ℕ) (r : LineAt) : Type 0 where
  nothing : r.next ≡ r.end → (cut (drop at s)).rest ≡ [] → Onward s at r
  a_break : (k : Break) → r.next ≡ r.end + length (break_bytes k) → (cut (drop at s)).rest ≡ behind k (drop r.next s) → Onward s at r

module _ (s : Bytes) (at : ℕ) (r : LineAt) (is : IsLineAt s at r) where
  pub onward : Onward s at r
  onward = by_cases (first_line (drop at s)) refl
    where
      by_cases : {t : Bytes} → FirstLine t → drop at s ≡ t → Onward s at r
      by_cases (only l h) e =
          let end : r.end ≡ at + length l = is.end ∙ rw (e, h) in
          let rest : drop r.end s ≡ [] = rw (end, ← drop-drop (length l) at s, e, drop-length l) in
          nothing (is.next ∙ rw (rest, no_break) (add-zero r.end)) (rw (e, h))
      by_cases (followed l k t h) e =
          let end : r.end ≡ at + length l = is.end ∙ rw (e, h) in
          let rest : drop r.end s ≡ break_bytes k ++ t = rw (end, ← drop-drop (length l) at s, e, drop-append_seam l (break_bytes k ++ t)) in
          let next : r.next ≡ r.end + length (break_bytes k) = is.next ∙ rw (rest, width_of k t) in
          let beyond : drop r.next s ≡ t = rw (next, ← drop-drop (length (break_bytes k)) r.end s, rest, drop-append_seam (break_bytes k) t) in
          a_break k next (rw (e, h, beyond))

  -- its bytes are those from its start to its end
  pub line_is : take (r.end - at) (drop at s) ≡ (cut (drop at s)).first
  line_is =
      let q : r.end - at ≡ length (cut (drop at s)).first = omega (arith, is.end) in
      rw q (first_in_front (first_line (drop at s)))

  -- the next line starts within the bytes
  pub within : at ≤ length s → r.next ≤ length s
  within h =
      let t = drop at s in
      omega (arith, is.end, is.next, ap length (first_in_front (first_line t)), length-take (length (cut t).first) t, length-drop at s, break_fits (drop r.end s), length-drop r.end s)

-- a line has one end, and one place where the next starts
pub one_line : (s : Bytes) (at : ℕ) (r q : LineAt) → IsLineAt s at r → IsLineAt s at q → r ≡ q
one_line s at r q h k =
    let e : r.end ≡ q.end = h.end ∙ sym k.end in
    ap₂ {C = LineAt} (λ (a b : ℕ). record { end = a; next = b }) e (h.next ∙ ap (λ (a : ℕ). a + break_width (drop a s)) e ∙ sym k.next)
