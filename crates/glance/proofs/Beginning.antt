-- The first 37 bytes settle the answer: whether there are more does not matter. Assumes nothing.
use Prim.Native.Nat.{◌+◌, ◌≤◌}
use native.Mathlib.Omega.{arith}
use mathlib.Core.Bool.{Bool, true, false}
use mathlib.Core.List.{List, [], ◌∷◌, ◌++◌, map}
use mathlib.Core.Option.{Option, some, none}
use mathlib.Core.Path.{◌≡◌, refl, sym, ap}
use lib.Dec.{ltb}
use lib.ListN.{length, take, length-append, length-take}
use borrow.Author.Tests.{le-ltb, ltb-true}
use Rattle.sieve.specs.Bytes.{Bytes}
use Rattle.sieve.specs.Lines.{Next, break_bytes, glued_after, cut, lines_of}
use Rattle.sieve.specs.Verdict.{Refusal}
use Rattle.sieve.proofs.Cutting.{glued_cut, break_length}
use Rattle.lines.specs.LinesIn.{line_of}
use Rattle.glance.specs.Glance.{looked, whole_lines, found_in, unless_found, look, glance}
use Rattle.glance.proofs.Kept.{length_1, length_2, length_3, length_4}

next_length : (n : Next) (ns : List Next) → length (glued_after (n ∷ ns)) ≡ length (break_bytes n.break) + length n.line + length (glued_after ns)
next_length n ns = omega (arith, length-append (break_bytes n.break) (n.line ++ glued_after ns), length-append n.line (glued_after ns))

-- in 37 bytes line 4 is ended, if lines 1 to 4 keep their rules
ended : (l : Bytes) (ns : List Next) → found_in (l ∷ map (λ n. n.line) ns) ≡ none → looked ≤ length (l ++ glued_after ns) → 4 ≤ length (map (λ n. n.break) ns)
ended l [] h g = absurd (omega (arith, length_4 (l ∷ []) h))
ended l (a ∷ []) h g = absurd (omega (arith, length_4 (l ∷ a.line ∷ []) h))
ended l (a ∷ b ∷ []) h g = absurd (omega (arith, length_4 (l ∷ a.line ∷ b.line ∷ []) h))
ended l (a ∷ b ∷ c ∷ []) h g =
    let ls = l ∷ a.line ∷ b.line ∷ c.line ∷ [] in
    absurd (omega (arith, g, length-append l (glued_after (a ∷ b ∷ c ∷ [])), next_length a (b ∷ c ∷ []), next_length b (c ∷ []), next_length c [], break_length a.break, break_length b.break, break_length c.break, length_1 ls h, length_2 ls h, length_3 ls h, length_4 ls h))
ended l (a ∷ b ∷ c ∷ d ∷ ns) h g = omega arith

more_or_not : (s : Bytes) → looked ≤ length s → look s true ≡ look s false
unfolding look
more_or_not s h = by_cases (found_in (lines_of (cut s))) refl
  where
    found : (v w : Bool) (r : Refusal) → unless_found v (some r) (line_of s 4) ≡ unless_found w (some r) (line_of s 4)
    found true true r = refl
    found true false r = refl
    found false true r = refl
    found false false r = refl

    by_cases : (o : Option Refusal) → found_in (lines_of (cut s)) ≡ o → unless_found (ltb (whole_lines s true) 4) o (line_of s 4) ≡ unless_found (ltb (whole_lines s false) 4) o (line_of s 4)
    by_cases (some r) e = found (ltb (whole_lines s true) 4) (ltb (whole_lines s false) 4) r
    by_cases none e =
        let four = ended (cut s).first (cut s).rest e (omega (arith, h, ap length (glued_cut s))) in
        rw (le-ltb (whole_lines s true) 4 (omega (arith, four)), le-ltb (whole_lines s false) 4 (omega (arith, four)))

pub beginning_alone : (p q : Bytes) → take looked p ≡ take looked q → glance p ≡ glance q
unfolding glance
beginning_alone p q e = by_cases (ltb looked (length p)) refl (ltb looked (length q)) refl
  where
    by_cases : (a : Bool) → ltb looked (length p) ≡ a → (b : Bool) → ltb looked (length q) ≡ b → look (take looked p) a ≡ look (take looked q) b
    by_cases true f true g = rw e
    by_cases false f false g = rw e
    by_cases true f false g = rw (← e) (more_or_not (take looked p) (omega (arith, length-take looked p, ltb-true looked (length p) f)))
    by_cases false f true g = rw e (sym (more_or_not (take looked q) (omega (arith, length-take looked q, ltb-true looked (length q) g))))
