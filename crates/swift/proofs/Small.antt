-- What is counted of the fields of an accepted bill is small. Assumes nothing.
use Prim.Native.Nat.{ℕ, ◌+◌, ◌≤◌}
use native.Mathlib.Omega.{arith}
use mathlib.Core.Bool.{Bool, true, false, cond, ◌||◌}
use mathlib.Core.List.{List, [], ◌∷◌, ◌++◌, flatten}
use mathlib.Core.Option.{none}
use mathlib.Core.Path.{◌≡◌}
use lib.Dec.{eqb, lit≤}
use lib.ListN.{length, length-append, length-map}
use Rattle.sieve.specs.Bytes.{Bytes, ascii, same}
use Rattle.sieve.specs.Lines.{cut, lines_of}
use Rattle.sieve.specs.Rules.{line, no_text, is}
use Rattle.sieve.specs.Verdict.{findings, first}
use Rattle.swiss.specs.Limits.{combined, no_reference}
use Rattle.swiss.specs.declared.Edition.{Edition}
use Rattle.swiss.specs.Swiss.{swiss_in}
use Rattle.swift.specs.Letters.{replaced_from, replaced}
use Rattle.swift.specs.Portions.{Portion, on_lines, kept_in, replaced_in}
use Rattle.swift.specs.Fields.{prefixed, spaced, street_text, town_text, structured_lines, combined_lines, beneficiary, with_comma, transaction, remittance, fields, counts_of}
use Rattle.swift.specs.Promised.{characters_of, AreSmall}
use Rattle.swift.proofs.Bounds.{leads_short, few_lines}
use Rattle.swift.proofs.Filling.{nothing_lost}
use Rattle.swift.proofs.Remitting.{short_line}

characters_append : (a b : List Portion) → characters_of (a ++ b) ≡ characters_of a + characters_of b
unfolding characters_of
characters_append [] b = omega arith
characters_append (q ∷ a) b = omega (arith, characters_append a b)

-- no more characters are replaced than there are
replaced_few : (b : Bool) (s : Bytes) → replaced_from b s ≤ length s
unfolding replaced_from
replaced_few b [] = omega arith
replaced_few b (x ∷ s) = omega (arith, at_most_one (replaced b x), replaced_few false s)
  where
    at_most_one : (c : Bool) → cond c 1 0 ≤ 1
    at_most_one true = omega arith
    at_most_one false = omega arith

replaced_in_few : (ls : List Bytes) → replaced_in ls ≤ length (flatten ls)
unfolding replaced_in flatten
replaced_in_few [] = omega arith
replaced_in_few (l ∷ ls) = omega (arith, length-append l (flatten ls), replaced_few true l, replaced_in_few ls)

-- characters of the lines for which texts are joined
street_short : (s n : Bytes) → length (street_text s n) ≤ length s + length n + 3
street_short s n = omega (arith, behind (spaced s n), joined (no_text s || no_text n))
  where
    behind : (t : Bytes) → length (prefixed "2/" t) ≤ length t + 2
    behind [] = omega arith
    behind (x ∷ t) = omega arith

    joined : (b : Bool) → length (s ++ (cond b [] (ascii " ") ++ n)) ≤ length s + length n + 1
    joined true = omega (arith, length-append s n)
    joined false = omega (arith, length-append s (ascii " " ++ n))

town_short : (c p t : Bytes) → length (town_text c p t) ≤ length c + length p + length t + 4
town_short c p t = omega (arith, length-append c (ascii "/" ++ (p ++ (ascii " " ++ t))), length-append p (ascii " " ++ t))

-- of a bill that the reader accepts
module _ (e : Edition) (p : Bytes) (nothing : first (findings (swiss_in e) p) ≡ none) where
  abbrev ls : List Bytes
  ls = lines_of (cut p)

  short : (n : ℕ) → 1 ≤ n → n ≤ 34 → length (line n ls) ≤ 1024
  short n lo hi = short_line e p n nothing lo hi

  few_in_beneficiary : characters_of (beneficiary ls) ≤ 8192
  unfolding characters_of beneficiary
  few_in_beneficiary = omega (arith, leads_short (ascii "/" ++ line 4 ls), short 4 (lit≤ tt) (lit≤ tt), by_cases (is 5 combined ls))
    where
      by_cases : (b : Bool) → characters_of (cond b (combined_lines ls) (structured_lines ls)) ≤ 7100
      by_cases true =
          omega (arith, leads_short (line 6 ls), leads_short (line 7 ls), leads_short (line 8 ls), leads_short (line 11 ls), short 6 (lit≤ tt) (lit≤ tt), short 7 (lit≤ tt) (lit≤ tt), short 8 (lit≤ tt) (lit≤ tt), short 11 (lit≤ tt) (lit≤ tt))
      by_cases false =
          omega (arith, leads_short (ascii "1/" ++ line 6 ls), leads_short (street_text (line 7 ls) (line 8 ls)), street_short (line 7 ls) (line 8 ls), leads_short (town_text (line 11 ls) (line 9 ls) (line 10 ls)), town_short (line 11 ls) (line 9 ls) (line 10 ls), short 6 (lit≤ tt) (lit≤ tt), short 7 (lit≤ tt) (lit≤ tt), short 8 (lit≤ tt) (lit≤ tt), short 9 (lit≤ tt) (lit≤ tt), short 10 (lit≤ tt) (lit≤ tt), short 11 (lit≤ tt) (lit≤ tt))

  few_in_transaction : characters_of (transaction ls) ≤ 2048
  unfolding characters_of transaction
  few_in_transaction =
      omega (arith, leads_short (line 20 ls ++ with_comma (line 19 ls)), length-append (line 20 ls) (with_comma (line 19 ls)), length-map (line 19 ls) (λ x. cond (eqb x 46) 44 x), short 19 (lit≤ tt) (lit≤ tt), short 20 (lit≤ tt) (lit≤ tt))

  few_in_remittance : characters_of (remittance ls) ≤ 4096
  unfolding remittance characters_of
  few_in_remittance = by_cases (same (line 28 ls) (ascii no_reference))
    where
      by_cases : (b : Bool) → characters_of (cond b (on_lines 4 (line 30 ls) ∷ []) (on_lines 1 (line 28 ls ++ (ascii "/" ++ line 29 ls)) ∷ on_lines 3 (line 30 ls) ∷ [])) ≤ 4096
      by_cases true = omega (arith, leads_short (line 30 ls), short 30 (lit≤ tt) (lit≤ tt))
      by_cases false = omega (arith, leads_short (line 28 ls ++ (ascii "/" ++ line 29 ls)), length-append (line 28 ls) (ascii "/" ++ line 29 ls), leads_short (line 30 ls), short 28 (lit≤ tt) (lit≤ tt), short 29 (lit≤ tt) (lit≤ tt), short 30 (lit≤ tt) (lit≤ tt))

  few_characters : characters_of (fields ls) ≤ 14336
  few_characters =
      omega (arith, characters_append (beneficiary ls) (transaction ls ++ remittance ls), characters_append (transaction ls) (remittance ls), few_in_beneficiary, few_in_transaction, few_in_remittance)

  pub small_counts : AreSmall (counts_of ls)
  small_counts =
      let (five, one, four) = few_lines ls in
      record {
        beneficiary = omega (arith, five);
        transaction = omega (arith, one);
        remittance = omega (arith, four);
        cut = omega (arith, nothing_lost (fields ls), few_characters);
        replaced = omega (arith, replaced_in_few (kept_in (fields ls)), nothing_lost (fields ls), few_characters);
      }
