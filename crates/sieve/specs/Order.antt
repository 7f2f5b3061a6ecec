-- What it means that a layout's rules about lines stand in the sieve's order. Assumes nothing.
use Rattle.std.specs.Prelude.{◌-◌, Bool, true, false, ◌&&◌, ◌||◌, List, [], ◌∷◌, eqb, ltb, take, drop, length}
use Rattle.sieve.specs.Rules.{Rule}
use Rattle.sieve.specs.Verdict.{Refusal}

-- an earlier line, or the same line and a smaller number
abbrev pub earlier : Rule → Rule → Bool
earlier q r = ltb q.line r.line || (eqb q.line r.line && ltb q.number r.number)

-- lines one after another, on each line the smallest number first
unfoldable pub ascending : List Rule → Bool
ascending [] = true
ascending (q ∷ []) = true
ascending (q ∷ r ∷ rs) = earlier q r && ascending (r ∷ rs)

-- rules that refuse with these numbers and lines
unfoldable pub refusing : List Refusal → List Rule → Bool
refusing [] [] = true
refusing [] (r ∷ rs) = false
refusing (q ∷ qs) [] = false
refusing (q ∷ qs) (r ∷ rs) = eqb q.number r.number && eqb q.line r.line && refusing qs rs

-- so stand all rules but some last ones
unfoldable pub in_order : List Refusal → List Rule → Bool
in_order last rs = let n = length rs - length last in ascending (take n rs) && refusing last (drop n rs)
