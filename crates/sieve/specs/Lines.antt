-- Bills, and lines: how a bill is written as bytes, and how any bytes are cut into lines. Assumes nothing.
use Rattle.std.specs.Prelude.{ℕ, Bool, true, false, cond, ◌&&◌, ◌||◌, List, [], ◌∷◌, ◌++◌, map, eqb, get_or}
use Rattle.sieve.specs.declared.Break.{Break}
use Rattle.sieve.specs.declared.Break.TheVariants.{Lf, CrLf}
use Rattle.sieve.specs.Bytes.{Bytes}

-- line texts and a kind of break
pub record Bill : Type 0 where
  pub lines : List Bytes
  pub break : Break

abbrev pub break_bytes : Break → Bytes
break_bytes Lf = 10 ∷ []
break_bytes CrLf = 13 ∷ 10 ∷ []

-- the bytes that breaks are made of
abbrev pub of_break : ℕ → Bool
of_break x = eqb x 10 || eqb x 13

-- lines, each with a break before it
abbrev pub after_breaks : Break → List Bytes → Bytes
after_breaks k [] = []
after_breaks k (l ∷ ls) = break_bytes k ++ (l ++ after_breaks k ls)

-- lines, parted by a break
abbrev pub joined : Break → List Bytes → Bytes
joined k [] = []
joined k (l ∷ ls) = l ++ after_breaks k ls

-- the bytes that a bill is written as
unfoldable pub written : Bill → Bytes
written b = joined b.break b.lines

-- a break, and the line after it
pub record Next : Type 0 where
  pub break : Break
  pub line : Bytes

-- the first line, and each break with the line after it: there is always a first line
pub record Cut : Type 0 where
  pub first : Bytes
  pub rest : List Next

-- a cut put together again: each line after its own break
abbrev pub glued_after : List Next → Bytes
glued_after [] = []
glued_after (n ∷ ns) = break_bytes n.break ++ (n.line ++ glued_after ns)

abbrev pub glued : Cut → Bytes
glued c = c.first ++ glued_after c.rest

abbrev pub begins_lf : Bytes → Bool
begins_lf s = eqb (get_or s 0 0) 10

-- the LF that was just cut is the second byte of a CR LF
abbrev pub with_cr : List Next → List Next
with_cr [] = []
with_cr (n ∷ ns) = record { break = CrLf; line = n.line } ∷ ns

-- one byte put in front of bytes that are cut already
abbrev pub in_front : ℕ → Bytes → Cut → Cut
in_front x s c =
    cond (eqb x 10) (record { first = []; rest = record { break = Lf; line = c.first } ∷ c.rest })
    (cond (eqb x 13 && begins_lf s) (record { first = []; rest = with_cr c.rest })
    (record { first = x ∷ c.first; rest = c.rest }))

-- any bytes, cut at each LF and at each CR directly followed by LF
unfoldable pub cut : Bytes → Cut
cut [] = record { first = []; rest = [] }
cut (x ∷ s) = in_front x s (cut s)

abbrev pub lines_of : Cut → List Bytes
lines_of c = c.first ∷ map (λ n. n.line) c.rest

abbrev pub breaks_of : Cut → List Break
breaks_of c = map (λ n. n.break) c.rest

-- the first break's kind; LF where there is none
abbrev pub kind : List Break → Break
kind [] = Lf
kind (k ∷ ks) = k

abbrev pub same_break : Break → Break → Bool
same_break Lf Lf = true
same_break Lf CrLf = false
same_break CrLf Lf = false
same_break CrLf CrLf = true

-- the bill that any bytes are read as
unfoldable pub bill_of : Bytes → Bill
bill_of p = record { lines = lines_of (cut p); break = kind (breaks_of (cut p)) }
