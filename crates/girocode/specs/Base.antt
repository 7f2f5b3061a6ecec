-- The girocode that cases are made of, and what they are made with. Assumes nothing.
use Rattle.std.specs.Prelude.{ℕ, List, [], ◌∷◌, length}
use Rattle.sieve.specs.declared.Break.TheVariants.{Lf}
use Rattle.sieve.specs.Bytes.{Bytes}
use Rattle.sieve.specs.Verdict.{under, under_at, accepted, refused}
use Rattle.sieve.specs.Cases.{lines, put, Case, case}

-- 002's second example, the first that keeps the rules
abbrev pub G : List Bytes
G = lines "BCD|001|1|SCT|GIBAATWW|Max Mustermann|AT682011131032423628|EUR1456.89||457845789452||Diverse Autoteile, Re 789452 KN 457845"

-- with LF: accepted, with all its lines; refused under rule r at line i; refused under 3 at line i and byte j
abbrev pub good : List Bytes → Case
good ls = case Lf ls (accepted (length ls) Lf)

abbrev pub bad : ℕ → ℕ → List Bytes → Case
bad r i ls = case Lf ls (refused (under r i))

abbrev pub bad_at : ℕ → ℕ → List Bytes → Case
bad_at i j ls = case Lf ls (refused (under_at 3 i j))

-- the byte after the first letter of the name is bad
abbrev pub bad_byte : List Bytes → Case
bad_byte ls = bad_at 6 24 ls

-- ü and the no-break space in ISO 8859-1

abbrev pub umlaut_iso : Bytes
umlaut_iso = 0xFC ∷ []

abbrev pub space_iso : Bytes
space_iso = 0xA0 ∷ []

-- in ISO 8859-1
abbrev pub iso : List Bytes → List Bytes
iso = put 3 "2"
