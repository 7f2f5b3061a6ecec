-- A list with three numbers for each line: where it lies in a text, and how many characters it has. Assumes nothing.
use Rattle.std.specs.Prelude.{ℕ, zero, suc, ◌+◌, ◌*◌, ◌≤◌, ◌<◌, Bool, true, Some, None, List, [], ◌∷◌, ◌≡◌, length, get_or, drop}
use Rattle.std.proofs.Math.Option.{Option, some, none}
use Rattle.std.specs.Borrow.{Bor, MutBor}
use denote.Triple.Both.{Both}
use Rattle.sieve.specs.Bytes.{Bytes, over}
use Rattle.sieve.specs.Characters.{characters}
use Rattle.sieve.specs.Rules.{Measure}
use Rattle.sieve.specs.Verdict.{Refusal}
use Rattle.sieve.specs.Places.{walk_lines, walk_numbers, places_in}
use Rattle.sieve.specs.Writing.{part, handed, mismeasured}

-- what is counted of each line
abbrev pub counts : List Measure
counts = characters ∷ []

-- the numbers of such a list: three for each line that a walk lists
abbrev pub shown_size : ℕ
shown_size = 3 * walk_lines

-- a text that has a character for each byte
abbrev pub OnePerByte : Bytes → Type 0
OnePerByte s = characters s ≡ length s

abbrev pub OnePerByteIf : Bool → Bytes → Type 0
OnePerByteIf plain s = plain ≡ true → OnePerByte s

-- a line of as many bytes as 16 bits count; if it is plain, each byte is a character
pub record Countable (l : Bytes) (plain : Bool) : Type 0 where
  pub few : length l ≤ 65535
  pub one_each : plain ≡ true → characters l ≡ length l

-- where entry i of a list with w numbers for each line lies
abbrev pub Lies : ℕ → Bytes → List ℕ → ℕ → Type 0
Lies w text list i = get_or list (w * i) 0 + get_or list (w * i + 1) 0 ≤ length text

-- each line of a walk's list lies inside a text, by two numbers
pub record InsideTwo (text : Bytes) (list : List ℕ) : Type 0 where
  pub size : length list ≡ walk_numbers
  pub inside : (i : ℕ) → i < walk_lines → Lies 2 text list i

-- the numbers of n lines with the characters of each
unfoldable pub with_counts : Bytes → ℕ → List ℕ → List ℕ
with_counts text zero list = []
with_counts text (suc n) list =
    get_or list 0 0 ∷ get_or list 1 0 ∷ characters (part text (record { start = get_or list 0 0; bytes = get_or list 1 0 })) ∷ with_counts text n (drop 2 list)

-- a list with these in its front, of what a call is lent
abbrev pub shown_over : (list : Both (MutBor (List ℕ)) (MutBor (List ℕ))) (payload places : Both (Bor (List ℕ)) (Bor (List ℕ))) → List ℕ
shown_over list payload places = over list.entry.now (with_counts payload.entry.now walk_lines places.entry.now)

-- each of so many lines lies inside a text, by three numbers
pub record InsideThree (text : Bytes) (list : List ℕ) (count : ℕ) : Type 0 where
  pub size : 3 * count ≤ length list
  pub inside : (i : ℕ) → i < count → Lies 3 text list i

-- the first of so many lines that is wrongly counted
unfoldable pub first_wrong : Bytes → List ℕ → ℕ → Option Refusal
first_wrong text list count = mismeasured counts 1 list (handed text (places_in 3 count list) count)

-- the line that it names, as code answers it
abbrev pub wrong_as : Option Refusal → Rattle.std.specs.Prelude.Option ℕ
wrong_as none = None
wrong_as (some r) = Some r.line
