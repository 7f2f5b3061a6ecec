-- What is promised of the bytes that the mender writes, and of its counts. Nothing here is a step. Assumes nothing.
use Rattle.std.specs.Prelude.{ℕ, suc, ◌+◌, ◌≤◌, Bool, true, false, cond, ◌||◌, [], ◌∷◌, ◌≡◌, eqb, length}
use Rattle.sieve.specs.Bytes.{Bytes, every}
use Rattle.sieve.specs.Characters.{line_feeds}
use Rattle.sieve.specs.Lines.{of_break, begins_lf}
use Rattle.mender.specs.declared.Repairs.{Repairs}
use Rattle.mender.specs.Steps.{how_many, cr_lfs}
use Rattle.mender.specs.Mending.{most_mended, no_repairs}

-- CR, LF and space
abbrev pub loose : ℕ → Bool
loose x = of_break x || eqb x 32

-- all other bytes
unfoldable pub firm_bytes : Bytes → Bytes
firm_bytes [] = []
firm_bytes (x ∷ s) = cond (loose x) (firm_bytes s) (x ∷ firm_bytes s)

-- spaces, and then a break or the end
pub data LineEnds : Bytes → Type 0 where
  at_end : LineEnds []
  at_break : {x : ℕ} {s : Bytes} → of_break x ≡ true → LineEnds (x ∷ s)
  after_space : {s : Bytes} → LineEnds s → LineEnds (32 ∷ s)

-- from line i on, the bytes t are what is left of s: breaks are rewritten, the named spaces and last lines are gone, and all
-- else is the same, in its place
pub data Like : ℕ → Bytes → Bytes → Type 0 where
  end : {i : ℕ} → Like i [] []
  -- a break: LF, CR LF, or a CR that no LF follows
  lf : {i : ℕ} {s t : Bytes} → Like (suc i) s t → Like i (10 ∷ s) (10 ∷ t)
  cr_lf : {i : ℕ} {s t : Bytes} → Like (suc i) s t → Like i (13 ∷ 10 ∷ s) (10 ∷ t)
  cr : {i : ℕ} {s t : Bytes} → begins_lf s ≡ false → Like (suc i) s t → Like i (13 ∷ s) (10 ∷ t)
  -- any other byte stays
  stays : {i x : ℕ} {s t : Bytes} → of_break x ≡ false → Like i s t → Like i (x ∷ s) (x ∷ t)
  -- a space that ends a line, and a space within line 4 or line 29, goes
  at_line_end : {i : ℕ} {s t : Bytes} → LineEnds s → Like i s t → Like i (32 ∷ s) t
  within_line : {i : ℕ} {s t : Bytes} → eqb i 4 || eqb i 29 ≡ true → Like i s t → Like i (32 ∷ s) t
  -- from line 31 on nothing is left but breaks and spaces
  last_lines : {i : ℕ} {s : Bytes} → 31 ≤ i → every loose s ≡ true → Like i s []

-- of a payload and what the steps make of it, the counts say what went
pub record AddsUp (p out : Bytes) (c : Repairs) : Type 0 where
  -- each byte is written, or the CR of a CR LF, or a space that was taken, or the break of a line that was dropped
  pub lengths : length p ≡ length out + cr_lfs p + c.spaces + c.lines
  -- a break that was not LF has one CR
  pub breaks : c.breaks ≡ how_many 13 p
  -- spaces were taken, or are there
  pub spaces : how_many 32 p ≡ c.spaces + how_many 32 out
  -- breaks, of which CR LF is one, were dropped, or are there
  pub lines : line_feeds p + how_many 13 p ≡ cr_lfs p + c.lines + line_feeds out

-- what is written of a payload, with its counts: the payload itself, or what is left of it
pub data Mends (p : Bytes) : Bytes → Repairs → Type 0 where
  came_unchanged : Mends p p no_repairs
  by_steps : {out : Bytes} {c : Repairs} → Like 1 p out → AddsUp p out c → Mends p out c

-- no count is more than the bytes that can be mended
pub record AreFew (c : Repairs) : Type 0 where
  pub breaks : c.breaks ≤ most_mended
  pub spaces : c.spaces ≤ most_mended
  pub lines : c.lines ≤ most_mended
