-- What is known of a payload while it is swept, byte by byte, into a room: steps 1 to 3 at once. Assumes nothing.
use Rattle.std.specs.Prelude.{ℕ, ◌+◌, ◌-◌, ◌≤◌, ◌<◌, Bool, true, cond, ◌&&◌, [], ◌∷◌, ◌++◌, ◌≡◌, ltb, length, take, drop, get_or, replicate}
use Rattle.sieve.specs.Bytes.{Bytes}
use Rattle.sieve.specs.Characters.{line_feeds}
use Rattle.mender.specs.declared.Reach.{Reach}
use Rattle.mender.specs.declared.Swept.{Swept}
use Rattle.mender.specs.declared.Tally.{Tally}
use Rattle.mender.specs.Steps.{is_lf, as_lf, unpadded, unspaced, shortened, despaced, how_many}
use Rattle.mender.specs.Mending.{most_mended}

-- a line ends here: a break comes, or nothing
abbrev pub line_ends : Bytes → Bool
line_ends [] = true
line_ends (x ∷ s) = is_lf x

-- k spaces before t, which go where a line ends
unfoldable pub pending : ℕ → Bytes → Bytes
pending k t = cond (line_ends t) t (replicate k 32 ++ t)

-- steps 2 and 3, from line i on
unfoldable pub swept : ℕ → Bytes → Bytes
swept i q = unspaced i (unpadded q)

-- of `all` bytes those before `solid` lie in the room, and spaces behind them; the rest is still to be laid, by steps 2 and 3
pub record SoFar (all rest : Bytes) (s : Reach) (room : Bytes) : Type 0 where
  pub ordered : s.solid ≤ s.at
  pub spaces : take s.at room ≡ take s.solid room ++ replicate (s.at - s.solid) 32
  pub whole : all ≡ take s.solid room ++ pending (s.at - s.solid) (swept s.line rest)
  pub lines : s.line ≡ 1 + line_feeds (take s.solid room)

-- the byte x is laid: whatever is to be laid in all, and whatever is still to come, what held before it holds after it
abbrev pub Carries : ℕ → Reach → Bytes → Reach → Bytes → Type 0
Carries x s room r after = (all rest : Bytes) → SoFar all (x ∷ rest) s room → SoFar all rest r after

-- a byte more can be laid
pub record CanPut (s : Reach) (room : Bytes) : Type 0 where
  pub ordered : s.solid ≤ s.at
  pub within_room : s.at < length room
  pub few_lines : s.line ≤ most_mended

-- a byte more was laid, at most
pub record Farther (s r : Reach) : Type 0 where
  pub ordered : r.solid ≤ r.at
  pub byte : r.at ≤ s.at + 1
  pub line : r.line ≤ s.line + 1

-- before byte i of p: what lies in the room, and what was counted
pub record SweptTo (p : Bytes) (i : ℕ) (t : Tally) (room : Bytes) : Type 0 where
  pub inside : i ≤ length p
  pub few : t.reach.at ≤ i
  pub few_lines : t.reach.line ≤ i + 1
  pub few_breaks : t.breaks ≤ i
  pub few_pairs : t.pairs ≤ i
  pub so_far : SoFar (despaced p) (as_lf (drop i p)) t.reach room
  -- CR bytes so far; and how many bytes are still to come after step 1
  pub crs : t.breaks + how_many 13 (drop i p) ≡ how_many 13 p
  pub lengths : i + length (as_lf (drop i p)) ≡ t.pairs + length (as_lf p)

-- a byte stands there, and is over 32: neither a space nor of a break
abbrev pub firm_at : Bytes → ℕ → Bool
firm_at p i = ltb i (length p) && ltb 32 (get_or p i 0)

-- there is such a byte, and room for it
pub record CanPass (p : Bytes) (i : ℕ) (t : Tally) (room : Bytes) : Type 0 where
  pub passed : SweptTo p i t room
  pub more : i < length p
  pub fits : length p ≤ length room
  pub few : length p ≤ most_mended

-- what a sweep over p leaves in a room
pub record IsSwept (p : Bytes) (r : Swept) (room : Bytes) : Type 0 where
  pub bytes : take r.bytes room ≡ despaced p
  pub size : r.bytes ≡ length (despaced p)
  pub lines : r.lines ≡ 1 + line_feeds (despaced p)
  pub breaks : r.breaks ≡ how_many 13 p
  pub pairs : length p ≡ r.pairs + length (as_lf p)
  pub fits : r.bytes ≤ length (as_lf p)

-- where bytes without their empty last lines end
pub record IsEnd (q : Bytes) (end : ℕ) : Type 0 where
  pub bytes : take end q ≡ shortened 1 q
  pub size : end ≡ length (shortened 1 q)
  pub inside : end ≤ length q
