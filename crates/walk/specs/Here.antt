-- Where the walk has come to. Assumes nothing.
use Rattle.std.specs.Prelude.{ℕ, ◌+◌, ◌*◌, ◌^◌, ◌≤◌, cond, List, ◌≡◌, ltb, length, take, drop}
use Rattle.std.proofs.Math.Option.{some, none}
use Rattle.sieve.specs.declared.Charset.{Charset}
use Rattle.sieve.specs.Bytes.{Bytes}
use Rattle.sieve.specs.Lines.{cut, breaks_of}
use Rattle.sieve.specs.Characters.{walk, bad_place, line_feeds}
use Rattle.sieve.specs.Charsets.{of_set}
use Rattle.characters.specs.Marks.{marks_of}
use Rattle.lines.specs.Parted.{returns_in}
use Rattle.places.specs.Listed.{greatest, listed_of, Filled}
use Rattle.walk.specs.declared.Ahead.{Ahead}
use Rattle.walk.specs.declared.Behind.{Behind}
use Rattle.walk.specs.declared.Standing.{Standing}

-- the walk is at a place: what it does from there on, the line that it is in, the LF bytes and breaks behind it, and the list of the lines that they ended
pub record Here (set : Charset) (s : Bytes) (l : List ℕ) (at : ℕ) (passed : Behind) : Type 0 where
  pub onward : bad_place (of_set set) s ≡ walk (of_set set) 0 (drop at s) at
  pub line_feeds : line_feeds (take at s) ≡ passed.feeds
  pub within : at ≤ length s
  pub before : passed.start ≤ at
  pub line : passed.start + length (cut (drop passed.start s)).first ≡ at + length (cut (drop at s)).first
  pub feeds : length (breaks_of (cut s)) ≡ passed.feeds + length (breaks_of (cut (drop passed.start s)))
  pub returns : returns_in (breaks_of (cut s)) ≡ passed.returns + returns_in (breaks_of (cut (drop passed.start s)))
  pub fewer : passed.returns ≤ at
  pub listed : length s ≤ greatest → Filled s l passed.start (listed_of passed.feeds)

-- the walk has come to a place, under one set or another
pub record Reached (s : Bytes) (l : List ℕ) (at : ℕ) (passed : Behind) : Type 0 where
  pub set : Charset
  pub here : Here set s l at passed

-- from one place to another, whatever the set
pub record Going (s : Bytes) (l : List ℕ) (from : ℕ) (p : Behind) (l' : List ℕ) (at : ℕ) (p' : Behind) : Type 0 where
  pub onward : (set : Charset) → Here set s l from p → Here set s l' at p'
  pub forward : from ≤ at

-- among the sixteen bytes from a place on: n of them are behind the walk, and the marks of the others are left
pub record Among (s : Bytes) (from n left : ℕ) : Type 0 where
  pub whole : from + 16 ≤ length s
  pub few : n ≤ 16
  pub marks : left ≡ marks_of (drop n (take 16 (drop from s))) * 2 ^ n

-- the walk has come to a place among them
pub record Inside (s : Bytes) (l : List ℕ) (from : ℕ) (ahead : Ahead) : Type 0 where
  pub behind : ℕ
  pub among : Among s from behind ahead.left
  pub reached : Reached s l (from + behind) ahead.passed

-- and from there to another
pub record Through (s : Bytes) (l : List ℕ) (from n : ℕ) (p : Behind) (l' : List ℕ) (r : Ahead) : Type 0 where
  pub behind : ℕ
  pub among : Among s from behind r.left
  pub going : Going s l (from + n) p l' (from + behind) r.passed

-- wherever among them it stood
abbrev pub GoneThrough : Bytes → List ℕ → ℕ → Ahead → List ℕ → Ahead → Type 0
GoneThrough s l from ahead l' r = (n : ℕ) → Among s from n ahead.left → Through s l from n ahead.passed l' r

-- from the start of a line it has gone on, whatever the set
pub record GoneOn (s : Bytes) (l : List ℕ) (passed : Behind) (after : List ℕ) (r : Standing) : Type 0 where
  pub here : (set : Charset) → Here set s l passed.start passed → Here set s after r.at r.passed
  pub forward : passed.start ≤ r.at

-- the walk has come to its end: to the first place where nothing allowed begins, or behind the last byte
pub record Arrived (set : Charset) (s : Bytes) (l : List ℕ) (r : Standing) : Type 0 where
  pub here : Here set s l r.at r.passed
  pub stopped : bad_place (of_set set) s ≡ cond (ltb r.at (length s)) (some r.at) none

-- all lines but the last are behind the walk: as many as there are breaks
pub record AllBehind (s : Bytes) (passed : Behind) : Type 0 where
  pub fits : passed.feeds ≤ length s
  pub feeds : passed.feeds ≡ length (breaks_of (cut s))
  pub returns : passed.returns ≡ returns_in (breaks_of (cut s))
