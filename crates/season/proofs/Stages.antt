-- A season, stage by stage: what its findings leave of its answer. Assumes nothing.
use Rattle.std.specs.Prelude.{Result, Err}
use Rattle.season.specs.declared.Tried.{Tried}
use Prim.Native.Nat.{ℕ, ◌≤◌, ◌<◌}
use mathlib.Core.List.{List, [], ◌∷◌}
use mathlib.Core.Option.{Option, some, none}
use mathlib.Core.Path.{◌≡◌, sym, ◌∙◌}
use lib.ListN.{length}
use borrow.Author.Tests.{lt-ltb, le-ltb}
use Rattle.sieve.specs.declared.Fault.{Fault}
use Rattle.sieve.specs.declared.Fault.TheVariants.{NoRoom}
use Rattle.sieve.specs.Bytes.{Bytes}
use Rattle.sieve.specs.Paper.{paper_fault}
use Rattle.sieve.specs.Reading.{no_room_refusal}
use Rattle.sieve.specs.Verdict.{Refusal, first}
use Rattle.sieve.specs.Writing.{handed}
use Rattle.sieve.proofs.Findings.{first_nil}
use Rattle.sieve.proofs.Firsts.{passed, stopped}
use Rattle.pile.proofs.Stages.{placed, places_stop, places_pass}
use Rattle.season.specs.Season.{season_findings, AreTried, IsTried}

module _ (buffer : Bytes) (places : List ℕ) (count : ℕ) (list : List ℕ) where
  abbrev seen : Option Refusal
  seen = first (season_findings buffer places count (length list))

  abbrev room : List (Option Refusal)
  room = no_room_refusal (length list) count ∷ []

  -- a finding that settles the answer leaves the list as it is
  refuses : (f : Fault) → seen ≡ some (paper_fault f) → IsTried buffer places count list (Err f) list
  refuses f e = record { answer = rw e; lent = rw e }

  -- the count, or a place outside the buffer
  pub not_placed : {f : Fault} → some (paper_fault f) ≡ placed buffer places count → IsTried buffer places count list (Err f) list
  not_placed {f} e = refuses f (places_stop buffer places count room (sym e))

  -- too little room
  pub no_room : placed buffer places count ≡ none → length list < count → IsTried buffer places count list (Err NoRoom) list
  no_room nothing h = refuses NoRoom (stopped [] (places_pass buffer places count room nothing) (rw (lt-ltb (length list) count h)))

  -- else all are tried
  pub all_tried : {r : Result Tried Fault} {after : List ℕ} → placed buffer places count ≡ none → count ≤ length list → AreTried (handed buffer places count) list r after → IsTried buffer places count list r after
  all_tried nothing h is =
      let clear : seen ≡ none = passed [] (places_pass buffer places count room nothing) (rw (le-ltb (length list) count h)) ∙ first_nil in
      record { answer = rw clear is.answer; lent = rw clear is.lent }
