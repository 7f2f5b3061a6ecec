-- What is answered of a season, packed, is what the call has to answer: it lends the front of its list, and none of it where there is no room for the sums. Assumes nothing.
use Rattle.std.specs.Prelude.{Ok, Err}
use Prim.Native.Nat.{ℕ, ◌-◌, ◌≤◌, ◌<◌}
use native.Mathlib.Omega.{arith}
use mathlib.Core.List.{List, [], ◌∷◌, ◌++◌}
use mathlib.Core.Option.{Option, some, none}
use mathlib.Core.Path.{◌≡◌, refl, sym, ap, ◌∙◌}
use lib.ListN.{length, set}
use borrow.Author.Tests.{lt-ltb, le-ltb}
use borrow.Rule.Slice.PartMut.{put_mid, put_same}
use Rattle.sieve.specs.declared.Fault.{Fault}
use Rattle.sieve.specs.Bytes.{Bytes, over}
use Rattle.sieve.specs.Paper.{paper_fault}
use Rattle.sieve.specs.Reading.{no_room_refusal}
use Rattle.sieve.specs.Verdict.{Refusal, under, first}
use Rattle.sieve.specs.Writing.{handed}
use Rattle.packing.specs.Packing.{packed_refusal}
use Rattle.packing.specs.Telling.{room_beside}
use Rattle.packing.proofs.Telling.{beside_stops, beside_enough, beside_short, lent_on, lent_length, laid_back}
use Rattle.pile.specs.Pile.{place_findings}
use Rattle.season.specs.Season.{differing, season_findings, IsTried}
use Rattle.season.proofs.Promise.{refused_found, refusal_changes_nothing, gives, within_room, one_each_at_most}
use Rattle.capi.specs.Calls.{season_answer, IsPackedTried}

no_numbers : (l : List ℕ) → length l ≤ 0 → l ≡ []
no_numbers [] h = refl
no_numbers (x ∷ l) h = absurd (omega arith)

-- two numbers in the front of a list
two_set : (l : List ℕ) (x y : ℕ) → 2 ≤ length l → set (set l 0 x) 1 y ≡ over l (x ∷ y ∷ [])
two_set [] x y h = absurd (omega arith)
two_set (a ∷ []) x y h = absurd (omega arith)
two_set (a ∷ b ∷ l) x y h = refl

module _ (buffer : Bytes) (places : List ℕ) (count : ℕ) (list sums : List ℕ) (room : ℕ) (is-room : room ≡ room_beside (length list) (length sums) 2) where
  abbrev ps : List Bytes
  ps = handed buffer places count

  abbrev part : List ℕ
  part = lent_on list (length sums) 2 room is-room

  -- what is found with the part that is lent on, and with all that is lent

  abbrev partly : Option Refusal
  partly = first (place_findings buffer places count ++ (no_room_refusal (room_beside (length list) (length sums) 2) count ∷ []))

  abbrev all : Option Refusal
  all = first (season_findings buffer places count (length list) ++ (no_room_refusal (length sums) 2 ∷ []))

  of_part : first (season_findings buffer places count (length part)) ≡ partly
  of_part = ap (λ (n : ℕ). first (season_findings buffer places count n)) (lent_length list (length sums) 2 room is-room ∙ is-room)

  stays : {after : List ℕ} → after ≡ part → put_mid 0 (room - 0) list after ≡ list
  stays e = ap (put_mid 0 (room - 0) list) e ∙ put_same 0 (room - 0) list

  pub refused_packed : {f : Fault} {after : List ℕ} {n : ℕ} → IsTried buffer places count part (Err f) after → n ≡ packed_refusal (paper_fault f) → IsPackedTried buffer places count list sums n (put_mid 0 (room - 0) list after) sums
  unfolding season_answer place_findings
  refused_packed {f} h e =
      let found : all ≡ some (paper_fault f) = beside_stops (place_findings buffer places count) count (length list) (length sums) 2 (sym of_part ∙ refused_found h) in
      record { number = rw found e; lent = rw found (stays (refusal_changes_nothing h)); told = rw found }

  module _ {n c e : ℕ} {after : List ℕ} (h : IsTried buffer places count part (Ok (record { listed = n; francs = c; euros = e })) after) where
    nothing : partly ≡ none
    nothing = sym of_part ∙ (gives h).nothing

    -- no room for the sums: then none was lent on, and there are no bills
    pub short_packed : {m : ℕ} → length sums < 2 → m ≡ packed_refusal (under 15 0) → IsPackedTried buffer places count list sums m (put_mid 0 (room - 0) list after) sums
    unfolding season_answer place_findings
    short_packed short m =
        let found : all ≡ some (under 15 0) = beside_short (place_findings buffer places count) count (length list) (length sums) 2 short nothing in
        let no_room : room ≡ 0 = is-room ∙ rw (lt-ltb (length sums) 2 short) in
        let size = lent_length list (length sums) 2 room is-room in
        let none-listed : differing ps ≡ [] = no_numbers (differing ps) (omega (arith, (gives h).positions_are, one_each_at_most h, within_room h, size, no_room)) in
        record { number = rw found m; lent = rw found (stays ((gives h).laid ∙ rw none-listed)); told = rw found }

    pub listed_packed : {m : ℕ} → 2 ≤ length sums → m ≡ n → IsPackedTried buffer places count list sums m (put_mid 0 (room - 0) list after) (set (set sums 0 c) 1 e)
    unfolding season_answer place_findings
    listed_packed enough m =
        let found : all ≡ none = sym (beside_enough (place_findings buffer places count) count (length list) (length sums) 2 enough) ∙ nothing in
        let whole : room ≡ length list = is-room ∙ rw (le-ltb (length sums) 2 enough) in
        let tried = gives h in
        record {
          number = rw found (m ∙ tried.positions_are);
          lent = rw found (laid_back list (length sums) 2 room is-room whole (differing ps) tried.laid);
          told = rw found (two_set sums c e enough ∙ rw (tried.francs_are, tried.euros_are));
        }
