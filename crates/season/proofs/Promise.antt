-- What a user of a season may rely on, stated on its contract. Assumes nothing.
use Rattle.std.specs.Prelude.{Result, Ok, Err}
use Rattle.season.specs.declared.Tried.{Tried}
use Prim.Native.Nat.{ℕ, zero, suc, ◌+◌, ◌*◌, ◌≤◌, ◌<◌}
use Prim.Native.String.{String}
use native.Mathlib.Nat.{add-zero}
use native.Mathlib.Numerals.{add-one}
use native.Mathlib.Omega.{arith}
use mathlib.Core.Bool.{true, false}
use mathlib.Core.List.{List, [], ◌∷◌, ◌++◌}
use mathlib.Core.Option.{Option, some, none}
use mathlib.Core.Path.{◌≡◌, refl, sym, ap, ◌∙◌}
use lib.ListN.{length, get_or, take, drop}
use lib.Seq.{take_at, drop_at, drop-drop, get_or-drop}
use borrow.Author.Tests.{ltb-false}
use Rattle.sieve.specs.declared.Break.{Break}
use Rattle.sieve.specs.declared.Fault.{Fault}
use Rattle.sieve.specs.Bytes.{Bytes, over}
use Rattle.sieve.specs.Lines.{bill_of, cut, lines_of}
use Rattle.sieve.specs.Places.{inner_of}
use Rattle.sieve.specs.Reading.{no_room_refusal, read_answer}
use Rattle.sieve.specs.Paper.{paper_fault}
use Rattle.sieve.specs.Verdict.{Refusal, Verdict, under, accepted, refused, first, verdict}
use Rattle.sieve.specs.Writing.{handed}
use Rattle.sieve.proofs.Accepts.{read_back}
use Rattle.sieve.proofs.Alphabets.{among}
use Rattle.sieve.proofs.Findings.{each_none, found_none}
use Rattle.sieve.proofs.Firsts.{first_append}
use Rattle.sieve.proofs.PaperLosesNothing.{one_fault}
use Rattle.sieve.proofs.ReaderPromises.{answer_is_verdict, accepted_reads}
use Rattle.sieve.proofs.WriterPromises.{handed_length}
use Rattle.swiss.specs.declared.Edition.TheVariants.{V22, V24}
use Rattle.swiss.specs.Limits.{francs, euros}
use Rattle.swiss.specs.Swiss.{swiss_in, swiss}
use Rattle.swiss.proofs.Serves.{edition_serves}
use Rattle.joining.specs.Handing.{line_at}
use Rattle.joining.proofs.Handing.{still, from_start, next_line}
use Rattle.pile.specs.Pile.{most_bills, place_findings, filled_by}
use Rattle.pile.proofs.Positions.{low_room, low_found}
use Rattle.pile.proofs.Stages.{placed, few_bills}
use Rattle.season.specs.Season.{positions, total, editions_differ, cents_in, adds, read_apart, read_cents, differing, sum, season_findings, tried, paper_tried, trial_of, IsTried}
use Rattle.season.proofs.OverBills.{climbs, positions_climb, position_there, position_of_bill, positions_behind, positions_alike, total_most, total_apart, total_alike}
use Rattle.season.proofs.Accepting.{accepted_alike}
use Rattle.season.proofs.Trying.{listed_few}
use Rattle.season.proofs.Paying.{most_cents, adds_its, nothing_added, adds_most}

-- two answers that say the same in the paper's words are equal
one_tried : (q r : Result Tried Fault) → paper_tried q ≡ paper_tried r → q ≡ r
one_tried (Ok t) (Ok u) h =
    let x : t.listed ≡ u.listed = cc in
    let y : t.francs ≡ u.francs = cc in
    let z : t.euros ≡ u.euros = cc in
    ap Ok (λ i. record { listed = x i; francs = y i; euros = z i })
one_tried (Ok t) (Err g) h = let z : ◌≡◌ {A = ℕ} 0 1 = cc in absurd (omega arith)
one_tried (Err f) (Ok u) h = let z : ◌≡◌ {A = ℕ} 0 1 = cc in absurd (omega arith)
one_tried (Err f) (Err g) h = ap Err (one_fault f g cc)

-- one answer, and one content of the list
pub one_trying : {buffer : Bytes} {places : List ℕ} {count : ℕ} {list : List ℕ} {q r : Result Tried Fault} {a b : List ℕ} → IsTried buffer places count list q a → IsTried buffer places count list r b → (q ≡ r) × (a ≡ b)
one_trying {q = q} {r = r} h k = (one_tried q r (h.answer ∙ sym k.answer), h.lent ∙ sym k.lent)

-- what a refusal tells was found; its position is that of a bill; and it changes no number

pub refused_found : {buffer : Bytes} {places : List ℕ} {count : ℕ} {list : List ℕ} {f : Fault} {after : List ℕ} → IsTried buffer places count list (Err f) after → first (season_findings buffer places count (length list)) ≡ some (paper_fault f)
refused_found {buffer} {places} {count} {list} {f} h = by_cases (first (season_findings buffer places count (length list))) h.answer
  where
    by_cases : (o : Option Refusal) → paper_tried (Err f) ≡ trial_of (handed buffer places count) o → o ≡ some (paper_fault f)
    by_cases none a = let z : ◌≡◌ {A = ℕ} 0 1 = cc in absurd (omega arith)
    by_cases (some r) a = cc

pub low_position : {buffer : Bytes} {places : List ℕ} {count : ℕ} {list : List ℕ} {f : Fault} {after : List ℕ} → IsTried buffer places count list (Err f) after → (paper_fault f).line < 1000
low_position {buffer} {places} {count} {list} {f} h = low_found buffer places count _ (low_room (length list) count) (paper_fault f) (refused_found h)

pub refusal_changes_nothing : {buffer : Bytes} {places : List ℕ} {count : ℕ} {list : List ℕ} {f : Fault} {after : List ℕ} → IsTried buffer places count list (Err f) after → after ≡ list
refusal_changes_nothing h = rw (refused_found h) at h.lent

-- a single reading, lent room enough, says of a bill what the sieve says of it

module _ (room : List ℕ) (enough : 102 ≤ length room) where
  differs_read : (p : Bytes) → editions_differ p ≡ read_apart room p
  unfolding editions_differ
  differs_read p = rw (answer_is_verdict (swiss_in V22) p room enough, answer_is_verdict (swiss_in V24) p room enough)

  -- the places that the reader lists cut out the lines
  lines_read : (p : Bytes) (n : ℕ) (k : Break) → (read_answer (swiss_in V22) p room).answer ≡ accepted n k → handed p (inner_of (swiss_in V22) n (read_answer (swiss_in V22) p room).lent) n ≡ lines_of (cut p)
  unfolding bill_of
  lines_read p n k h =
      let reads = accepted_reads (edition_serves V22) p room enough n k h in
      let reads_as = reads.is in
      let bill : bill_of p ≡ reads.bill = ap bill_of (sym reads_as.writes) ∙ read_back (swiss_in V22) (edition_serves V22).lawful (edition_serves V22).two reads.bill reads_as.keeps in
      reads.cut_out ∙ ap (λ b. b.lines) (sym bill)

  cents_read : (currency : String) (p : Bytes) → adds currency p ≡ read_cents room currency p
  cents_read currency p = by_cases (verdict (swiss_in V22) p) refl
    where
      by_cases : (v : Verdict) → verdict (swiss_in V22) p ≡ v → adds currency p ≡ read_cents room currency p
      by_cases (refused r) e = nothing_added p e currency ∙ sym (rw (answer_is_verdict (swiss_in V22) p room enough ∙ e))
      by_cases (accepted n k) e =
          let read = answer_is_verdict (swiss_in V22) p room enough ∙ e in
          adds_its p e currency ∙ sym (rw read (ap (cents_in currency) (lines_read p n k read)))

-- bill i of those that are handed over
bill_at : (buffer : Bytes) (places : List ℕ) (count i : ℕ) → i < count → get_or (handed buffer places count) i [] ≡ line_at buffer places i
bill_at buffer places count i h =
    let ps = handed buffer places count in
    let here = rest i (omega arith) ∙ next_line buffer places count i h in
    ap (λ (m : ℕ). get_or ps m []) (sym (add-zero i)) ∙ sym (get_or-drop i ps 0 []) ∙ ap (λ (l : List Bytes). get_or l 0 []) here
  where
    rest : (j : ℕ) → j ≤ count → drop j (handed buffer places count) ≡ still buffer places count j
    rest zero k = sym (from_start buffer places count)
    rest (suc j) k =
        let ps = handed buffer places count in
        ap (λ (m : ℕ). drop m ps) (sym (add-one j)) ∙ sym (drop-drop 1 j ps) ∙ ap (drop 1) (rest j (omega arith) ∙ next_line buffer places count j (omega arith)) ∙ ap (still buffer places count) (add-one j)

module _ {buffer : Bytes} {places : List ℕ} {count : ℕ} {list : List ℕ} {n c e : ℕ} {after : List ℕ} (h : IsTried buffer places count list (Ok (record { listed = n; francs = c; euros = e })) after) where
  abbrev pub ps : List Bytes
  ps = handed buffer places count

  abbrev pub seen : Option Refusal
  seen = first (season_findings buffer places count (length list))

  -- nothing was found, and what is told is what the pile has
  pub record Gives : Type 0 where
    pub nothing : seen ≡ none
    pub positions_are : n ≡ length (differing ps)
    pub francs_are : c ≡ sum francs ps
    pub euros_are : e ≡ sum euros ps
    pub laid : after ≡ over list (differing ps)

  pub gives : Gives
  gives = by_cases seen refl h.answer h.lent
    where
      by_cases : (o : Option Refusal) → seen ≡ o → tried n c e ≡ trial_of ps o → after ≡ filled_by (differing ps) list o → Gives
      by_cases none s a l = record { nothing = s; positions_are = cc; francs_are = cc; euros_are = cc; laid = l }
      by_cases (some r) s a l = let z : ◌≡◌ {A = ℕ} 0 1 = cc in absurd (omega arith)

  front : take n after ≡ differing ps
  front = rw gives.laid (take_at (differing ps) (drop (length (differing ps)) list) n (sym gives.positions_are))

  -- what lies behind the positions stays
  pub past_the_listed_stays : drop n after ≡ drop n list
  past_the_listed_stays = rw (gives.laid, drop_at (differing ps) (drop (length (differing ps)) list) n (sym gives.positions_are), gives.positions_are)

  -- list and sums are what single readings give, each lent any list with room for its places
  pub as_single_readings : (room : List ℕ) → 102 ≤ length room
      → (take n after ≡ positions (read_apart room) 1 ps) × (c ≡ total (read_cents room francs) ps) × (e ≡ total (read_cents room euros) ps)
  as_single_readings room enough = (
    front ∙ positions_alike editions_differ (read_apart room) (differs_read room enough) 1 ps,
    gives.francs_are ∙ total_alike (adds francs) (read_cents room francs) (cents_read room enough francs) ps,
    gives.euros_are ∙ total_alike (adds euros) (read_cents room euros) (cents_read room enough euros) ps,
  )

  -- positions ascend from 1, each once
  pub ascending : climbs 0 (take n after) ≡ true
  ascending = rw front (positions_climb editions_differ 0 1 ps (omega arith))

  -- each is that of a bill
  pub of_a_bill : (m : ℕ) → among (take n after) m ≡ true → (1 ≤ m) × (m ≤ count)
  of_a_bill m reads_as = let (low, top) = position_of_bill editions_differ m 1 ps (rw front at reads_as) in (low, omega (arith, handed_length buffer places count))

  listed_if_differs : (i : ℕ) → i < count → among (take n after) (1 + i) ≡ editions_differ (line_at buffer places i)
  listed_if_differs i k = rw front (position_there editions_differ i 1 ps (omega (arith, handed_length buffer places count)) ∙ ap editions_differ (bill_at buffer places count i k))

  -- and is listed exactly if the reader's answers on its bill alone differ in number or line
  pub listed_exactly : (i : ℕ) → i < count → (room : List ℕ) → 102 ≤ length room → among (take n after) (1 + i) ≡ read_apart room (line_at buffer places i)
  listed_exactly i k room enough = listed_if_differs i k ∙ differs_read room enough (line_at buffer places i)

  -- no more positions than bills, and no more bills than there is room for and than are allowed

  clear : (i : ℕ) → get_or (placed buffer places count ∷ no_room_refusal (length list) count ∷ []) i none ≡ none
  clear = each_none _ (first_append (place_findings buffer places count) (no_room_refusal (length list) count ∷ []) ∙ gives.nothing)

  few : count ≤ most_bills
  few = few_bills buffer places count (clear 0)

  pub within_room : count ≤ length list
  within_room = ltb-false _ _ (found_none _ (under 15 0) (clear 1))

  pub one_each_at_most : n ≤ count
  one_each_at_most = omega (arith, gives.positions_are, listed_few buffer places count)

  pub few_positions : n ≤ 500
  few_positions = omega (arith, one_each_at_most, few)

  -- so the sums are far below what 64 bits hold
  pub sums_fit : (c ≤ 500 * 99999999999) × (e ≤ 500 * 99999999999)
  sums_fit =
      let bills = handed_length buffer places count in
      (omega (arith, few, bills, gives.francs_are, total_most (adds francs) most_cents (adds_most francs) ps), omega (arith, few, bills, gives.euros_are, total_most (adds euros) most_cents (adds_most euros) ps))

-- whether a bill is listed hangs on the bill alone: whatever else two piles differ in, the same bill at the same position is listed in both or in none
pub neighbours_stay : {a b : Bytes} {p q : List ℕ} {count : ℕ} {list₁ list₂ : List ℕ} {n₁ c₁ e₁ n₂ c₂ e₂ : ℕ} {after₁ after₂ : List ℕ} → IsTried a p count list₁ (Ok (record { listed = n₁; francs = c₁; euros = e₁ })) after₁ → IsTried b q count list₂ (Ok (record { listed = n₂; francs = c₂; euros = e₂ })) after₂
    → (j : ℕ) → j < count → line_at a p j ≡ line_at b q j → among (take n₁ after₁) (1 + j) ≡ among (take n₂ after₂) (1 + j)
neighbours_stay h k j less same = listed_if_differs h j less ∙ ap editions_differ same ∙ sym (listed_if_differs k j less)

-- and its share of a sum is its own, whatever stands before and behind it
pub own_share : (currency : String) (ps : List Bytes) (p : Bytes) (qs : List Bytes) → sum currency (ps ++ p ∷ qs) ≡ sum currency ps + (adds currency p + sum currency qs)
unfolding total
own_share currency ps p qs = total_apart (adds currency) ps (p ∷ qs)

-- the list of bills behind others: the positions behind theirs
pub listed_behind : (ps qs : List Bytes) → differing (ps ++ qs) ≡ differing ps ++ positions editions_differ (1 + length ps) qs
listed_behind = positions_behind editions_differ 1

-- a bill that 2.4 accepts is never listed
pub accepted_not_listed : (p : Bytes) (n : ℕ) (k : Break) → verdict swiss p ≡ accepted n k → editions_differ p ≡ false
unfolding swiss
accepted_not_listed = accepted_alike
