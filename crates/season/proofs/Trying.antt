-- Bill after bill: what is listed and summed so far, and what is still to come. Assumes nothing.
use Prim.Native.Nat.{ℕ, ◌+◌, ◌*◌, ◌≤◌, ◌<◌}
use Prim.Native.String.{String}
use native.Mathlib.Nat.{add-zero}
use native.Mathlib.Numerals.{add-one}
use native.Mathlib.Omega.{arith}
use mathlib.Core.Bool.{Bool, true, false, cond}
use mathlib.Core.List.{List, [], ◌∷◌}
use mathlib.Core.Path.{◌≡◌, sym, ap, ◌∙◌}
use lib.ListN.{length, get_or, drop, set, length-drop}
use lib.Seq.{drop-drop, get_or-drop}
use Rattle.sieve.specs.Bytes.{Bytes, over}
use Rattle.sieve.specs.Writing.{handed}
use Rattle.sieve.proofs.WriterPromises.{handed_length}
use Rattle.swiss.specs.Limits.{francs, euros}
use Rattle.runs.proofs.Lays.{Laying, one_laid}
use Rattle.joining.specs.Handing.{line_at}
use Rattle.joining.proofs.Handing.{still, next_line, no_line}
use Rattle.joining.proofs.Laying.{whole}
use Rattle.season.specs.declared.Outcome.{Outcome}
use Rattle.season.specs.Season.{positions, total, editions_differ, adds, differing, sum, IsOutcome}
use Rattle.season.proofs.OverBills.{positions_few}
use Rattle.season.proofs.Paying.{most_cents, adds_most}

module _ (buffer : Bytes) (places : List ℕ) (count : ℕ) where
  abbrev bills : List Bytes
  bills = handed buffer places count

  abbrev left : ℕ → List Bytes
  left = still buffer places count

  -- after i bills n positions are listed, and the sums are c and e
  pub record Trying (list₀ : List ℕ) (i n c e : ℕ) (list : List ℕ) : Type 0 where
    pub laid : Laying list₀ (differing bills) n list
    pub ahead : drop n (differing bills) ≡ positions editions_differ (i + 1) (left i)
    pub few : n ≤ i
    pub in_francs : c + sum francs (left i) ≡ sum francs bills
    pub in_euros : e + sum euros (left i) ≡ sum euros bills
    pub low_francs : c ≤ most_cents * i
    pub low_euros : e ≤ most_cents * i

  pub listed_few : length (differing bills) ≤ count
  listed_few = omega (arith, positions_few editions_differ 1 bills, handed_length buffer places count)

  module _ (i : ℕ) (more : i < count) where
    abbrev p : Bytes
    p = line_at buffer places i

    -- one bill's share of what is still to come

    sum_next : (currency : String) → sum currency (left i) ≡ adds currency p + sum currency (left (i + 1))
    unfolding total
    sum_next currency = rw (next_line buffer places count i more)

    listed_next : {b : Bool} → editions_differ p ≡ b → positions editions_differ (i + 1) (left i) ≡ cond b ((i + 1) ∷ positions editions_differ (i + 1 + 1) (left (i + 1))) (positions editions_differ (i + 1 + 1) (left (i + 1)))
    unfolding positions
    listed_next e = rw (next_line buffer places count i more, e, add-one (i + 1))

    module _ {list₀ list : List ℕ} {n c e : ℕ} (t : Trying list₀ i n c e list) (room : count ≤ length list₀) where
      -- where the bill is listed, and where it is not
      noted : (b : Bool) → editions_differ p ≡ b → let m = cond b (n + 1) n in
          Laying list₀ (differing bills) m (cond b (set list n (i + 1)) list) × (drop m (differing bills) ≡ positions editions_differ (i + 1 + 1) (left (i + 1))) × (m ≤ i + 1)
      noted false e = (t.laid, t.ahead ∙ listed_next e, omega (arith, t.few))
      noted true e =
          let E = differing bills in
          let here = t.ahead ∙ listed_next e in
          let there : n < length E = omega (arith, ap length here, length-drop n E) in
          let value : get_or E n 0 ≡ i + 1 = ap (λ (m : ℕ). get_or E m 0) (sym (add-zero n)) ∙ sym (get_or-drop n E 0 0) ∙ ap (λ (l : List ℕ). get_or l 0 0) here in
          (rw (← value) (one_laid t.laid there (omega (arith, listed_few))), sym (drop-drop 1 n E) ∙ ap (drop 1) here, omega (arith, t.few))

      pub one_tried : {o : Outcome} {m : ℕ} {after : List ℕ} → IsOutcome p (editions_differ p) o → m ≡ cond o.differs (n + 1) n → after ≡ cond o.differs (set list n (i + 1)) list
          → Trying list₀ (i + 1) m (c + o.francs) (e + o.euros) after
      one_tried {o} is count-is list-is =
          let (laid-is, ahead-is, few-is) = noted o.differs (sym is.differs_is) in
          record {
            laid = rw (count-is, list-is) laid-is;
            ahead = rw count-is ahead-is;
            few = rw count-is few-is;
            in_francs = omega (arith, t.in_francs, sum_next francs, is.in_francs);
            in_euros = omega (arith, t.in_euros, sum_next euros, is.in_euros);
            low_francs = omega (arith, t.low_francs, is.in_francs, adds_most francs p);
            low_euros = omega (arith, t.low_euros, is.in_euros, adds_most euros p);
          }

  pub all_tried : {list₀ list : List ℕ} {i n c e : ℕ} → count ≤ i → Trying list₀ i n c e list
      → (n ≡ length (differing bills)) × (c ≡ sum francs bills) × (e ≡ sum euros bills) × (list ≡ over list₀ (differing bills))
  unfolding positions total
  all_tried {i = i} {n = n} h t =
      let none_left = no_line buffer places count i h in
      let gone : drop n (differing bills) ≡ [] = t.ahead ∙ rw none_left in
      let (n-is, list-is) = whole (omega (arith, ap length gone, length-drop n (differing bills))) t.laid in
      let c-is = rw none_left at t.in_francs in
      let e-is = rw none_left at t.in_euros in
      (n-is, omega (arith, c-is), omega (arith, e-is), list-is)
