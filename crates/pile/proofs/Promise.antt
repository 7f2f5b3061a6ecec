-- What a user of a pile may rely on, stated on its contract. Assumes nothing.
use Prim.Native.Nat.{ℕ, ◌*◌, ◌≤◌, ◌<◌}
use native.Mathlib.Omega.{arith}
use mathlib.Core.List.{List, append_assoc}
use mathlib.Core.Path.{◌≡◌, refl, sym, ap, ◌∙◌}
use lib.ListN.{length, take, drop}
use lib.Seq.{take_at, drop_at, drop-append-le}
use Rattle.sieve.specs.Options.{answered}
use Rattle.sieve.specs.declared.Fault.{Fault}
use Rattle.sieve.specs.Bytes.{Bytes, over}
use Rattle.sieve.specs.Reading.{read_answer}
use Rattle.sieve.specs.Verdict.{verdict}
use Rattle.sieve.specs.Writing.{spans, handed}
use Rattle.sieve.proofs.PaperLosesNothing.{one_fault}
use Rattle.sieve.proofs.ReaderPromises.{answer_is_verdict}
use Rattle.swiss.specs.declared.Edition.{Edition}
use Rattle.swiss.specs.Swiss.{swiss_in}
use Rattle.joining.specs.Handing.{line_at}
use Rattle.joining.proofs.Handing.{outside_first, outside_none}
use Rattle.std.specs.Prelude.{Ok, Err}
use Rattle.pile.specs.Pile.{Piled, bill_numbers, numbers_of, pile_numbers, paper_piled, IsPiled}
use Rattle.pile.proofs.Entries.{entry_length, entries_length, entry_next}
use Rattle.pile.proofs.Stages.{all_placed, is_done}

-- two answers that say the same in the paper's words are equal
pub one_piled : (q r : Piled) → paper_piled q ≡ paper_piled r → q ≡ r
one_piled (Ok u) (Ok v) e = refl
one_piled (Ok u) (Err g) e = let z : ◌≡◌ {A = ℕ} 0 1 = cc in absurd (omega arith)
one_piled (Err f) (Ok u) e = let z : ◌≡◌ {A = ℕ} 0 1 = cc in absurd (omega arith)
one_piled (Err f) (Err g) e = ap Err (one_fault f g cc)

-- one answer, and one content of the list
pub one_piling : {ed : Edition} {buffer : Bytes} {places : List ℕ} {count : ℕ} {answers : List ℕ} {q r : Piled} {a b : List ℕ} → IsPiled ed buffer places count answers q a → IsPiled ed buffer places count answers r b → (q ≡ r) × (a ≡ b)
one_piling {q = q} {r = r} h k = (one_piled q r (h.answer ∙ sym k.answer), h.lent ∙ sym k.lent)

-- a refusal of the pile changes no number
pub refusal_changes_nothing : {ed : Edition} {buffer : Bytes} {places : List ℕ} {count : ℕ} {answers : List ℕ} {f : Fault} {after : List ℕ} → IsPiled ed buffer places count answers (Err f) after → after ≡ answers
refusal_changes_nothing h = rw (← h.answer) at h.lent

module _ {ed : Edition} {buffer : Bytes} {places : List ℕ} {count : ℕ} {answers after : List ℕ} (h : IsPiled ed buffer places count answers (Ok tt) after) where
  -- a pile that is done leaves the entries in the front
  laid : after ≡ over answers (pile_numbers ed buffer places count)
  laid = rw (← h.answer) at h.lent

  -- what lies behind the entries stays
  pub past_the_count_stays : drop (2 * count) after ≡ drop (2 * count) answers
  past_the_count_stays =
      let size = entries_length ed buffer places count in
      rw (laid, drop_at (pile_numbers ed buffer places count) (drop (length (pile_numbers ed buffer places count)) answers) (2 * count) size, size)

  -- each bill's entry is that of its own verdict
  pub own_entry : (i : ℕ) → i < count → take 2 (drop (2 * i) after) ≡ bill_numbers (verdict (swiss_in ed) (line_at buffer places i))
  own_entry i k =
      let E = pile_numbers ed buffer places count in
      let v = verdict (swiss_in ed) (line_at buffer places i) in
      rw (laid, drop-append-le (2 * i) E (drop (length E) answers) (omega (arith, entries_length ed buffer places count)), entry_next ed buffer places count i k, append_assoc (bill_numbers v)) (take_at (bill_numbers v) _ 2 (entry_length v))

  -- that is the reader's answer on the bill alone, for any list with room for its places
  pub as_the_reader : (i : ℕ) → i < count → (list : List ℕ) → 102 ≤ length list → take 2 (drop (2 * i) after) ≡ bill_numbers (read_answer (swiss_in ed) (line_at buffer places i) list).answer
  as_the_reader i k list room = own_entry i k ∙ ap bill_numbers (sym (answer_is_verdict (swiss_in ed) (line_at buffer places i) list room))

-- an entry hangs on its own bill alone: whatever else two piles differ in, the same bill has the same entry
pub neighbours_stay : {ed : Edition} {b c : Bytes} {p q : List ℕ} {count : ℕ} {answers₁ answers₂ after₁ after₂ : List ℕ} → IsPiled ed b p count answers₁ (Ok tt) after₁ → IsPiled ed c q count answers₂ (Ok tt) after₂
    → (j : ℕ) → j < count → line_at b p j ≡ line_at c q j → take 2 (drop (2 * j) after₁) ≡ take 2 (drop (2 * j) after₂)
neighbours_stay {ed = ed} h k j few same = own_entry h j few ∙ ap (λ (l : Bytes). bill_numbers (verdict (swiss_in ed) l)) same ∙ sym (own_entry k j few)

-- a pile of no bills is done, and changes no number
pub no_bills : (ed : Edition) (buffer : Bytes) (places answers : List ℕ) → IsPiled ed buffer places 0 answers (Ok tt) answers
unfolding numbers_of handed spans
no_bills ed buffer places answers =
    let inside = outside_first buffer places 0 ∙ outside_none buffer places 0 0 (omega arith) in
    is_done buffer places 0 answers ed (all_placed buffer places 0 (omega arith) (omega arith) (sym (ap answered inside))) (omega arith) refl
