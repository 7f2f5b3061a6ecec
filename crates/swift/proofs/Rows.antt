-- Rows while they are filled: a character more, and the characters of a text in turn. Assumes nothing.
use Prim.Native.Nat.{ℕ, ◌+◌, ◌≤◌, ◌<◌}
use native.Mathlib.Numerals.{add-one}
use native.Mathlib.Omega.{arith}
use mathlib.Core.Bool.{Bool, true, false, true≢false, cond, not}
use mathlib.Core.List.{[], ◌∷◌, ◌++◌, append-nil}
use mathlib.Core.Logic.{◌≢◌}
use mathlib.Core.Path.{◌≡◌, refl, sym, ap, ◌∙◌}
use lib.Dec.{leb}
use lib.ListN.{length, take, drop, get_or, set, length-append, length-set, length-take, length-drop, drop_of_length-le}
use lib.Seq.{take-suc-set, drop-cons, append_snoc, take_at, drop_at, take_all, take-take, take-append-le, length-take-le}
use borrow.Author.Tests.{leb-true, leb-false, not-true, not-false}
use Rattle.sieve.specs.Bytes.{Bytes, within}
use Rattle.sieve.specs.Characters.{characters}
use Rattle.swift.specs.declared.Filled.{Filled}
use Rattle.swift.specs.declared.Line.{Line}
use Rattle.swift.specs.declared.Row.{Row}
use Rattle.sieve.proofs.Bounds.{is_within}
use Rattle.swift.specs.Letters.{leads, in_x, full_stop, replaced, laid_byte, laid_from, replaced_from}
use Rattle.swift.specs.Portions.{line_most}
use Rattle.swift.specs.Rowed.{RowFits, RowHolds, IsFilled, Lined, SmallLine, IsAdded}
use Rattle.swift.proofs.Laying.{leads_count, wide_replaced}
use Rattle.swift.proofs.Bounds.{leads_short, leads_append}

-- one character behind others

laid_later : (s : Bytes) (x : ℕ) → laid_from false (s ++ (x ∷ [])) ≡ laid_from false s ++ (laid_byte false x ∷ [])
unfolding laid_from
laid_later [] x = refl
laid_later (y ∷ s) x = ap (λ (r : Bytes). laid_byte false y ∷ r) (laid_later s x)

replaced_later : (s : Bytes) (x : ℕ) → replaced_from false (s ++ (x ∷ [])) ≡ replaced_from false s + cond (replaced false x) 1 0
unfolding replaced_from
replaced_later [] x = omega arith
replaced_later (y ∷ s) x = omega (arith, replaced_later s x)

at_most_one : (b : Bool) → cond b 1 0 ≤ 1
at_most_one true = omega arith
at_most_one false = omega arith

-- a row with one character more
one_put : (row : Row) (x v n : ℕ) → RowFits row → row.length < line_most → v ≡ laid_byte false x → n ≡ row.replaced + cond (replaced false x) 1 0
    → let next : Row = record { bytes = set row.bytes row.length v; length = row.length + 1; replaced = n } in
    RowFits next × ((s : Bytes) → RowHolds row s → RowHolds next (s ++ (x ∷ [])))
one_put row x v n ok more is told = (
  record { room = length-set row.bytes row.length v ∙ ok.room; few = omega arith; fewer = omega (arith, ok.fewer, told, at_most_one (replaced false x)) },
  λ s h. record {
    laid = rw (add-one, take-suc-set row.bytes row.length v (omega (arith, ok.room)), h.laid, is) (sym (laid_later s x));
    size = omega (arith, h.size, length-append s (x ∷ []));
    count = rw (replaced_later s x, ← h.count) told;
  },
)

-- a character of the x set stays, and begins one; another is replaced
in_x_stays : (x : ℕ) → in_x x ≡ true → replaced false x ≡ false
unfolding replaced
in_x_stays x e = rw e

out_of_x : (x : ℕ) → in_x x ≡ false → replaced false x ≡ true
unfolding replaced
out_of_x x e = rw e

pub in_x_begins : (x : ℕ) → in_x x ≡ true → within 0x80 0xBF x ≡ false
in_x_begins x e = by_cases (within 0x80 0xBF x) refl
  where
    by_cases : (b : Bool) → within 0x80 0xBF x ≡ b → b ≡ false
    by_cases false f = refl
    by_cases true f = absurd (true≢false (sym (wide_replaced false x (omega (arith, is_within 0x80 0xBF x f))) ∙ in_x_stays x e))

-- while a text is put behind a row
pub record Going (row : Row) (text : Bytes) (from : ℕ) (next : Row) (at : ℕ) : Type 0 where
  pub fillable : RowFits next
  pub within : at ≤ length text
  pub reached : (s : Bytes) → RowHolds row s → (d : Bytes) × (RowHolds next d × (d ++ leads (drop at text) ≡ s ++ leads (drop from text)))

-- the byte at a place begins a character, or it does not
leads_step : (text : Bytes) (at : ℕ) → at < length text → leads (drop at text) ≡ cond (within 0x80 0xBF (get_or text at 0)) (leads (drop (at + 1) text)) (get_or text at 0 ∷ leads (drop (at + 1) text))
unfolding leads
leads_step text at h = rw (add-one, drop-cons text at 0 h)

module _ {row : Row} {text : Bytes} {from : ℕ} {next : Row} {at : ℕ} (g : Going row text from next at) where
  -- a byte that begins no character is passed over
  pub passed_over : at < length text → not (within 0x80 0xBF (get_or text at 0)) ≡ false → Going row text from next (at + 1)
  passed_over h e =
      let skip : leads (drop at text) ≡ leads (drop (at + 1) text) = leads_step text at h ∙ rw (not-false (within 0x80 0xBF (get_or text at 0)) e) in
      record { fillable = g.fillable; within = omega arith; reached = λ s k. let (d, (l, q)) = g.reached s k in (d, (l, rw (← skip) q)) }

  put_on : {more : Row} → at < length text → within 0x80 0xBF (get_or text at 0) ≡ false → RowFits more × ((s : Bytes) → RowHolds next s → RowHolds more (s ++ (get_or text at 0 ∷ []))) → Going row text from more (at + 1)
  put_on h e m =
      let x = get_or text at 0 in
      let onto : leads (drop at text) ≡ x ∷ leads (drop (at + 1) text) = leads_step text at h ∙ rw e in
      record {
        fillable = m.0;
        within = omega arith;
        reached = λ s k. let (d, (l, q)) = g.reached s k in (d ++ (x ∷ []), (m.1 d l, append_snoc d x (leads (drop (at + 1) text)) ∙ rw (← onto) q));
      }

  -- one of the x set is put as it is
  pub put_as_is : at < length text → next.length ≢ line_most → in_x (get_or text at 0) ≡ true → Going row text from (record { bytes = set next.bytes next.length (get_or text at 0); length = next.length + 1; replaced = next.replaced }) (at + 1)
  put_as_is h more e =
      let x = get_or text at 0 in
      let stays : replaced false x ≡ false = in_x_stays x e in
      put_on h (in_x_begins x e) (one_put next x x next.replaced g.fillable (omega (arith, more, g.fillable.few)) (rw stays) (rw stays (omega arith)))

  -- a full stop stands for another
  pub put_stop : at < length text → next.length ≢ line_most → in_x (get_or text at 0) ≡ false → not (within 0x80 0xBF (get_or text at 0)) ≡ true
      → Going row text from (record { bytes = set next.bytes next.length full_stop; length = next.length + 1; replaced = next.replaced + 1 }) (at + 1)
  put_stop h more e b =
      let x = get_or text at 0 in
      let goes : replaced false x ≡ true = out_of_x x e in
      put_on h (not-true (within 0x80 0xBF x) b) (one_put next x full_stop (next.replaced + 1) g.fillable (omega (arith, more, g.fillable.few)) (rw goes) (rw goes))

  -- the row is full, or the text ends

  full : (s : Bytes) → RowHolds row s → next.length ≡ line_most → RowHolds next (take line_most (s ++ leads (drop from text))) × (leads (drop at text) ≡ drop line_most (s ++ leads (drop from text)))
  full s k h =
      let (d, (l, q)) = g.reached s k in
      let size : length d ≡ line_most = sym l.size ∙ h in
      rw (← q, take_at d (leads (drop at text)) line_most size, drop_at d (leads (drop at text)) line_most size) (l, refl)

  pub at_the_brim : next.length ≡ line_most → IsFilled row text from (record { row = next; at = at })
  at_the_brim h = record { fillable = g.fillable; within = g.within; holds = λ s k. (full s k h).0; left = λ s k. (full s k h).1 }

  nothing_left : length text ≤ at → leads (drop at text) ≡ []
  unfolding leads
  nothing_left h = rw (drop_of_length-le text h)

  ended : (s : Bytes) → RowHolds row s → length text ≤ at → RowHolds next (take line_most (s ++ leads (drop from text))) × (leads (drop at text) ≡ drop line_most (s ++ leads (drop from text)))
  ended s k h =
      let (d, (l, q)) = g.reached s k in
      let whole : d ≡ s ++ leads (drop from text) = sym (append-nil d) ∙ ap (λ (r : Bytes). d ++ r) (sym (nothing_left h)) ∙ q in
      let few : length d ≤ line_most = omega (arith, l.size, g.fillable.few) in
      rw (← whole, take_all line_most d few, drop_of_length-le d few) (l, nothing_left h)

  pub at_the_end : length text ≤ at → IsFilled row text from (record { row = next; at = at })
  at_the_end h = record { fillable = g.fillable; within = g.within; holds = λ s k. (ended s k h).0; left = λ s k. (ended s k h).1 }

-- of characters behind the first 35 none finds room
take_once : (s l : Bytes) → take line_most (take line_most s ++ l) ≡ take line_most (s ++ l)
take_once s l = by_cases (leb (length s) line_most) refl
  where
    by_cases : (b : Bool) → leb (length s) line_most ≡ b → take line_most (take line_most s ++ l) ≡ take line_most (s ++ l)
    by_cases true e = rw (take_all line_most s (leb-true _ _ e))
    by_cases false e =
        let more : line_most < length s = leb-false _ _ e in
        let size = length-take-le line_most s (omega arith) in
        take-append-le line_most (take line_most s) l (omega (arith, size)) ∙ take-take line_most line_most s (omega arith) ∙ sym (take-append-le line_most s l (omega arith))

-- what is left of a text has no more characters than it has bytes
pub few_left : (text : Bytes) (at : ℕ) → characters (drop at text) ≤ length text
few_left text at = omega (arith, leads_count (drop at text), leads_short (drop at text), length-drop at text)

-- the characters of a text were put on a line
pub text_added : (line : Line) (text : Bytes) (f : Filled) (n : ℕ) → IsFilled line.row text 0 f → n ≡ characters (drop f.at text) → IsAdded line text (record { row = f.row; cut = line.cut + n })
text_added line text f n is told =
    record {
      small = record { fillable = is.fillable; few = omega (arith, told, few_left text f.at) };
      lined = λ s l. record {
        held = rw (← take_once s (leads text)) (is.holds (take line_most s) l.held);
        cut = omega (arith, l.cut, told, leads_count (drop f.at text), ap length (is.left (take line_most s) l.held), length-drop line_most s, length-drop line_most (take line_most s ++ leads text), length-append (take line_most s) (leads text), length-take line_most s, length-drop line_most (s ++ leads text), length-append s (leads text));
      };
    }

-- one text behind another
pub then_added : {line r : Line} {text : Bytes} (a : Bytes) → IsAdded line text r → Lined line (leads a) → Lined r (leads (a ++ text))
then_added {line} {r} {text} a is l = rw (leads_append a text) (is.lined (leads a) l)

pub first_added : {line r : Line} {text : Bytes} → IsAdded line text r → Lined line [] → Lined r (leads text)
first_added is l = is.lined [] l

-- no text at all
pub none_added : {line : Line} → Lined line [] → Lined line (leads [])
unfolding leads
none_added l = l

pub widened : {line : Line} {m n : ℕ} → SmallLine line m → m ≤ n → SmallLine line n
widened h k = record { fillable = h.fillable; few = omega (arith, h.few) }
