-- The verdict of every layout with lawful characters accepts exactly its bills. Assumes nothing.
use Prim.Native.Nat.{ℕ, ◌≤◌}
use native.Mathlib.Omega.{arith}
use mathlib.Core.Bool.{false, not}
use mathlib.Core.List.Memᴰ
use mathlib.Core.List.{List, [], ◌∷◌, ◌++◌, map, Memᴰ}
use mathlib.Core.Logic.{◌⊎◌, inl, inr}
use mathlib.Core.Option.{none, map-eq-none_iff}
use mathlib.Core.Path.{◌≡◌, refl, sym, ◌∙◌, ap}
use lib.Dec.{eqb, eqb-suc-zero}
use lib.ListN.{length}
use borrow.Author.Tests.{ltb-false, le-ltb, le-leb, not-false}
use Rattle.sieve.specs.declared.Break.{Break}
use Rattle.sieve.specs.declared.Break.TheVariants.{Lf, CrLf}
use Rattle.sieve.specs.Bytes.{Bytes}
use Rattle.sieve.specs.Lines.{Next, glued_after, Bill, cut, break_bytes, after_breaks, joined, written, lines_of, breaks_of, kind, same_break, bill_of}
use Rattle.sieve.specs.Rules.{Layout}
use Rattle.sieve.specs.Verdict.{mixed_breaks_refusal, accepted, findings, first, verdict}
use Rattle.sieve.specs.Lawful.{Clean, Lawful}
use Rattle.sieve.specs.Keeps.{Keeps}
use Rattle.sieve.specs.Demand.{Is, AcceptsExactly}
use Rattle.sieve.proofs.Likeness.{like, like_itself}
use Rattle.sieve.proofs.Cutting.{Each, glued_cut, nexts, cut_joined}
use Rattle.sieve.proofs.Walking.{no_bad_place, texts, text_clean}
use Rattle.sieve.proofs.Bounds.{is_within}
use Rattle.sieve.proofs.Findings.{found_none, settled_accepts, verdict_is, Clear, clear, clear_first, all_unbroken, none_broken, none_such, such_none}

-- where every break is like k, the lines with k between them are the bytes that were cut
alike : (k : Break) (ns : List Next) → ((j : Break) → Memᴰ j (map (λ n. n.break) ns) → j ≡ k) → after_breaks k (map (λ n. n.line) ns) ≡ glued_after ns
alike k [] h = refl
alike k (n ∷ ns) h = rw (h n.break (Memᴰ.head refl), alike k ns (λ j m. h j (Memᴰ.tail m)))

-- where no break is unlike the first, all are like it, and the bytes are what the bill that they are read as is written as

pub each_like : (p : Bytes) → mixed_breaks_refusal (breaks_of (cut p)) ≡ none → (j : Break) → Memᴰ j (breaks_of (cut p)) → j ≡ kind (breaks_of (cut p))
each_like p h j m =
    let k = kind (breaks_of (cut p)) in
    like k j (such_none (λ i. not (same_break k i)) 1 (breaks_of (cut p)) ((map-eq-none_iff _ _).0 h) j m)

pub unmixed_written : (p : Bytes) → mixed_breaks_refusal (breaks_of (cut p)) ≡ none → written (bill_of p) ≡ p
unfolding written bill_of
unmixed_written p h = ap (λ (t : Bytes). (cut p).first ++ t) (alike (kind (breaks_of (cut p))) (cut p).rest (each_like p h)) ∙ glued_cut p

lines_back : (k : Break) (ls : List Bytes) → map (λ n. n.line) (nexts k ls) ≡ ls
lines_back k [] = refl
lines_back k (l ∷ ls) = ap (λ (t : List Bytes). l ∷ t) (lines_back k ls)

breaks_back : (k : Break) (ls : List Bytes) (j : Break) → Memᴰ j (map (λ n. n.break) (nexts k ls)) → j ≡ k
breaks_back k [] j m = absurd (Memᴰ.not-nil m)
breaks_back k (l ∷ ls) j m = by_cases (Memᴰ.cases_cons m) (breaks_back k ls j)
  where
    by_cases : (j ≡ k) ⊎ Memᴰ j (map (λ n. n.break) (nexts k ls)) → (Memᴰ j (map (λ n. n.break) (nexts k ls)) → j ≡ k) → j ≡ k
    by_cases (inl e) ih = e
    by_cases (inr m) ih = ih m

-- lines without CR and LF are read back from what they are written as
pub clean_read_back : (b : Bill) → 2 ≤ length b.lines → Each Clean b.lines → bill_of (written b) ≡ b
unfolding written bill_of
clean_read_back b = along b.lines
  where
    along : (ls : List Bytes) → 2 ≤ length ls → Each Clean ls → bill_of (joined b.break ls) ≡ record { lines = ls; break = b.break }
    along [] two h = absurd (omega arith)
    along (l ∷ []) two h = absurd (omega arith)
    along (l ∷ m ∷ ls) two h = rw (cut_joined b.break l (m ∷ ls) h, lines_back b.break ls)

not_empty : (k : Break) (l s : Bytes) → eqb (length (l ++ (break_bytes k ++ s))) 0 ≡ false
not_empty k (x ∷ l) s = rw eqb-suc-zero
not_empty Lf [] s = rw eqb-suc-zero
not_empty CrLf [] s = rw eqb-suc-zero

module _ (L : Layout) (laws : (ls : List Bytes) → Lawful (L.width ls)) where
  sound : (p : Bytes) (n : ℕ) (k : Break) → verdict L p ≡ accepted n k → (b : Bill) × Is L p n k b
  unfolding bill_of
  sound p n k h =
      let ls = lines_of (cut p) in
      let (nothing, count, break) = settled_accepts (bill_of p) (first (findings L p)) (sym (verdict_is L p) ∙ h) in
      let all = clear L p nothing in
      let (least, most) = is_within L.fewest_lines L.most_lines (length ls) (not-false _ (found_none _ _ all.counted)) in
      let same = unmixed_written p all.unmixed in (
        bill_of p,
        record {
          keeps = record {
            enough = omega arith;
            not_too_many = omega arith;
            text = texts (L.width ls) (laws ls) p ((map-eq-none_iff _ _).0 all.good);
            fits = rw same (ltb-false _ _ (found_none _ _ all.not_too_many));
            unbroken = all_unbroken L.rules ls all.kept;
          };
          writes = same;
          count = count;
          break = break;
        },
      )

  module _ (fewest : 2 ≤ L.fewest_lines) where
    -- nothing is found in the bytes of a bill that keeps the rules
    back : (k : Break) (ls : List Bytes) → Keeps L (record { lines = ls; break = k }) → Clear L (written (record { lines = ls; break = k }))
    unfolding written
    back k [] h = let a = h.enough in absurd (omega arith)
    back k (l ∷ []) h = let a = h.enough in absurd (omega arith)
    back k (l ∷ m ∷ ls) h =
        let all = l ∷ m ∷ ls in
        let e = cut_joined k l (m ∷ ls) (λ t i. text_clean (L.width all) (laws all) (h.text t i)) in
        let f = lines_back k ls in
        record {
          some_bytes = rw (not_empty k l (m ++ after_breaks k ls));
          not_too_many = rw (le-ltb _ _ h.fits);
          good = rw (e, f, no_bad_place _ (laws all) k all h.text);
          unmixed = rw (e, none_such (λ j. not (same_break k j)) 1 (k ∷ map (λ n. n.break) (nexts k ls)) (λ j i. rw (breaks_back k (m ∷ ls) j i) (like_itself k)));
          counted = rw (e, f, le-leb _ _ h.enough, le-leb _ _ h.not_too_many);
          kept = rw (e, f) (none_broken L.rules all h.unbroken);
        }

    -- a bill that keeps the rules is read back from what it is written as
    pub read_back : (b : Bill) → Keeps L b → bill_of (written b) ≡ b
    read_back b h = clean_read_back b (omega (arith, h.enough)) (λ l m. text_clean (L.width b.lines) (laws b.lines) (h.text l m))

    pub accepts_exactly : AcceptsExactly L (verdict L)
    accepts_exactly = record {
      sound = sound;
      complete = λ b h. verdict_is L (written b) ∙ rw (read_back b h, clear_first L (written b) (back b.break b.lines h));
      unique = λ b c h g e. sym (read_back b h) ∙ ap bill_of e ∙ read_back c g;
    }
