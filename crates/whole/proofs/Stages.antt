-- Rules 1 to 5, one after the other, by what the walk tells. Assumes nothing.
use Prim.Native.Nat.{ℕ, ◌+◌, ◌≤◌, ◌<◌}
use native.Mathlib.Omega.{arith}
use mathlib.Core.Bool.{true, false, not}
use mathlib.Core.List.{List, [], ◌∷◌}
use mathlib.Core.Option.{Option, some, none}
use mathlib.Core.Path.{◌≡◌, refl, sym, ap, ◌∙◌}
use lib.ListN.{length, take, replicate, length-map}
use borrow.Author.Tests.{eq-eqb, ne_eqb, lt-ltb, le-ltb}
use Rattle.sieve.specs.Places.{walk_numbers}
use Rattle.std.specs.Prelude.{Ok, Err}
use Rattle.sieve.specs.Paper.{Answer, paper_fault, paper}
use Rattle.sieve.specs.declared.Break.{Break}
use Rattle.sieve.specs.declared.Fault.{Fault}
use Rattle.sieve.specs.declared.Fault.TheVariants.{NoBytes, TooManyBytes, BadCharacter, MixedBreaks, LineCount}
use Rattle.sieve.specs.declared.Limits.{Limits}
use Rattle.sieve.specs.Bytes.{Bytes, within, first_such}
use Rattle.sieve.specs.Characters.{Width, bad_place, line_feeds}
use Rattle.sieve.specs.Lines.{cut, lines_of, breaks_of, kind, same_break, bill_of}
use Rattle.sieve.specs.Rules.{Layout}
use Rattle.sieve.specs.Verdict.{accepted, refused, no_bytes_refusal, too_many_bytes_refusal, bad_character_refusal, mixed_breaks_refusal, line_count_refusal, findings, first, decided, verdict}
use Rattle.sieve.specs.Whole.{limited}
use Rattle.sieve.proofs.Findings.{first_nil, verdict_is}
use Rattle.sieve.proofs.Firsts.{passed, stopped}
use Rattle.sieve.proofs.PaperLosesNothing.{same_parting}
use Rattle.lines.specs.Parted.{breaks_in}
use Rattle.places.specs.Listed.{listed_short}
use Rattle.walk.specs.Walking.{IsTold}
use Rattle.whole.specs.Judged.{judged_places, IsJudged}

module _ (limits : Limits) (w : Width) (p : Bytes) where
  abbrev L : Layout
  L = limited limits w

  abbrev ls : List Bytes
  ls = lines_of (cut p)

  abbrev ks : List Break
  ks = breaks_of (cut p)

  -- a refusal, with no places
  refused_so : {r : Answer} {after : List ℕ} (f : Fault) → first (findings L p) ≡ some (paper_fault f) → r ≡ Err f → after ≡ replicate walk_numbers 0 → IsJudged L p r after
  refused_so f found is none_left =
      let v : verdict L p ≡ refused (paper_fault f) = verdict_is L p ∙ ap (decided (bill_of p)) found in
      record { answer = ap paper is ∙ sym v; places = none_left ∙ sym (ap (judged_places p) v) }

  -- rules 1 and 2

  all : first (findings L p) ≡ first (no_bytes_refusal p ∷ too_many_bytes_refusal L p ∷ bad_character_refusal L p ls ∷ mixed_breaks_refusal ks ∷ line_count_refusal L ls ∷ [])
  unfolding findings
  all = refl

  pub no_bytes : {r : Answer} {after : List ℕ} → length p ≡ 0 → r ≡ Err NoBytes → after ≡ replicate walk_numbers 0 → IsJudged L p r after
  no_bytes h = refused_so NoBytes (stopped _ all (rw (eq-eqb (length p) 0 h)))

  module _ (bytes : length p ≡ 0 → ⊥) where
    some_bytes : first (findings L p) ≡ first (too_many_bytes_refusal L p ∷ bad_character_refusal L p ls ∷ mixed_breaks_refusal ks ∷ line_count_refusal L ls ∷ [])
    some_bytes = passed _ all (rw (ne_eqb (length p) 0 bytes))

    pub too_many : {r : Answer} {after : List ℕ} → limits.bytes < length p → r ≡ Err TooManyBytes → after ≡ replicate walk_numbers 0 → IsJudged L p r after
    too_many h = refused_so TooManyBytes (stopped _ some_bytes (rw (lt-ltb limits.bytes (length p) h)))

    module _ (short : length p ≤ limits.bytes) where
      not_too_many : first (findings L p) ≡ first (bad_character_refusal L p ls ∷ mixed_breaks_refusal ks ∷ line_count_refusal L ls ∷ [])
      not_too_many = passed _ some_bytes (rw (le-ltb limits.bytes (length p) short))

      -- rules 3 and 4: what the walk refuses

      module _ {t : Answer} {places : List ℕ} (told : IsTold p (bad_place w p) t places) where
        abbrev odd : Option ℕ
        odd = first_such (λ k. not (same_break (kind ks) k)) 1 ks

        pub walk_refused : {r : Answer} {after : List ℕ} (f : Fault) → t ≡ Err f → r ≡ Err f → after ≡ replicate walk_numbers 0 → IsJudged L p r after
        unfolding breaks_in
        walk_refused f is = refused_so f (by_cases (bad_place w p) odd refl refl told)
          where
            by_cases : (o u : Option ℕ) → bad_place w p ≡ o → odd ≡ u → IsTold p o t places → first (findings L p) ≡ some (paper_fault f)
            by_cases (some at) u e d s =
                let c : f ≡ BadCharacter (1 + line_feeds (take at p)) at = cc in
                rw c (stopped _ not_too_many (rw e))
            by_cases none (some i) e d s =
                let c : ◌≡◌ {A = Answer} (Err f) (Err (MixedBreaks i)) = sym is ∙ s.told ∙ rw d in
                let g : f ≡ MixedBreaks i = cc in
                rw g (stopped _ (passed _ not_too_many (rw e)) (rw d))
            by_cases none none e d s =
                let c : ◌≡◌ {A = Answer} (Err f) (Ok (1 + length ks, kind ks)) = sym is ∙ s.told ∙ rw d in
                let z : ◌≡◌ {A = ℕ} 0 1 = cc in absurd (omega arith)

        -- lines that are parted alike: rule 5
        record OfOneKind (n : ℕ) (k : Break) : Type 0 where
          break : k ≡ kind ks
          lines : n ≡ length ls
          hangs : first (findings L p) ≡ first (line_count_refusal L ls ∷ [])
          listed : places ≡ listed_short p

        alike : (n : ℕ) (k : Break) → t ≡ Ok (n, k) → OfOneKind n k
        unfolding breaks_in
        alike n k is = by_cases (bad_place w p) odd refl refl told
          where
            by_cases : (o u : Option ℕ) → bad_place w p ≡ o → odd ≡ u → IsTold p o t places → OfOneKind n k
            by_cases (some at) u e d s = let c = sym is ∙ s.told in let z : ◌≡◌ {A = ℕ} 0 1 = cc in absurd (omega arith)
            by_cases none (some i) e d s =
                let c : ◌≡◌ {A = Answer} (Ok (n, k)) (Err (MixedBreaks i)) = sym is ∙ s.told ∙ rw d in
                let z : ◌≡◌ {A = ℕ} 0 1 = cc in absurd (omega arith)
            by_cases none none e d s =
                let c : ◌≡◌ {A = Answer} (Ok (n, k)) (Ok (1 + length ks, kind ks)) = sym is ∙ s.told ∙ rw d in
                let (m, same) = same_parting c in
                record {
                  break = same;
                  lines = omega (arith, m, length-map (cut p).rest (λ n. n.break), length-map (cut p).rest (λ n. n.line));
                  hangs = passed _ (passed _ not_too_many (rw e)) (rw d);
                  listed = s.places;
                }

        pub wrong_count : {r : Answer} {after : List ℕ} (n : ℕ) (k : Break) → t ≡ Ok (n, k) → within limits.fewest limits.most n ≡ false → r ≡ Err (LineCount n) → after ≡ replicate walk_numbers 0 → IsJudged L p r after
        wrong_count n k is outside = let o = alike n k is in refused_so (LineCount n) (stopped _ o.hangs (rw (← o.lines, outside)))

        pub kept : (n : ℕ) (k : Break) → t ≡ Ok (n, k) → within limits.fewest limits.most n ≡ true → IsJudged L p (Ok (n, k)) places
        unfolding bill_of
        kept n k is inside =
            let o = alike n k is in
            let nothing : first (findings L p) ≡ none = passed [] o.hangs (rw (← o.lines, inside)) ∙ first_nil in
            let v : verdict L p ≡ accepted n k = verdict_is L p ∙ rw (nothing, o.lines, o.break) in
            record { answer = sym v; places = o.listed ∙ sym (ap (judged_places p) v) }
