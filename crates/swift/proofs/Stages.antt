-- The answer, stage by stage: what its findings leave of it. Assumes nothing.
use Prim.Native.Nat.{ℕ, ◌≤◌, ◌<◌}
use mathlib.Core.List.{List, [], ◌∷◌}
use mathlib.Core.Logic.{◌≢◌}
use mathlib.Core.Option.{Option, some, none}
use mathlib.Core.Path.{◌≡◌, refl, sym, ◌∙◌}
use lib.Dec.{lit≤}
use lib.ListN.{length}
use borrow.Author.Tests.{ne_eqb, lt-ltb, le-ltb}
use Rattle.std.specs.Prelude.{Ok, Err}
use Rattle.sieve.specs.declared.Break.{Break}
use Rattle.sieve.specs.declared.Fault.{Fault}
use Rattle.sieve.specs.declared.Fault.TheVariants.{NoAmount, NoRoom}
use Rattle.sieve.specs.Bytes.{Bytes, over}
use Rattle.sieve.specs.Lines.{cut, lines_of, bill_of}
use Rattle.sieve.specs.Paper.{paper_fault}
use Rattle.sieve.specs.Reading.{no_room_refusal}
use Rattle.sieve.specs.Rules.{line}
use Rattle.sieve.specs.Verdict.{Refusal, findings, first}
use Rattle.sieve.proofs.Findings.{first_nil, settled_accepts, settled_refuses, verdict_is}
use Rattle.sieve.proofs.Firsts.{Hangs, passed, stopped}
use Rattle.swiss.specs.declared.Edition.{Edition}
use Rattle.swiss.specs.Swiss.{swiss_in}
use Rattle.places.specs.Listed.{listed}
use Rattle.whole.specs.Judged.{IsJudged}
use Rattle.whole.proofs.Judging.{counted}
use Rattle.swift.specs.declared.Counts.{Counts}
use Rattle.swift.specs.Fields.{contents, counts_of}
use Rattle.swift.specs.Answering.{no_amount_refusal, field_findings, fields_answer, IsMapped}
use Rattle.swift.specs.Paged.{Payable}

-- in what the reader accepts nothing is found, and its lines lie at the places that were listed
module _ (e : Edition) {p : Bytes} {n : ℕ} {k : Break} {places : List ℕ} (is : IsJudged (swiss_in e) p (Ok (n, k)) places) where
  pub clean : first (findings (swiss_in e) p) ≡ none
  clean = (settled_accepts (bill_of p) (first (findings (swiss_in e) p)) (sym (verdict_is (swiss_in e) p) ∙ sym is.answer)).0

  pub payable : Payable p
  payable = record { edition = e; kept = clean }

  pub well_listed : places ≡ listed p
  well_listed = (counted (swiss_in e) p is (lit≤ tt)).0

module _ (ed : Edition) (p dest : Bytes) where
  abbrev ls : List Bytes
  ls = lines_of (cut p)

  abbrev seen : Option Refusal
  seen = first (field_findings (swiss_in ed) p (length dest))

  abbrev room : List (Option Refusal)
  room = no_room_refusal (length dest) (length (contents ls)) ∷ []

  -- what leads to each finding

  all_findings : Hangs seen (first (findings (swiss_in ed) p) ∷ no_amount_refusal ls ∷ room)
  unfolding field_findings
  all_findings = refl

  at_amount : first (findings (swiss_in ed) p) ≡ none → Hangs seen (no_amount_refusal ls ∷ room)
  at_amount kept = passed _ all_findings kept

  at_room : first (findings (swiss_in ed) p) ≡ none → length (line 19 ls) ≢ 0 → Hangs seen room
  at_room kept some-amount = passed _ (at_amount kept) (rw (ne_eqb (length (line 19 ls)) 0 some-amount))

  -- a finding that settles the answer leaves the destination as it is
  refuses : (f : Fault) → seen ≡ some (paper_fault f) → IsMapped (swiss_in ed) p dest (Err f) dest
  unfolding fields_answer
  refuses f e = record { answer = rw e; lent = rw e }

  -- what the reader refuses
  pub not_read : {f : Fault} {places : List ℕ} → IsJudged (swiss_in ed) p (Err f) places → IsMapped (swiss_in ed) p dest (Err f) dest
  not_read {f} is =
      refuses f (stopped _ all_findings (settled_refuses (bill_of p) (first (findings (swiss_in ed) p)) (paper_fault f) (sym (verdict_is (swiss_in ed) p) ∙ sym is.answer)))

  -- a bill without amount
  pub no_amount : first (findings (swiss_in ed) p) ≡ none → length (line 19 ls) ≡ 0 → IsMapped (swiss_in ed) p dest (Err (NoAmount 19)) dest
  no_amount kept e = refuses (NoAmount 19) (stopped _ (at_amount kept) (rw e))

  -- too little room
  pub no_room : first (findings (swiss_in ed) p) ≡ none → length (line 19 ls) ≢ 0 → length dest < length (contents ls) → IsMapped (swiss_in ed) p dest (Err NoRoom) dest
  no_room kept some-amount h = refuses NoRoom (stopped [] (at_room kept some-amount) (rw (lt-ltb (length dest) (length (contents ls)) h)))

  -- else all is laid
  pub is_laid : {c : Counts} {after : Bytes} → first (findings (swiss_in ed) p) ≡ none → length (line 19 ls) ≢ 0 → length (contents ls) ≤ length dest → c ≡ counts_of ls → after ≡ over dest (contents ls) → IsMapped (swiss_in ed) p dest (Ok c) after
  unfolding fields_answer
  is_laid kept some-amount h told is =
      let nothing : seen ≡ none = passed [] (at_room kept some-amount) (rw (le-ltb (length dest) (length (contents ls)) h)) ∙ first_nil in
      record { answer = rw (nothing, told); lent = rw nothing is }
