-- `giro_judge::judge` meets its contract: the third line chooses the characters, and what is accepted as a whole hangs on the rules about lines. Assumes nothing.
use Prim.Native.Nat.{ℕ}
use mathlib.Core.Bool.{Bool, true, cond}
use mathlib.Core.List.{List, flatten}
use mathlib.Core.Path.{◌≡◌, refl, sym, ap, ◌∙◌}
use lib.Dec.{lit≤}
use lib.ListN.{length}
use Rattle.sieve.specs.Paper.{Answer}
use Rattle.sieve.specs.declared.Charset.{Charset}
use Rattle.sieve.specs.Bytes.{Bytes}
use Rattle.sieve.specs.Charsets.{of_set}
use Rattle.sieve.specs.Iso8859.{iso8859}
use Rattle.sieve.specs.Latin.{latin}
use Rattle.sieve.specs.Lines.{cut, lines_of}
use Rattle.sieve.specs.Whole.{limited, bare, limits_of}
use Rattle.girocode.specs.Girocode.{rules, girocode}
use Rattle.findings.proofs.FirstFault.{numbered, found_nothing, found_fault}
use Rattle.places.specs.Listed.{listed}
use Rattle.whole.specs.Judged.{IsJudged}
use Rattle.whole.proofs.Judging.{refused_before, kept, broken, counted, by_its_lines}
use Rattle.giro_judge.proofs.judge.Goals as goal
use Rattle.giro_judge.proofs.judge.Goals.{In-Ok, Joined-iso, then-iso, else-iso}

rules_numbered : numbered rules ≡ true
unfolding rules flatten numbered
rules_numbered = refl

abbrev ls : Bytes → List Bytes
ls p = lines_of (cut p)

-- the set is that of the characters that the lines choose
chosen_so : {chooses iso judged : Bool} {set named : Charset} → iso ≡ chooses → iso ≡ judged → set ≡ named → cond judged iso8859 latin ≡ of_set named → cond chooses iso8859 latin ≡ of_set set
chosen_so coded judged set same = ap (λ (b : Bool). cond b iso8859 latin) (sym coded ∙ judged) ∙ same ∙ ap of_set (sym set)

-- so that what rules 1 to 5 say with that set they say of a girocode
by_choice : (c : Joined-iso) {r : Answer} {after : List ℕ} → let p = c.args.payload.now in IsJudged (limited (limits_of girocode) (of_set c.if-iso.set)) p r after → IsJudged (bare girocode) p r after
unfolding girocode
by_choice c =
    let coded = c.read_as_iso-iso.ensures in
    by_its_lines girocode _ (of_set c.if-iso.set)
    (elim c.if-iso.branch [ then-iso w ↦ chosen_so coded w.if-iso.true w.set-is refl | else-iso w ↦ chosen_so coded w.if-iso.false w.set-is refl ])

-- the list and the count of what is accepted are those of its lines
listed_and_counted : (c : In-Ok) → (c.whole.new.places ≡ listed c.args.payload.now) × (c.in-Ok.n ≡ length (lines_of (cut c.args.payload.now)))
unfolding girocode
listed_and_counted c = counted (bare girocode) c.args.payload.now (rw c.in-Ok.is at (by_choice (goal.at.In-Ok c).Joined-iso c.whole.ensures)) (lit≤ tt)

pub new-requires : goal.new-requires
new-requires c = (listed_and_counted (goal.at.new-requires c).In-Ok).0

pub rules-requires : goal.rules-requires
rules-requires c = rw c.new.ensures (c.read_as_iso-iso.ensures, (listed_and_counted (goal.at.rules-requires c).In-Ok).1)

pub returns-in-Err : goal.returns-in-Err
unfolding girocode
returns-in-Err c =
    refused_before (bare girocode) rules c.args.payload.now (rw c.in-Err.is at (by_choice (goal.at.returns-in-Err c).Joined-iso c.whole.ensures))

pub returns-in-Ok-rules : goal.returns-in-Ok-rules
unfolding girocode
returns-in-Ok-rules c =
    let judged = rw c.in-Ok.is at (by_choice (goal.at.returns-in-Ok-rules c).Joined-iso c.whole.ensures) in
    kept (bare girocode) rules c.args.payload.now judged (found_nothing (ls c.args.payload.now) rules rules_numbered (rw c.new.ensures at (sym c.rules.ensures) ∙ c.in-Ok-rules.is))

pub returns-in-Err-rules : goal.returns-in-Err-rules
unfolding girocode
returns-in-Err-rules c =
    let judged = rw c.in-Ok.is at (by_choice (goal.at.returns-in-Err-rules c).Joined-iso c.whole.ensures) in
    broken (bare girocode) rules c.args.payload.now judged c.in-Err-rules.fault (found_fault (ls c.args.payload.now) rules rules_numbered (rw c.new.ensures at (sym c.rules.ensures) ∙ c.in-Err-rules.is)) refl c.clear.ensures
