-- `swiss_judge::judge_in` meets its contract: what is accepted as a whole hangs on the rules about lines. Assumes nothing.
use mathlib.Core.Bool.{true}
use mathlib.Core.List.{List, flatten}
use mathlib.Core.Path.{◌≡◌, refl, sym, ◌∙◌}
use lib.Dec.{lit≤}
use Rattle.sieve.specs.Bytes.{Bytes}
use Rattle.sieve.specs.Latin.{latin}
use Rattle.sieve.specs.Lines.{cut, lines_of}
use Rattle.sieve.specs.Whole.{bare}
use Rattle.swiss.specs.declared.Edition.{Edition}
use Rattle.swiss.specs.Swiss.{rules, swiss_in}
use Rattle.findings.proofs.FirstFault.{numbered, found_nothing, found_fault}
use Rattle.whole.specs.Judged.{IsJudged}
use Rattle.whole.proofs.Judging.{refused_before, kept, broken, counted, by_its_lines}
use Rattle.swiss_judge.proofs.judge_in.Goals as goal
use Rattle.swiss_judge.proofs.judge_in.Goals.{After-whole}

rules_numbered : (e : Edition) → numbered (rules e) ≡ true
unfolding rules flatten numbered
rules_numbered e = refl

abbrev ls : Bytes → List Bytes
ls p = lines_of (cut p)

-- what rules 1 to 5 say of any payload they say of a bill of the edition
as_a_bill : (c : After-whole) → IsJudged (bare (swiss_in c.args.edition)) c.args.payload.now c.whole.result c.whole.new.places
as_a_bill c = by_its_lines (swiss_in c.args.edition) c.args.payload.now latin refl c.whole.ensures

pub new-requires : goal.new-requires
new-requires c = (counted (bare (swiss_in c.args.edition)) c.args.payload.now (rw c.in-Ok.is at (as_a_bill (goal.at.new-requires c).After-whole)) (lit≤ tt)).0

pub rules-requires : goal.rules-requires
rules-requires c = rw c.new.ensures (counted (bare (swiss_in c.args.edition)) c.args.payload.now (rw c.in-Ok.is at (as_a_bill (goal.at.rules-requires c).After-whole)) (lit≤ tt)).1

pub returns-in-Err : goal.returns-in-Err
returns-in-Err c =
    let e = c.args.edition in
    refused_before (bare (swiss_in e)) (rules e) c.args.payload.now (rw c.in-Err.is at (as_a_bill (goal.at.returns-in-Err c).After-whole))

pub returns-in-Ok-rules : goal.returns-in-Ok-rules
returns-in-Ok-rules c =
    let e = c.args.edition in
    let judged = rw c.in-Ok.is at (as_a_bill (goal.at.returns-in-Ok-rules c).After-whole) in
    kept (bare (swiss_in e)) (rules e) c.args.payload.now judged (found_nothing (ls c.args.payload.now) (rules e) (rules_numbered e) (rw c.new.ensures at (sym c.rules.ensures) ∙ c.in-Ok-rules.is))

pub returns-in-Err-rules : goal.returns-in-Err-rules
returns-in-Err-rules c =
    let e = c.args.edition in
    let judged = rw c.in-Ok.is at (as_a_bill (goal.at.returns-in-Err-rules c).After-whole) in
    broken (bare (swiss_in e)) (rules e) c.args.payload.now judged c.in-Err-rules.fault (found_fault (ls c.args.payload.now) (rules e) (rules_numbered e) (rw c.new.ensures at (sym c.rules.ensures) ∙ c.in-Err-rules.is)) refl c.clear.ensures
