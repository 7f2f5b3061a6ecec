-- `walk::counted` meets its contract: the counts tell breaks that are all alike. Assumes nothing.
use mathlib.Core.Path.{sym, ◌∙◌}
use Rattle.lines.proofs.Counting.{all_feeds, all_returns}
use Rattle.walk.proofs.counted.Goals as goal

pub returns-then-passed-eq0 : goal.returns-then-passed-eq0
returns-then-passed-eq0 c =
    rw c.requires.feeds (all_feeds c.args.s.now (sym c.requires.returns ∙ c.if-passed-eq0.true))

pub returns-then-passed : goal.returns-then-passed
returns-then-passed c =
    let all_behind = c.requires in
    rw all_behind.feeds (all_returns c.args.s.now (λ z. c.if-passed-eq0.false (all_behind.returns ∙ z)) (sym all_behind.returns ∙ c.if-passed.true ∙ all_behind.feeds))
