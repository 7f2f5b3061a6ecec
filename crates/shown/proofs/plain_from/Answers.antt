-- `shown::plain_from` meets its contract. The invariant: from here on the text is plain. Assumes nothing.
use Prim.Native.Nat.{◌-◌}
use native.Mathlib.Omega.{arith}
use native.Mathlib.Nat.{sub-zero}
use mathlib.Core.Path.{◌≡◌, sym, ◌∙◌}
use lib.ListN.{take, drop}
use Rattle.sieve.specs.Characters.{characters}
use Rattle.shown.proofs.Plain.{plain_end, plain_earlier, plain_all}
use Rattle.shown.proofs.plain_from.Goals as goal

pub loop-at-init : goal.loop-at-init
loop-at-init c = (omega arith, plain_end c.args.text.now)

pub loop-at-preserved : goal.loop-at-preserved
loop-at-preserved c =
    let at = c.loop-at.at in
    let text = c.args.text.now in
    let k : at - (at - 128) ≡ 128 = omega arith in
    let all : characters (take 128 (drop (at - 128) text)) ≡ 128 = rw k at (sym c.characters.ensures ∙ c.if-characters-ne-PART.false) in
    (omega arith, plain_earlier 128 at text c.loop-at-test.true all c.loop-at.invariant.1)

pub returns-then-characters-at : goal.returns-then-characters-at
returns-then-characters-at c =
    let at = c.loop-at.at in
    let text = c.args.text.now in
    let all : characters (take at text) ≡ at = rw (sub-zero at) at (sym c.characters-2.ensures ∙ c.if-characters-at.true) in
    plain_all at text all c.loop-at.invariant.1
