-- `making::lay_with_pair` meets its contract: part behind part, and the pair put in the place of 00. Assumes nothing.
use Prim.Native.Nat.{◌+◌}
use native.Mathlib.Omega.{arith}
use mathlib.Core.List.{◌++◌, append_assoc}
use mathlib.Core.Path.{◌≡◌, ap, ◌∙◌}
use lib.ListN.{length, take, length-append}
use lib.Seq.{take_all}
use Rattle.sieve.specs.Bytes.{Bytes, ascii, over}
use Rattle.making.specs.Made.{laid_at, with_pair_set}
use Rattle.making.proofs.Laid.{laid_first, laid_behind, pair_due, paired_in_front}
use Rattle.making.proofs.lay_with_pair.Goals as goal
use Rattle.making.proofs.lay_with_pair.Goals.{After-lay_at-4}

-- head, 00 and rest lie in the front of the destination
abbrev text : (q : After-lay_at-4) → Bytes
text q = let a = q.args in ((a.head.now ++ ascii "00") ++ a.first.now) ++ a.second.now

text_length : (q : After-lay_at-4) → let a = q.args in 4 + length a.first.now + length a.second.now ≡ length (text q)
text_length q =
    let a = q.args in
    omega (arith, q.requires.parts.two, length-append a.head.now (ascii "00"), length-append (a.head.now ++ ascii "00") a.first.now, length-append ((a.head.now ++ ascii "00") ++ a.first.now) a.second.now)

laid : (q : After-lay_at-4) → q.lay_at-4.new.dest ≡ over q.args.dest.now (text q)
laid q =
    let a = q.args in
    let two = q.requires.parts.two in
    let four : length (a.head.now ++ ascii "00") ≡ 4 = omega (arith, length-append a.head.now (ascii "00")) in
    let more : length ((a.head.now ++ ascii "00") ++ a.first.now) ≡ 4 + length a.first.now = omega (arith, length-append (a.head.now ++ ascii "00") a.first.now) in
    let whole : take 2 a.head.now ≡ a.head.now = take_all 2 a.head.now (omega arith) in
    let first = q.lay_at.ensures ∙ ap (λ (w : Bytes). laid_at 0 w a.dest.now) whole ∙ laid_first a.dest.now a.head.now in
    let second = q.lay_at-2.ensures ∙ ap (laid_at 2 (ascii "00")) first ∙ laid_behind a.dest.now a.head.now (ascii "00") 2 two in
    let third = q.lay_at-3.ensures ∙ ap (laid_at 4 a.first.now) second ∙ laid_behind a.dest.now (a.head.now ++ ascii "00") a.first.now 4 four in
    q.lay_at-4.ensures
    ∙ ap (laid_at (4 + length a.first.now) a.second.now) third
    ∙ laid_behind a.dest.now ((a.head.now ++ ascii "00") ++ a.first.now) a.second.now (4 + length a.first.now) more

pub returns : goal.returns
returns c =
    let q = (goal.at.returns c).After-lay_at-4 in
    let a = c.args in
    let parts : text q ≡ a.head.now ++ (ascii "00" ++ (a.first.now ++ a.second.now)) = append_assoc (a.head.now ++ ascii "00") a.first.now a.second.now ∙ append_assoc a.head.now (ascii "00") (a.first.now ++ a.second.now) in
    paired_in_front a.dest.now (text q) (omega (arith, text_length q)) (text_length q) (laid q) c.set_pair.ensures
    ∙ ap (over a.dest.now) (ap with_pair_set parts ∙ pair_due a.head.now (a.first.now ++ a.second.now) c.requires.parts.two)
