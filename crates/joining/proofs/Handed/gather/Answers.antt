-- `joining::Handed::gather` meets its contract: the list, the count, the places and the bytes are asked about in their order. Assumes nothing.
use mathlib.Core.Path.{sym, ◌∙◌}
use borrow.Author.Tests.{lt-ltb, le-ltb}
use Rattle.std.proofs.lemmas.Result.{err_from_is_err_and}
use Rattle.joining.specs.Handing.{gathered}
use Rattle.joining.proofs.Handing.{lying_joined, refused_lying}
use Rattle.joining.proofs.Handed.gather.Goals as goal

pub returns-then-self-limits : goal.returns-then-self-limits
unfolding gathered
returns-then-self-limits c = rw (lt-ltb _ _ c.if-self-limits.true)

pub returns-in_err-gather_places : goal.returns-in_err-gather_places
returns-in_err-gather_places c =
    let (f, is, same) = err_from_is_err_and c.from_residual.result c.from_residual.ensures.1 in
    rw (is, same) (refused_lying _ _ c.if-self-limits.false (sym c.gather_places.ensures ∙ c.in_err-gather_places.was))

pub invariant_of-gather_bytes : goal.invariant_of-gather_bytes
invariant_of-gather_bytes c = record { joinable = lying_joined _ _ c.if-self-limits.false c.requires (sym c.gather_places.ensures ∙ c.in_ok-gather_places.was) }

pub returns : goal.returns
unfolding gathered
returns c = rw (le-ltb _ _ c.if-self-limits.false, ← c.gather_places.ensures, c.in_ok-gather_places.was) c.gather_bytes.ensures
