-- `writer::gather_lines` meets its contract: the count, the places, the characters and the bytes are asked about in their order. Assumes nothing.
use native.Mathlib.Omega.{arith}
use mathlib.Core.Path.{sym, ◌∙◌}
use Rattle.std.proofs.lemmas.Result.{err_from_is_err_and}
use Rattle.swiss.specs.declared.Edition.TheVariants.{V24}
use Rattle.swiss.specs.Swiss.{swiss}
use Rattle.writer.specs.Gathering.{gathered_lines}
use Rattle.writer.proofs.Gathering.{inner_length, counted_inside, can_be_joined, refused_lying}
use Rattle.writer.proofs.gather_lines.Goals as goal

pub gather_places-requires : goal.gather_places-requires
gather_places-requires c = omega (arith, inner_length c.requires)

pub first_wrong-requires : goal.first_wrong-requires
unfolding swiss
first_wrong-requires c = counted_inside V24 _ _ c.requires (sym c.gather_places.ensures ∙ c.in_ok-gather_places.was)

pub invariant_of-gather_bytes : goal.invariant_of-gather_bytes
unfolding swiss
invariant_of-gather_bytes c =
    record { joinable = can_be_joined V24 _ _ c.requires (sym c.gather_places.ensures ∙ c.in_ok-gather_places.was) }

pub returns-in_err-gather_places : goal.returns-in_err-gather_places
unfolding swiss
returns-in_err-gather_places c =
    let (f, is, same) = err_from_is_err_and c.from_residual.result c.from_residual.ensures.1 in
    rw (is, same) (refused_lying _ _ (sym c.gather_places.ensures ∙ c.in_err-gather_places.was))

pub returns-in-Some : goal.returns-in-Some
unfolding gathered_lines swiss
returns-in-Some c =
    rw (← c.gather_places.ensures, c.in_ok-gather_places.was, ← c.first_wrong.ensures, c.in-Some.is)

pub returns-in-None : goal.returns-in-None
unfolding gathered_lines swiss
returns-in-None c =
    rw (← c.gather_places.ensures, c.in_ok-gather_places.was, ← c.first_wrong.ensures, c.in-None.is) c.gather_bytes.ensures
