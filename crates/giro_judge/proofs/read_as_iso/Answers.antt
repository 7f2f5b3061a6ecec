-- `giro_judge::read_as_iso` meets its contract: the third line is found where the list of places has it. Assumes nothing.
use native.Mathlib.Omega.{arith}
use mathlib.Core.Path.{◌∙◌, ap}
use lib.Dec.{lit≤}
use lib.ListN.{length}
use Rattle.sieve.specs.Places.{walk_lines}
use Rattle.sieve.specs.Bytes.{Bytes, ascii, same}
use Rattle.sieve.proofs.Placing.{entry_at}
use Rattle.girocode.specs.Limits.{iso8859_1}
use Rattle.lines.specs.declared.Place.{Place}
use Rattle.lines.specs.LinesIn.{lines_in, line_of}
use Rattle.lines.specs.Results.{IsPlaceOf}
use Rattle.places.specs.Listed.{listed}
use Rattle.places.proofs.Listed.{LineAtPlace, listed_line, part_is_line}
use Rattle.giro_judge.proofs.read_as_iso.Goals as goal
use Rattle.giro_judge.proofs.read_as_iso.Goals.{After-line_place-third}

-- the place is the one that the list of places has, where the line lies
third-line : (p : Bytes) (r : Place) → IsPlaceOf (line_of p 3) r → LineAtPlace p 3 r.start r.bytes
unfolding listed line_of
third-line p r is =
    let (start, bytes) = entry_at walk_lines 2 (length p) (lines_in p) (lit≤ tt) in
    rw (is.start, is.bytes, ← start, ← bytes) (listed_line p 3 (lit≤ tt) (lit≤ tt))

third : (c : After-line_place-third) → LineAtPlace c.args.payload.now 3 c.line_place-third.result.start c.line_place-third.result.bytes
third c = third-line _ _ c.line_place-third.ensures

pub overflow_add-end : goal.overflow_add-end
overflow_add-end c = omega (arith, (third (goal.at.overflow_add-end c).After-line_place-third).within)

pub slice_bounds-same-end : goal.slice_bounds-same-end
slice_bounds-same-end c = (third (goal.at.slice_bounds-same-end c).After-line_place-third).within

pub returns : goal.returns
returns c = c.same.ensures ∙ ap (λ (l : Bytes). same l (ascii iso8859_1)) (part_is_line (third (goal.at.returns c).After-line_place-third))
