-- `report::report_girocode` meets its contract. Assumes nothing.
use mathlib.Core.Path.{sym}
use Rattle.sieve.specs.Paper.{paper}
use Rattle.girocode.proofs.Serves.{girocode_serves}
use Rattle.report.proofs.Promise.{three_digits}
use Rattle.report.proofs.report_girocode.Goals as goal

pub lay_answer-requires : goal.lay_answer-requires
lay_answer-requires c =
    let v = c.verdict in
    three_digits girocode_serves c.args.payload.now (paper v.result) (sym v.ensures)
