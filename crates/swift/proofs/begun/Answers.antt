-- `swift::begun` meets its contract: the tests are those of a colon and a hyphen. Assumes nothing.
use Rattle.swift.proofs.Beginning.{stopped, kept_as_is}
use Rattle.swift.proofs.begun.Goals as goal

pub returns-then-first : goal.returns-then-first
returns-then-first c =
    stopped c.args.row c.requires.0 c.requires.1 c.if-first.true

pub returns : goal.returns
returns c =
    kept_as_is c.args.row c.requires.0 c.requires.1 c.if-first.false
