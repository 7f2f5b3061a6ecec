-- Where editions 2.2 and 2.4 may part. Assumes nothing.
use Rattle.std.specs.Prelude.{Bool, ◌&&◌, ◌||◌, eqb}
use Rattle.sieve.specs.Verdict.{Refusal}

-- the refusals of 2.4 where 2.2 may say something else: 10 on the first line of an address, which may be of type K; 12, for QRR with EUR
abbrev pub may_differ : Refusal → Bool
may_differ r = (eqb r.number 10 && (eqb r.line 5 || eqb r.line 21)) || eqb r.number 12
