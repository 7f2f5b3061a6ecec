-- An optional value as code answers it. Assumes nothing.
use Rattle.std.specs.Prelude.{Some, None}
use Rattle.std.specs.declared.option.Option.{Option as Optional}
use Rattle.std.proofs.Math.Option.{Option, some, none}

abbrev pub answered : {A : Type 0} → Option A → Optional A
answered none = None
answered (some x) = Some x
