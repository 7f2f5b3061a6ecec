-- What a line says while it is laid. Assumes nothing.
use Rattle.std.specs.Prelude.{take}
use Rattle.sieve.specs.Bytes.{Bytes}
use Rattle.report.specs.declared.Line.{Line}

-- its bytes, as far as it is laid
abbrev pub said : Line → Bytes
said line = take line.at line.bytes
