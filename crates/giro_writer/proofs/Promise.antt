-- What a user of the girocode's writer may rely on, stated on its contract. Assumes nothing.
use Rattle.sieve.specs.Promises.{WriterPromises}
use Rattle.sieve.proofs.Promises.{writer_promises}
use Rattle.girocode.specs.Girocode.{girocode}
use Rattle.girocode.proofs.Serves.{girocode_serves}

pub promises : WriterPromises girocode
promises = writer_promises girocode_serves
