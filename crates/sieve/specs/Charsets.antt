-- What the characters of a set are. Assumes nothing.
use Rattle.sieve.specs.declared.Charset.{Charset}
use Rattle.sieve.specs.declared.Charset.TheVariants.{Latin, Iso8859}
use Rattle.sieve.specs.Characters.{Width}
use Rattle.sieve.specs.Latin.{latin}
use Rattle.sieve.specs.Iso8859.{iso8859}

abbrev pub of_set : Charset → Width
of_set Latin = latin
of_set Iso8859 = iso8859
