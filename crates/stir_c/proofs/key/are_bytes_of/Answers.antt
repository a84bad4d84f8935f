-- The bytes of a chain are bytes.
use Rattle.std.proofs.Common.{subst}
use Rattle.der_reader.specs.Elem.{AllBytes}
use Rattle.stir_c.proofs.key.are_bytes_of.Goals as goal

pub returns : goal.returns
returns c = subst AllBytes c.bytes.ensures c.are_bytes.ensures
