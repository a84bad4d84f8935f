-- The digits come after what is left of the zeros.
use Rattle.der_reader.proofs.IntegerLaws.{behind_zeros}
use Rattle.der_reader.proofs.integer.padded.Goals as goal

pub returns : goal.returns
returns c = behind_zeros c.args.digits.now c.copy_from_slice.new.self c.requires c.copy_from_slice.ensures.after
