-- BIT STRINGs without unused bits.
use Rattle.der_reader.proofs.ElementLaws.{bits_again, bits_found}
use Rattle.der_reader.proofs.laws.bit_string_law.Goals as goal

pub returns-clause-again : goal.returns-clause-again
returns-clause-again c = bits_again

pub returns-clause-found : goal.returns-clause-found
returns-clause-found c = bits_found
