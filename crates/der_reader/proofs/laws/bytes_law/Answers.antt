-- Fronts of bytes.
use Rattle.der_reader.proofs.NextLaws.{all_front, take_bytes}
use Rattle.der_reader.proofs.laws.bytes_law.Goals as goal

pub returns-clause-front : goal.returns-clause-front
returns-clause-front c = all_front

pub returns-clause-taken : goal.returns-clause-taken
returns-clause-taken c = take_bytes
