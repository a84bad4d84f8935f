-- Elements that bytes begin with.
use Rattle.der_reader.proofs.NextLaws.{front_short, next_again, next_found, next_shorter, parts_are_bytes}
use Rattle.der_reader.proofs.laws.element_law.Goals as goal

pub returns-clause-again : goal.returns-clause-again
returns-clause-again c = next_again

pub returns-clause-found : goal.returns-clause-found
returns-clause-found c = next_found

pub returns-clause-shorter : goal.returns-clause-shorter
returns-clause-shorter c = next_shorter

pub returns-clause-parts : goal.returns-clause-parts
returns-clause-parts c = parts_are_bytes

pub returns-clause-cut_short : goal.returns-clause-cut_short
returns-clause-cut_short c = front_short
