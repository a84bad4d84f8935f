-- What the exact reading means for a text.
use Rattle.once_run.proofs.TextLaws.{bad_again, found_again, read_bad, read_found}
use Rattle.once_run.proofs.reading.read_tickets.Goals as goal

pub returns-clause-found : goal.returns-clause-found
returns-clause-found c = read_found (λ tickets. tickets.items) c.args.text.now c.read_exactly.result c.read_exactly.ensures

pub returns-clause-fault : goal.returns-clause-fault
returns-clause-fault c = read_bad (λ tickets. tickets.items) c.args.text.now c.read_exactly.result c.read_exactly.ensures

pub returns-clause-only : goal.returns-clause-only
returns-clause-only c = found_again (λ tickets. tickets.items) c.args.text.now c.read_exactly.result c.read_exactly.ensures

pub returns-clause-bad : goal.returns-clause-bad
returns-clause-bad c = bad_again (λ tickets. tickets.items) c.args.text.now c.read_exactly.result c.read_exactly.ensures
