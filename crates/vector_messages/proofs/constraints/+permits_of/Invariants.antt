-- One claim less is left at each call.
use Rattle.vector_messages.proofs.constraints.+permits_of.Given as goal

abbrev pub decreases-permits_of : goal.decreases-permits_of
decreases-permits_of l = l.count
