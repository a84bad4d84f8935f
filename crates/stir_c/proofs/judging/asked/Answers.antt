-- The chains are those of the call.
use Rattle.stir_c.specs.Owned.{view_of_call}
use Rattle.stir_c.proofs.JudgedLaws.{same_over}
use Rattle.stir_c.proofs.judging.asked.Goals as goal

pub returns-clause-over : goal.returns-clause-over
returns-clause-over c =
    same_over (view_of_call c.args.held.now) c.deref.result.now c.in_ok-chains.chains c.in_ok-asked.asked.found c.deref.ensures c.in_ok-chains.ensures
    c.in_ok-asked.ensures.found
