-- Each call has half as many threads.
use Rattle.std.proofs.Common.{◌/◌}
use Rattle.stir_tests.proofs.live.+claim_by+fn-claim_by-join+arg2+fn-claim_by-join+arg3.Given as goal

abbrev pub decreases-claim_by : goal.decreases-claim_by
decreases-claim_by g l = l.threads

abbrev pub decreases-join+arg2 : goal.decreases-join+arg2
decreases-join+arg2 g l = l.threads / 2

abbrev pub decreases-join+arg3 : goal.decreases-join+arg3
decreases-join+arg3 g l = l.threads / 2
