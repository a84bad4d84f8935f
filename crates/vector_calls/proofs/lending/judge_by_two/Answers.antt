-- A service and a prepared round may be lent to another thread, as a screened call may be.
use Rattle.vector_calls.proofs.Shared.{prepared_sync, service_sync}
use Rattle.vector_calls.proofs.lending.judge_by_two.Goals as goal

pub in_two_threads-even-requires-sync-S : goal.in_two_threads-even-requires-sync-S
in_two_threads-even-requires-sync-S g c κs within =
    record { shared = (service_sync (record { shared = c.may_be_shared.ensures.shared }) (record { shared = c.may_be_shared-2.ensures.shared })).shared }

pub in_two_threads-even-requires-sync-P : goal.in_two_threads-even-requires-sync-P
in_two_threads-even-requires-sync-P g c κs within = record { shared = (prepared_sync (record { shared = c.may_be_shared.ensures.shared })).shared }
