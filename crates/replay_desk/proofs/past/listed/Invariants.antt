use Rattle.std.proofs.Common.{◌≡◌, ◌++◌}
use Rattle.replay_desk.specs.Past.{kept_from}
use Rattle.replay_desk.proofs.past.listed.Given as goal

abbrev pub invariant-loop-ticket : goal.invariant-loop-ticket
invariant-loop-ticket l = l.list.items ++ kept_from l.moment l.ticket-iterator ≡ kept_from l.moment l.calls.entries
