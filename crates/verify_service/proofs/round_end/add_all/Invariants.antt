-- The valid calls so far are kept, and there is room for those that are left.
use Rattle.std.proofs.Common.{◌≡◌, ◌≤◌, ◌+◌, length}
use Rattle.verify_service.specs.Adding.{AddedUpto, valid_upto}
use Rattle.verify_service.proofs.round_end.add_all.Given as goal

abbrev pub invariant-calls : goal.invariant-calls
invariant-calls l = record {
  end : l.at-end ≡ length l.calls;
  added : AddedUpto l.fn.past l.past l.calls l.outcomes l.at;
  room : valid_upto l.outcomes (length l.calls) ≤ l.past.spare + valid_upto l.outcomes l.at;
}
