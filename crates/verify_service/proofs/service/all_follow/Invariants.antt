-- The calls that are left follow on exactly if all do.
use Rattle.std.proofs.Common.{◌≡◌, drop}
use Rattle.verify_service.specs.Service.{all_follow}
use Rattle.verify_service.proofs.service.all_follow.Given as goal

abbrev pub invariant-calls : goal.invariant-calls
invariant-calls l = all_follow l.number l.moment (drop l.call-index l.calls) ≡ all_follow l.fn.number l.fn.moment l.calls
