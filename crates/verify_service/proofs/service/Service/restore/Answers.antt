-- What a state keeps is within the bounds of its last call.
use Rattle.std.proofs.Common.{◌≤◌, rules, sym, subst}
use Rattle.verify_service.specs.Service.{EachKept}
use Rattle.verify_service.proofs.service.Service.restore.Goals as goal

pub invariant_of-result : goal.invariant_of-result
invariant_of-result c = record {
  capacity_is = search rules;
  moment_within = subst (λ n. n ≤ 253402300799) (sym c.moment.ensures) c.past_of.ensures.rules.moment;
  each_kept = subst (λ n. EachKept n c.in_ok-past.past) (sym c.call.ensures) c.in_ok-past.ensures.kept;
}
