-- What is left of the past is within its bounds, so that it makes a state.
use Rattle.std.proofs.Common.{◌≡◌, true, false, arith}
use Rattle.verify_service.proofs.HandingLaws.{listed_kept, state_of_service}
use Rattle.verify_service.proofs.KeepingLaws.{purged_kept}
use Rattle.verify_service.proofs.service.Service.state.Goals as goal

pub invariant_of-self : goal.invariant_of-self
invariant_of-self c = record {
  capacity_is = c.self.invariant.capacity_is;
  moment_within = c.self.invariant.moment_within;
  each_kept = purged_kept c.self.inside.number c.self.inside.number c.self.inside.moment c.self.inside.past c.purge.new.self (omega arith) c.self.invariant.each_kept c.purge.ensures.calls;
}

pub invariant_of-self-2 : goal.invariant_of-self-2
invariant_of-self-2 c = record {
  capacity_is = c.self.invariant.capacity_is;
  moment_within = c.self.invariant.moment_within;
  each_kept = purged_kept c.self.inside.number c.self.inside.number c.self.inside.moment c.self.inside.past c.purge.new.self (omega arith) c.self.invariant.each_kept c.purge.ensures.calls;
}

pub unreachable-requires : goal.unreachable-requires
unreachable-requires c =
    let kept = purged_kept c.self.inside.number c.self.inside.number c.self.inside.moment c.self.inside.past c.purge.new.self (omega arith) c.self.invariant.each_kept c.purge.ensures.calls in
    let fails : false ≡ true = c.in-None.ensures.made c.window-window.ensures.most c.self.invariant.moment_within
    (listed_kept c.self.inside.number c.in_ok-kept.kept.items c.purge.new.self kept c.in_ok-kept.ensures.rises c.in_ok-kept.ensures.same) c.in_ok-kept.ensures.rises in
    absurd (cc)

pub returns-clause-state : goal.returns-clause-state
returns-clause-state c =
    state_of_service _ c.args.self.now c.purge.new.self c.in-Some.state c.in_ok-kept.kept.items c.window-window.result c.self.view_is c.window-window.ensures.value c.in-Some.ensures.exact
    c.purge.ensures.calls c.in_ok-kept.ensures.same
