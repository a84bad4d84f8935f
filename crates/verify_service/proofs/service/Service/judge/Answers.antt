-- What is answered to a call of a prepared round, as a contract sees it.
use Rattle.std.proofs.Common.{◌≡◌, ◌≤◌, ◌+◌, ◌↔◌, length}
use Rattle.verify_service.specs.Claiming.{Claims, HasWon, OutcomeSays}
use Rattle.verify_service.specs.Ready.{provided}
use Rattle.verify_service.specs.Screening.{readings_in}
use Rattle.verify_service.specs.declared.outcome.Outcome.TheVariants.{Valid}
use Rattle.verify_service.proofs.ClaimLaws.{valid_just_if_won}
use Rattle.verify_service.proofs.PreparedLaws.{as_seen, is_call, ready_at}
use Rattle.verify_service.proofs.service.Service.judge.Goals as goal

pub judge_ready-requires-clause-ready : goal.judge_ready-requires-clause-ready
judge_ready-requires-clause-ready g c =
    ready_at _ c.args.self.now _ c.args.prepared.now c.args.index c.index.result.now c.self.view_is c.prepared.view_is c.requires.newest c.prepared.invariant.1.classes c.requires.index c.index.ensures

pub returns-clause-said : goal.returns-clause-said
returns-clause-said g c = λ call stands.
    as_seen (λ on k. OutcomeSays on (provided g.P.Provider c.args.provider.now c.judge_ready.new.provider) k c.judge_ready.result) _ c.args.self.now _ c.args.prepared.now c.index.result.now call
    c.self.view_is c.prepared.view_is (is_call _ c.args.prepared.now c.args.index c.index.result.now call c.prepared.view_is c.requires.index c.index.ensures stands) c.judge_ready.ensures.said

pub returns-clause-claims : goal.returns-clause-claims
returns-clause-claims g c = λ call stands.
    as_seen (λ on k. Claims on.past k c.args.seat.now c.judge_ready.new.seat c.judge_ready.result) _ c.args.self.now _ c.args.prepared.now c.index.result.now call
    c.self.view_is c.prepared.view_is (is_call _ c.args.prepared.now c.args.index c.index.result.now call c.prepared.view_is c.requires.index c.index.ensures stands) c.judge_ready.ensures.claims

pub returns-clause-won : goal.returns-clause-won
returns-clause-won g c = λ call stands.
    as_seen (λ on k. (c.judge_ready.result ≡ Valid) ↔ HasWon on (provided g.P.Provider c.args.provider.now c.judge_ready.new.provider) k c.args.seat.now c.judge_ready.new.seat)
    _ c.args.self.now _ c.args.prepared.now c.index.result.now call
    c.self.view_is c.prepared.view_is (is_call _ c.args.prepared.now c.args.index c.index.result.now call c.prepared.view_is c.requires.index c.index.ensures stands) (valid_just_if_won _ _ _ _ _ _ c.judge_ready.ensures.said c.judge_ready.ensures.claims)

pub returns-clause-asks : goal.returns-clause-asks
returns-clause-asks g c = λ call stands.
    as_seen (λ on k. g.P.Provider.asks c.judge_ready.new.provider ≤ g.P.Provider.asks c.args.provider.now + length (readings_in k.screening)) _ c.args.self.now _ c.args.prepared.now
    c.index.result.now call c.self.view_is c.prepared.view_is (is_call _ c.args.prepared.now c.args.index c.index.result.now call c.prepared.view_is c.requires.index c.index.ensures stands)
    c.judge_ready.ensures.asks
