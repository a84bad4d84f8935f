-- One call more: another's, or an own one.
use Rattle.std.proofs.Common.{◌≡◌, ◌<◌, Some, length, ◌∙◌, arith, rules}
use Rattle.std.specs.List.{slice_get}
use Rattle.verify_service.specs.Ready.{basis_of, provided}
use Rattle.verify_service.proofs.AnsweredLaws.{own_answered, skip_answered}
use Rattle.verify_service.proofs.ClaimedLaws.{own_next, skip_next}
use Rattle.verify_service.proofs.OutLaws.{get_stands}
use Rattle.verify_service.proofs.worker_calls.judge_calls.Goals as goal

pub calls-preserved-then-at-count : goal.calls-preserved-then-at-count
calls-preserved-then-at-count g c = record {
  end = c.calls.invariant.end;
  many = c.calls.invariant.many;
  claimed = skip_next c.args.lent.now.past.now c.args.calls.now c.args.count c.args.index c.calls.at c.args.seat.now c.calls.seat c.calls.outcomes c.if-at-count.true c.calls.invariant.claimed;
  answered = skip_answered (basis_of c.args.lent.now) (provided g.P.Provider c.args.provider.now c.calls.provider) c.args.calls.now c.args.count c.args.index c.calls.at c.calls.outcomes
      c.if-at-count.true c.calls.invariant.answered;
  same_says = c.calls.invariant.same_says;
  same_signs = c.calls.invariant.same_signs;
}

pub judge_ready-outcome-requires-clause-ready : goal.judge_ready-outcome-requires-clause-ready
judge_ready-outcome-requires-clause-ready g c =
    c.requires.ready c.calls.at c.index-calls-at.result
    (get_stands c.args.calls.now c.calls.at c.index-calls-at.result c.index-calls-at.result (let t = c.calls-test.true in omega arith) c.index-calls-at.is)

pub calls-preserved : goal.calls-preserved
calls-preserved g c =
    let test = c.calls-test.true in
    let within : c.calls.at < length c.args.calls.now = omega arith in
    let few = c.requires.calls in
    let size = c.calls.invariant.many in
    let inside : c.calls.at < length c.calls.outcomes = omega arith in
    let call = c.index-calls-at.result in
    let stands : slice_get c.args.calls.now c.calls.at ≡ Some call = get_stands c.args.calls.now c.calls.at call call within c.index-calls-at.is in
    record {
      end = c.calls.invariant.end;
      many = search rules;
      claimed = own_next c.args.lent.now.past.now c.args.calls.now c.args.count c.args.index c.calls.at c.args.seat.now c.calls.seat c.judge_ready-outcome.new.seat c.calls.outcomes call
          c.judge_ready-outcome.result stands inside c.if-at-count.false c.calls.invariant.claimed c.judge_ready-outcome.ensures.claims c.judge_ready-outcome.ensures.settled;
      answered = own_answered (basis_of c.args.lent.now) g.P.Provider c.args.provider.now c.calls.provider c.judge_ready-outcome.new.provider c.args.calls.now c.args.count c.args.index c.calls.at
          c.calls.outcomes call c.judge_ready-outcome.result c.calls.invariant.same_says c.if-at-count.false stands inside c.calls.invariant.answered c.judge_ready-outcome.ensures.said
          c.judge_ready-outcome.ensures.asks c.judge_ready-outcome.ensures.asks_stay c.judge_ready-outcome.ensures.provider c.judge_ready-outcome.ensures.unasked;
      same_says = c.judge_ready-outcome.ensures.provider.says ∙ c.calls.invariant.same_says;
      same_signs = c.judge_ready-outcome.ensures.provider.signs ∙ c.calls.invariant.same_signs;
    }
