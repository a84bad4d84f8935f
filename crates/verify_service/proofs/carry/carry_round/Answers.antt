-- There is room for the valid calls, and the round is settled over the past, by what its one seat has.
use Rattle.std.proofs.Common.{◌≡◌, ◌≤◌, ℕ, List, length, map, slice_index_or, sym, ap, ◌∙◌, subst, arith}
use Rattle.std.specs.List.{slice_get}
use Rattle.replay_desk.specs.Holder.{DeskId}
use Rattle.verify_service.specs.Adding.{IsAdded, IsOnceValid, valid_upto}
use Rattle.verify_service.specs.Carried.{Carries}
use Rattle.verify_service.specs.Carrying.{AreSaid, HasAnswered, HasClaims, IsInTurn}
use Rattle.verify_service.specs.Ready.{Basis, Provided, provided}
use Rattle.verify_service.specs.declared.outcome.Outcome.{Outcome}
use Rattle.verify_service.specs.declared.screening.ReadyCall.{ReadyCall}
use Rattle.verify_service.proofs.CarriedLaws.{once_valid}
use Rattle.verify_service.proofs.EachCallLaws.{each_judged, each_owed}
use Rattle.verify_service.proofs.ListLaws.{each_length}
use Rattle.verify_service.proofs.PairLaws.{carries}
use Rattle.verify_service.proofs.RoomLaws.{valid_most}
use Rattle.verify_service.proofs.TogetherLaws.{head_of, passed_of_all, said_of_all}
use Rattle.verify_service.proofs.carry.carry_round.Goals as goal

pub carry_calls-outcomes-requires-clause-ready : goal.carry_calls-outcomes-requires-clause-ready
carry_calls-outcomes-requires-clause-ready g c κs within = λ at call stands.
    c.requires.ready at call (sym (ap (λ (cs : List ReadyCall). slice_get cs at) c.deref.ensures.value) ∙ stands)

pub add_all-requires-clause-once : goal.add_all-requires-clause-once
add_all-requires-clause-once g c =
    let calls = c.args.round.calls.items in
    let outs = c.carry_calls-outcomes.result.0.items in
    let d = head_of c.args.workers.now c.requires.some in
    let on : Basis = record { materials = c.args.materials.now; held = c.args.cache.now.entries; kept = c.args.round.kept; past = c.args.past.now } in
    subst (λ (cs : List ReadyCall). IsOnceValid c.args.past.now cs c.deref-3.result.now) (sym c.deref-2.ensures.value)
    (subst (λ (os : List Outcome). IsOnceValid c.args.past.now calls os) (sym c.deref-3.ensures.value)
    (once_valid c.args.past.now calls outs c.carry_calls-outcomes.result.1
    (subst (λ (cs : List ReadyCall). HasClaims c.args.past.now cs outs c.carry_calls-outcomes.result.1) c.deref.ensures.value c.carry_calls-outcomes.ensures.claims)
    c.settled.ensures c.requires.classed c.requires.numbered
    (passed_of_all on (λ w. provided g.P.Provider (slice_index_or c.args.workers.now w d).provider (slice_index_or c.carry_calls-outcomes.new.workers w d).provider) calls (length c.args.workers.now) outs
    (said_of_all on (λ w. provided g.P.Provider (slice_index_or c.args.workers.now w d).provider (slice_index_or c.carry_calls-outcomes.new.workers w d).provider) calls (length c.args.workers.now) outs
    c.requires.some (λ w less. subst (λ (cs : List ReadyCall). HasAnswered on
    (provided g.P.Provider (slice_index_or c.args.workers.now w d).provider (slice_index_or c.carry_calls-outcomes.new.workers w d).provider) cs (length c.args.workers.now) w outs)
    c.deref.ensures.value (c.carry_calls-outcomes.ensures.answered w d less))))))

pub returns-clause-answered : goal.returns-clause-answered
returns-clause-answered g c = λ w d less.
    let outs = c.carry_calls-outcomes.result.0.items in
    let on : Basis = record { materials = c.args.materials.now; held = c.args.cache.now.entries; kept = c.args.round.kept; past = c.args.past.now } in
    subst (λ (cs : List ReadyCall). HasAnswered on
    (provided g.P.Provider (slice_index_or c.args.workers.now w d).provider (slice_index_or c.carry_calls-outcomes.new.workers w d).provider) cs (length c.args.workers.now) w outs)
    c.deref.ensures.value (c.carry_calls-outcomes.ensures.answered w d less)

pub returns-clause-said : goal.returns-clause-said
returns-clause-said g c = λ d.
    let calls = c.args.round.calls.items in
    let outs = c.carry_calls-outcomes.result.0.items in
    let on : Basis = record { materials = c.args.materials.now; held = c.args.cache.now.entries; kept = c.args.round.kept; past = c.args.past.now } in
    said_of_all on (λ w. provided g.P.Provider (slice_index_or c.args.workers.now w d).provider (slice_index_or c.carry_calls-outcomes.new.workers w d).provider) calls (length c.args.workers.now) outs
    c.requires.some (λ w less. subst (λ (cs : List ReadyCall). HasAnswered on
    (provided g.P.Provider (slice_index_or c.args.workers.now w d).provider (slice_index_or c.carry_calls-outcomes.new.workers w d).provider) cs (length c.args.workers.now) w outs)
    c.deref.ensures.value (c.carry_calls-outcomes.ensures.answered w d less))

pub add_all-requires-clause-room : goal.add_all-requires-clause-room
add_all-requires-clause-room g c =
    let calls = c.args.round.calls.items in
    let outs = c.carry_calls-outcomes.result.0.items in
    let d = head_of c.args.workers.now c.requires.some in
    let on : Basis = record { materials = c.args.materials.now; held = c.args.cache.now.entries; kept = c.args.round.kept; past = c.args.past.now } in
    subst (λ (cs : List ReadyCall). valid_upto c.deref-3.result.now (length cs) ≤ c.args.past.now.spare) (sym c.deref-2.ensures.value)
    (subst (λ (os : List Outcome). valid_upto os (length calls) ≤ c.args.past.now.spare) (sym c.deref-3.ensures.value)
    (valid_most c.args.past.now calls outs c.carry_calls-outcomes.result.1
    (subst (λ (cs : List ReadyCall). HasClaims c.args.past.now cs outs c.carry_calls-outcomes.result.1) c.deref.ensures.value c.carry_calls-outcomes.ensures.claims)
    c.settled.ensures c.requires.numbered
    (passed_of_all on (λ w. provided g.P.Provider (slice_index_or c.args.workers.now w d).provider (slice_index_or c.carry_calls-outcomes.new.workers w d).provider) calls
    (length c.args.workers.now) outs
    (said_of_all on (λ w. provided g.P.Provider (slice_index_or c.args.workers.now w d).provider (slice_index_or c.carry_calls-outcomes.new.workers w d).provider) calls
    (length c.args.workers.now) outs c.requires.some (λ w less. subst (λ (cs : List ReadyCall). HasAnswered on
    (provided g.P.Provider (slice_index_or c.args.workers.now w d).provider (slice_index_or c.carry_calls-outcomes.new.workers w d).provider) cs (length c.args.workers.now) w outs)
    c.deref.ensures.value (c.carry_calls-outcomes.ensures.answered w d less)))) c.args.past.now.spare c.requires.room))

pub returns-clause-carried : goal.returns-clause-carried
returns-clause-carried g c = λ settings entries ready.
    let calls = c.args.round.calls.items in
    let outs = c.carry_calls-outcomes.result.0.items in
    let d = head_of c.args.workers.now c.requires.some in
    let on : Basis = record { materials = c.args.materials.now; held = c.args.cache.now.entries; kept = c.args.round.kept; past = c.args.past.now } in
    let size = c.carry_calls-outcomes.ensures.counted in
    let same = each_length _ entries calls ready in
    let lent = c.deref.ensures.len in
    let a = c.carry_calls-outcomes.result.0.ok.0 in
    let b = c.args.round.calls.ok.0 in
    subst (λ (desk : DeskId). Carries settings entries (length c.args.workers.now) c.args.past.now c.add_all.new.past
    (record { outcomes = outs; classes = map (λ (call : ReadyCall). call.class) calls; desk = desk; seat = c.carry_calls-outcomes.result.1 })) c.carry_calls-outcomes.ensures.desk
    (carries settings entries calls outs c.args.past.now c.add_all.new.past c.carry_calls-outcomes.result.1 (record {
      laws = record { ticket = c.screened_law.ensures.ticket; last = c.screened_law.ensures.last };
      ready = ready;
      counted = omega arith;
      claims = subst (λ (cs : List ReadyCall). HasClaims c.args.past.now cs outs c.carry_calls-outcomes.result.1) c.deref.ensures.value c.carry_calls-outcomes.ensures.claims;
      seat = c.settled.ensures;
      share = c.carry_calls-outcomes.ensures.share;
      classed = c.requires.classed;
      numbered = c.requires.numbered;
      passed = (passed_of_all on (λ w. provided g.P.Provider (slice_index_or c.args.workers.now w d).provider (slice_index_or c.carry_calls-outcomes.new.workers w d).provider) calls
          (length c.args.workers.now) outs
          (said_of_all on (λ w. provided g.P.Provider (slice_index_or c.args.workers.now w d).provider (slice_index_or c.carry_calls-outcomes.new.workers w d).provider) calls
          (length c.args.workers.now) outs c.requires.some (λ w less. subst (λ (cs : List ReadyCall). HasAnswered on
          (provided g.P.Provider (slice_index_or c.args.workers.now w d).provider (slice_index_or c.carry_calls-outcomes.new.workers w d).provider) cs (length c.args.workers.now) w outs)
          c.deref.ensures.value (c.carry_calls-outcomes.ensures.answered w d less))));
      added = subst (λ (cs : List ReadyCall). IsAdded c.args.past.now c.add_all.new.past cs outs) c.deref-2.ensures.value
          (subst (λ (os : List Outcome). IsAdded c.args.past.now c.add_all.new.past c.deref-2.result.now os) c.deref-3.ensures.value c.add_all.ensures);
    })
    (λ at call stands. (c.requires.ready at call stands).classed) (length c.args.workers.now)
    (λ one. subst (λ (cs : List ReadyCall). IsInTurn c.args.past.now cs outs) c.deref.ensures.value (c.carry_calls-outcomes.ensures.turn one)))

pub returns-clause-ruled : goal.returns-clause-ruled
returns-clause-ruled g c = λ settings entries d ready.
    let calls = c.args.round.calls.items in
    let outs = c.carry_calls-outcomes.result.0.items in
    let on : Basis = record { materials = c.args.materials.now; held = c.args.cache.now.entries; kept = c.args.round.kept; past = c.args.past.now } in
    let by : ℕ → Provided = λ w. provided g.P.Provider (slice_index_or c.args.workers.now w d).provider (slice_index_or c.carry_calls-outcomes.new.workers w d).provider in
    let same = each_length _ entries calls ready in
    let size = c.carry_calls-outcomes.ensures.counted in
    let lent = c.deref.ensures.len in
    let a = c.carry_calls-outcomes.result.0.ok.0 in
    let b = c.args.round.calls.ok.0 in
    let counted : length outs ≡ length entries = omega arith in
    let said : AreSaid on by (length c.args.workers.now) calls outs =
    said_of_all on by calls (length c.args.workers.now) outs c.requires.some (λ w less. subst (λ (cs : List ReadyCall). HasAnswered on (by w) cs (length c.args.workers.now) w outs)
    c.deref.ensures.value (c.carry_calls-outcomes.ensures.answered w d less)) in
    record {
      judged = λ told all agree right. each_judged on by settings entries calls (length c.args.workers.now) outs said counted ready told all c.requires.some agree right;
      owed = each_owed on by settings entries calls (length c.args.workers.now) outs said counted ready;
    }
