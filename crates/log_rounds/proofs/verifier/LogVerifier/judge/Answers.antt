-- The clauses of the service's round are what a verifier owes.
use Rattle.std.proofs.Common.{◌≡◌, ◌<◌, length, ◌∙◌, ap, subst, sym, arith}
use Rattle.stir_outside.specs.Held.{held_says}
use Rattle.verify_service.specs.Carried.{CarriedView}
use Rattle.log_rounds.specs.Workers.{AnswerBy}
use Rattle.log_rounds.proofs.BatchesLaws.{always_ok}
use Rattle.log_rounds.proofs.ServiceLaws.{round_judged, same_basis, trusted}
use Rattle.log_rounds.proofs.WorkerLaws.{head_of}
use Rattle.log_rounds.proofs.verifier.LogVerifier.judge.Goals as goal

pub round-requires-clause-agree : goal.round-requires-clause-agree
round-requires-clause-agree g c κs within = λ w d less.
    let each : AnswerBy c.args.self.now.answers.now c.as_mut_slice.result.now = subst (AnswerBy c.args.self.now.answers.now) (sym c.as_mut_slice.ensures.value) c.in_ok-workers.ensures.answers in
    let some : 0 < length c.as_mut_slice.result.now = omega (arith, less) in
    ap held_says (each w d less ∙ sym (each 0 d some))

pub round-requires-clause-right : goal.round-requires-clause-right
round-requires-clause-right g c κs within = λ d.
    let each : AnswerBy c.args.self.now.answers.now c.as_mut_slice.result.now = subst (AnswerBy c.args.self.now.answers.now) (sym c.as_mut_slice.ensures.value) c.in_ok-workers.ensures.answers in
    let some : 0 < length c.as_mut_slice.result.now = omega (arith, c.in_ok-workers.ensures.many, c.as_mut_slice.ensures.len, c.args.self.now.some) in
    trusted _ _ _ c.args.self.now.service (sym (ap held_says (each 0 d some))) c.requires.trusts

pub returns-clause-round : goal.returns-clause-round
returns-clause-round g c =
    let each : AnswerBy c.args.self.now.answers.now c.as_mut_slice.result.now = subst (AnswerBy c.args.self.now.answers.now) (sym c.as_mut_slice.ensures.value) c.in_ok-workers.ensures.answers in
    let many : length c.as_mut_slice.result.now ≡ c.args.self.now.workers = omega (arith, c.in_ok-workers.ensures.many, c.as_mut_slice.ensures.len) in
    let some : 0 < length c.as_mut_slice.result.now = omega (arith, many, c.args.self.now.some) in
    let one = head_of c.as_mut_slice.result.now some in
    round_judged c.words_law.ensures (λ (v : CarriedView). v.outcomes) c.args.self.now.service c.round.new.self c.args.self.now.answers.now c.args.self.now.workers _
    (g.S.Shelf.files c.args.shelf.now) (g.S.Shelf.counts c.args.shelf.now) (g.S.Shelf.counts c.round.new.shelf) c.args.calls.now c.round.result (c.files_law.ensures.bytes (g.S.Shelf.files c.args.shelf.now))
    (ap held_says (each 0 one some))
    (c.round.ensures.judged one) c.round.ensures.settled c.round.ensures.owed (λ is. c.round.ensures.first (many ∙ is)) c.round.ensures.unread c.round.ensures.quiet_shelf
    (λ stayed. c.round.ensures.quiet one (λ w less. stayed)) (λ stayed. c.round.ensures.few one (λ w less. stayed))

pub returns-clause-moves : goal.returns-clause-moves
returns-clause-moves g c =
    always_ok _ c.round.result
    (record { number = c.round.ensures.number; moment = c.round.ensures.moment; shelf_stays = c.round.ensures.shelf.counts.faults.never_falls; provider_stays = omega arith })

pub returns-clause-trusts : goal.returns-clause-trusts
returns-clause-trusts g c =
    let each : AnswerBy c.args.self.now.answers.now c.as_mut_slice.result.now = subst (AnswerBy c.args.self.now.answers.now) (sym c.as_mut_slice.ensures.value) c.in_ok-workers.ensures.answers in
    let some : 0 < length c.as_mut_slice.result.now = omega (arith, c.in_ok-workers.ensures.many, c.as_mut_slice.ensures.len, c.args.self.now.some) in
    let one = head_of c.as_mut_slice.result.now some in
    trusted _ _ _ c.round.new.self ((c.round.ensures.provider 0 one some).says ∙ ap held_says (each 0 one some)) (c.round.ensures.right one)

pub returns-clause-same : goal.returns-clause-same
returns-clause-same g c = same_basis c.args.self.now.service c.round.new.self c.args.self.now.answers.now c.args.self.now.workers c.round.ensures.config
