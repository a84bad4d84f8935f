-- The numbers of the calls leave room for a number of each, and closing a round changes nothing of what was judged.
use Rattle.std.proofs.Common.{◌≡◌, length, sym, ap, subst, arith, rules}
use Rattle.log_rounds.specs.Batches.{OneRound}
use Rattle.log_rounds.specs.Verifier.{AnswersBy, basis_of, config_of, state_by, state_of}
use Rattle.verify_service.specs.Service.{ServiceView}
use Rattle.log_rounds.proofs.BatchesLaws.{follows}
use Rattle.log_rounds.proofs.FollowLaws.{numbers_fit}
use Rattle.log_rounds.proofs.RoundLaws.{one_for_each}
use Rattle.log_rounds.proofs.verifier.LogVerifier.answer_round.Goals as goal

pub judge-requires-clause-follow : goal.judge-requires-clause-follow
judge-requires-clause-follow g c κs within = follows _ _ _ c.requires.some c.requires.few c.requires.follow

pub judge-requires-clause-trusts : goal.judge-requires-clause-trusts
judge-requires-clause-trusts g c κs within = c.requires.follow.stands.trusts

pub report_lines-requires : goal.report_lines-requires
report_lines-requires g c =
    let follow = follows _ _ _ c.requires.some c.requires.few c.requires.follow in
    let size : length c.deref.result.now ≡ length c.close-outcomes.result.items = search rules in
    let closed = ap length c.close-outcomes.ensures.outcomes in
    let same = one_for_each _ _ _ c.in-Ok.ensures.round.each in
    let fit = numbers_fit _ _ _ follow.some follow.each in
    omega (arith, size, closed, same, fit, c.first_number.ensures)

pub returns-in-Ok-report_lines-clause-judged : goal.returns-in-Ok-report_lines-clause-judged
returns-in-Ok-report_lines-clause-judged g c =
    let counts = g.S.Shelf.counts c.judge.new.shelf in
    let judged : OneRound (AnswersBy (basis_of c.args.self.now) (g.S.Shelf.files c.args.shelf.now)) (config_of (basis_of c.args.self.now)) c.args.self.now.service.chains
    (state_of c.args.self.now (g.S.Shelf.counts c.args.shelf.now)) (state_by c.judge.new.self.service counts) c.args.calls.now c.new.result = search rules in
    subst (λ (s : ServiceView). OneRound (AnswersBy (basis_of c.args.self.now) (g.S.Shelf.files c.args.shelf.now)) (config_of (basis_of c.args.self.now)) c.args.self.now.service.chains
    (state_of c.args.self.now (g.S.Shelf.counts c.args.shelf.now)) (state_by s counts) c.args.calls.now c.new.result) (sym c.close-outcomes.ensures.same) judged
