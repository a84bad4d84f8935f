-- One round more.
use Rattle.std.proofs.Common.{◌≡◌, ℕ, ◌+◌, ◌<◌, ◌≤◌, List, [], ◌∷◌, ◌++◌, length, Option, Result, Ok, Err, IfOk, IfErr, refl, sym, ◌∙◌, ap, subst, arith, append-nil}
use Rattle.call_log.specs.Entry.{Entry}
use Rattle.call_log.specs.Log.{AreCalls, Passed, after_all}
use Rattle.log_run.specs.Batch.{BatchAnswerView, Batch, batch_of}
use Rattle.log_run.specs.Commands.{Follow as Next}
use Rattle.cert_store.specs.Files.{Files as ChainFiles}
use Rattle.log_rounds.proofs.FewLaws.{few_both, few_none, few_one}
use Rattle.log_rounds.proofs.FollowLaws.{follow_of, moment_same, number_same}
use Rattle.log_rounds.proofs.RoundLaws.{aside_both, aside_none, each_both, order_both, rows_both}
use Rattle.log_rounds.specs.Judge.{JudgeConfig, JudgeState, Moves, RoundJudged, counts_of}
use Rattle.log_rounds.specs.Judged.{SetAside}
use Rattle.log_rounds.specs.Rounds.{Round, row_rounds}
use Rattle.log_rounds.specs.Verifier.{AnswersBy, JudgeBasis, TrustsHeld, basis_of, config_of, state_of}
use Rattle.log_rounds.specs.declared.verifier.LogVerifier.{LogVerifier}
use Rattle.stir_outside.specs.Files.{Counts, Files}
use Rattle.log_run.specs.declared.stop.AnswerError.{AnswerError}
use Rattle.log_run.specs.declared.stop.AnswerError.TheVariants.{Memory}
use Rattle.replay_law.specs.Law.{MoreRounds}
use Rattle.replay_law.specs.Round.{Rounds}
use Rattle.stir_outside.specs.Count.{AtMost}
use Rattle.verify_service.specs.Causes.{NoneUnasked, NoneUnread, unread_texts}
use Rattle.verify_service.specs.Needed.{named, round_texts}
use Rattle.verify_service.specs.Rows.{IsOwed}
use Rattle.verify_service.specs.Service.{Follow, last_moment_of, last_number, texts_in}
use Rattle.verify_service.specs.declared.outcome.Outcome.{Outcome}
use Rattle.log_rounds.specs.Batches.{AreRounds, JudgedRounds, OneRound, RoundsBehind, RoundsStand, RoundsStopped}

pub are_more : (xs : List Batch) (ys : List Round) (batch : Batch) (round : Round) → AreRounds xs ys → AreRounds (batch ∷ []) (round ∷ []) → AreRounds (xs ++ batch ∷ []) (ys ++ round ∷ [])
are_more [] [] batch round a b = b
are_more [] (y ∷ ys) batch round a b = absurd a
are_more (x ∷ xs) [] batch round a b = absurd a
are_more (x ∷ xs) (y ∷ ys) batch round a b = (a.0, a.1, a.2, are_more xs ys batch round a.3 b)

one_total : (n : ℕ) → n ≡ n + 0
one_total n = omega arith

pub one_aside : (judged : Entry → Outcome → Type 0) (config : JudgeConfig) (chains : ChainFiles) (before now : JudgeState) (calls : List Entry) (outcomes : List Outcome) → RoundJudged judged config chains before now calls outcomes
    → SetAside config (counts_of before) (counts_of now) (record { calls = calls; outcomes = outcomes } ∷ [])
one_aside judged config chains before now calls outcomes round = record {
  unread = subst (λ n. AtMost n before.shelf now.shelf) (one_total (length (unread_texts config.settings calls outcomes))) round.unread;
  quiet_shelf = λ n. subst NoneUnread (sym (append-nil outcomes)) (round.quiet_shelf n);
  quiet_provider = λ n. subst NoneUnasked (sym (append-nil outcomes)) (round.quiet_provider n);
}

-- after rounds by the same config
abbrev pub judged_more : MoreRounds → (judged : Entry → Outcome → Type 0) (config : JudgeConfig) (chains : ChainFiles) (a b c : JudgeState) (xs : List Batch) (calls : List Entry) (answer : BatchAnswerView)
    → OneRound judged config chains b c calls answer → JudgedRounds judged config chains a b xs → JudgedRounds judged config chains a c (xs ++ batch_of calls answer ∷ [])
judged_more more judged config chains a b c xs calls answer o s =
    let one : List Round = record { calls = calls; outcomes = o.outcomes } ∷ [] in
    record {
      rounds = s.rounds ++ one;
      are = are_more xs s.rounds (batch_of calls answer) (record { calls = calls; outcomes = o.outcomes }) s.are (refl, o.text, o.well, tt);
      each = each_both judged s.rounds one s.each (o.round.each, tt);
      owed = each_both (IsOwed config.settings) s.rounds one s.owed (o.round.owed, tt);
      settled = subst (λ r. Rounds a.past r c.past) (sym (rows_both config s.rounds one)) (more a.past b.past c.past (row_rounds config s.rounds) (row_rounds config one) s.settled (c.past, o.round.settled, λ ticket. refl));
      in_order = λ w. order_both config s.rounds one (s.in_order w) (o.round.in_order w, tt);
      aside = aside_both config (counts_of a) (counts_of b) (counts_of c) s.rounds one s.shelf_stays o.moves.shelf_stays s.provider_stays o.moves.provider_stays s.aside (one_aside judged config chains b c calls o.outcomes o.round);
      few_reads = few_both config chains a b c s.rounds one s.provider_stays o.moves.provider_stays s.few_reads (few_one config chains b c calls o.outcomes o.round.few_reads);
      shelf_stays = omega (arith, s.shelf_stays, o.moves.shelf_stays);
      provider_stays = omega (arith, s.provider_stays, o.moves.provider_stays);
    }

pub adds : MoreRounds → (verifier one now : LogVerifier) (a b c : Counts) (told : Option Files) (xs : List Batch) (calls : List Entry) (answer : BatchAnswerView)
    → OneRound (AnswersBy (basis_of one) told) (config_of (basis_of one)) one.service.chains (state_of one b) (state_of now c) calls answer → basis_of now ≡ basis_of one
    → RoundsBehind verifier one a b told xs → RoundsBehind verifier now a c told (xs ++ batch_of calls answer ∷ [])
adds more verifier one now a b c told xs calls answer o same s = record {
  so = judged_more more (AnswersBy (basis_of verifier) told) (config_of (basis_of verifier)) verifier.service.chains (state_of verifier a) (state_of one b) (state_of now c) xs calls answer
      (subst (λ (x : JudgeBasis). OneRound (AnswersBy x told) (config_of x) x.materials.chains (state_of one b) (state_of now c) calls answer) s.same o) s.so;
  same = same ∙ s.same;
}

-- the chains of the calls at which it stopped were read by the settings and the chain map that stay
pub stopped : (verifier one : LogVerifier) (a b c : Counts) (told : Option Files) (xs : List Batch) (calls : List Entry) (stop : AnswerError) → stop ≡ Memory → b.faults ≤ c.faults
    → c.reads ≤ b.reads + length (texts_in one.service calls) → RoundsBehind verifier one a b told xs → RoundsStopped verifier a c told xs calls stop
stopped verifier one a b c told xs calls stop memory stays most s = record {
  memory = memory;
  mid = one;
  counted = b;
  so = s.so;
  shelf_stays = stays;
  reads = subst (λ (x : JudgeBasis). c.reads ≤ b.reads + length (round_texts x.materials.chains one.service.held.entries (named x.settings calls))) s.same most;
}

-- no round yet
abbrev pub behind_none : (verifier : LogVerifier) (a : Counts) (told : Option Files) → RoundsBehind verifier verifier a a told []
behind_none verifier a told = record {
  so = record {
    rounds = [];
    are = tt;
    each = tt;
    owed = tt;
    settled = λ ticket. refl;
    in_order = λ one. tt;
    aside = aside_none (config_of (basis_of verifier)) (counts_of (state_of verifier a));
    few_reads = few_none (config_of (basis_of verifier)) verifier.service.chains (state_of verifier a);
    shelf_stays = omega arith;
    provider_stays = omega arith;
  };
  same = refl;
}

pub follows : (verifier : LogVerifier) (told : Option Files) (calls : List Entry) → 0 < length calls → length calls ≤ 256 → Next (RoundsStand verifier told) calls → Follow verifier.service.number verifier.service.moment calls
follows verifier told calls some few f =
    record { some = omega (arith, some); few = few; each = follow_of f.passed verifier.service.number verifier.service.moment calls f.stands.number f.stands.moment f.room f.follow }

pub stands_on : (one now : LogVerifier) (b c : Counts) (told told_now : Option Files) (calls : List Entry) (passed : Passed) → Moves (state_of one b) (state_of now c) calls → TrustsHeld now told_now → RoundsStand one told passed
    → AreCalls passed calls → RoundsStand now told_now (after_all passed calls)
stands_on one now b c told told_now calls passed m so s follow = record {
  number = m.number ∙ ap (λ n. last_number n calls) s.number ∙ number_same passed calls;
  moment = m.moment ∙ ap (λ n. last_moment_of n calls) s.moment ∙ moment_same passed calls;
  trusts = so;
}

pub if_ok : {T E : Type 0} (P Q : T → Type 0) (result : Result T E) → ((x : T) → P x → Q x) → IfOk result P → IfOk result Q
if_ok P Q (Ok x) f p = f x p
if_ok P Q (Err e) f p = tt

pub always_ok : {T E : Type 0} (Q : Type 0) (result : Result T E) → Q → IfOk result (λ x. Q)
always_ok Q (Ok x) q = q
always_ok Q (Err e) q = tt

pub if_err : {T E : Type 0} (P Q : E → Type 0) (result : Result T E) → ((e : E) → P e → Q e) → IfErr result P → IfErr result Q
if_err P Q (Ok x) f p = tt
if_err P Q (Err e) f p = f e p
