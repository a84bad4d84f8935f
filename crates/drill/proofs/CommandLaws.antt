-- One round more was judged and counted.
use Rattle.std.proofs.Common.{◌≡◌, ◌+◌, ◌≤◌, true, List, [], ◌∷◌, ◌++◌, length, Option, Result, Ok, Err, IfErr, refl, sym, ◌∙◌, ap, subst, append-nil}
use Rattle.call_log.specs.Entry.{Entry}
use Rattle.drill.specs.Counts.{with_all}
use Rattle.drill.specs.declared.counts.Counts.{Counts as Counted}
use Rattle.drill.specs.Command.{AreSilent, DrillBehind, DrillStopped, OneCounted}
use Rattle.drill.specs.declared.command.DrillCommand.{DrillCommand}
use Rattle.log_rounds.proofs.BatchesLaws.{behind_none, judged_more, stopped}
use Rattle.log_rounds.proofs.RoundLaws.{outcomes_both}
use Rattle.log_rounds.specs.AllValid.{all_valid}
use Rattle.log_rounds.specs.Batches.{OneRound, first_number}
use Rattle.log_rounds.specs.Judge.{JudgeConfig, RoundJudged}
use Rattle.log_rounds.specs.Rounds.{Round, outcomes_in}
use Rattle.log_rounds.specs.Verifier.{AnswersBy, JudgeBasis, basis_of, config_of, state_of}
use Rattle.log_run.specs.Batch.{Batch, BatchAnswerView, batch_of}
use Rattle.log_run.specs.declared.stop.AnswerError.{AnswerError}
use Rattle.log_run.specs.declared.stop.AnswerError.TheVariants.{Memory}
use Rattle.replay_law.specs.Law.{MoreRounds}
use Rattle.stir_outside.specs.Files.{Counts, Files}
use Rattle.verify_service.specs.Report.{report}
use Rattle.verify_service.specs.Service.{texts_in}
use Rattle.verify_service.specs.declared.outcome.Outcome.{Outcome}

abbrev pub BothLaw : Type 0
BothLaw = (counts : Counted) (xs ys : List Outcome) → with_all counts (xs ++ ys) ≡ with_all (with_all counts xs) ys

silent_more : (xs ys : List Batch) (calls : List Entry) (answer said : BatchAnswerView) → answer.text ≡ [] → answer.well ≡ true → AreSilent xs ys
    → AreSilent (xs ++ batch_of calls answer ∷ []) (ys ++ batch_of calls said ∷ [])
silent_more [] [] calls answer said t w s = (refl, t, w, tt)
silent_more [] (y ∷ ys) calls answer said t w s = absurd s
silent_more (x ∷ xs) [] calls answer said t w s = absurd s
silent_more (x ∷ xs) (y ∷ ys) calls answer said t w s = (s.0, s.1, s.2, silent_more xs ys calls answer said t w s.3)

-- as a round would be reported
abbrev said_of : List Entry → List Outcome → BatchAnswerView
said_of calls outcomes = record { text = report (first_number calls) outcomes; well = all_valid outcomes }

one_round : (judged : Entry → Outcome → Type 0) (config : JudgeConfig) (first one now : DrillCommand) (b c : Counts) (told : Option Files) (calls : List Entry)
    → (o : OneCounted (AnswersBy (basis_of one.verifier) told) (config_of (basis_of one.verifier)) one.verifier.service.chains (state_of one.verifier b) (state_of now.verifier c) one.counts now.counts calls)
    → basis_of one.verifier ≡ basis_of first.verifier
    → RoundJudged (AnswersBy (basis_of first.verifier) told) (config_of (basis_of first.verifier)) first.verifier.service.chains (state_of one.verifier b) (state_of now.verifier c) calls o.outcomes
one_round judged config first one now b c told calls o same =
    subst (λ (x : JudgeBasis). RoundJudged (AnswersBy x told) (config_of x) x.materials.chains (state_of one.verifier b) (state_of now.verifier c) calls o.outcomes) same o.round

pub counted_more : MoreRounds → BothLaw → (first one now : DrillCommand) (a b c : Counts) (told : Option Files) (xs : List Batch) (calls : List Entry) (answer : BatchAnswerView) → answer.text ≡ [] → answer.well ≡ true
    → OneCounted (AnswersBy (basis_of one.verifier) told) (config_of (basis_of one.verifier)) one.verifier.service.chains (state_of one.verifier b) (state_of now.verifier c) one.counts now.counts calls
    → basis_of now.verifier ≡ basis_of one.verifier → now.total ≡ one.total → DrillBehind first one a b told xs → DrillBehind first now a c told (xs ++ batch_of calls answer ∷ [])
counted_more more both first one now a b c told xs calls answer t w o same total s =
    let judged : Entry → Outcome → Type 0 = AnswersBy (basis_of first.verifier) told in
    let config : JudgeConfig = config_of (basis_of first.verifier) in
    let round : OneRound judged config first.verifier.service.chains (state_of one.verifier b) (state_of now.verifier c) calls (said_of calls o.outcomes) =
    record { outcomes = o.outcomes; round = one_round judged config first one now b c told calls o s.judged.same; moves = o.moves; text = refl; well = refl } in
    let last : Round = record { calls = calls; outcomes = o.outcomes } in
    record {
      said = s.said ++ batch_of calls (said_of calls o.outcomes) ∷ [];
      silent = silent_more xs s.said calls answer (said_of calls o.outcomes) t w s.silent;
      judged = record {
        so = judged_more more judged config first.verifier.service.chains (state_of first.verifier a) (state_of one.verifier b) (state_of now.verifier c) s.said calls (said_of calls o.outcomes) round s.judged.so;
        same = same ∙ s.judged.same;
      };
      counted = o.counted ∙ ap (λ (x : Counted). with_all x o.outcomes) s.counted ∙ sym (both first.counts (outcomes_in s.judged.so.rounds) o.outcomes)
          ∙ ap (λ os. with_all first.counts (outcomes_in s.judged.so.rounds ++ os)) (sym (append-nil o.outcomes))
          ∙ ap (with_all first.counts) (sym (outcomes_both s.judged.so.rounds (last ∷ [])));
      total = total ∙ s.total;
    }

pub counting_stopped : (first one : DrillCommand) (a b c : Counts) (told : Option Files) (xs : List Batch) (calls : List Entry) (stop : AnswerError) → stop ≡ Memory → b.faults ≤ c.faults
    → c.reads ≤ b.reads + length (texts_in one.verifier.service calls) → DrillBehind first one a b told xs → DrillStopped first a c told xs calls stop
counting_stopped first one a b c told xs calls stop memory stays most s = record {
  said = s.said;
  silent = s.silent;
  stopped = stopped first.verifier one.verifier a b c told s.said calls stop memory stays most s.judged;
}

-- no round yet
pub counted_none : (command : DrillCommand) (a : Counts) (told : Option Files) → DrillBehind command command a a told []
counted_none command a told = record { said = []; silent = tt; judged = record { so = (behind_none command.verifier a told).so; same = refl }; counted = refl; total = refl }

pub always_err : {T E : Type 0} (Q : Type 0) (result : Result T E) → Q → IfErr result (λ e. Q)
always_err Q (Ok x) q = tt
always_err Q (Err e) q = q
