-- What the service says of a round, as a log is judged by it.
use Rattle.std.proofs.Common.{◌≡◌, ℕ, List, [], ◌∷◌, Option, Some, None, Result, Ok, Err, IfOk, subst}
use Rattle.call_log.specs.Entry.{Entry}
use Rattle.log_rounds.specs.Judge.{RoundJudged}
use Rattle.replay_law.specs.Round.{RoundSettled, round_of}
use Rattle.replay_law.specs.Turn.{FirstWins}
use Rattle.stir_outside.specs.Count.{NotRisen}
use Rattle.stir_outside.specs.Files.{Counts, Files, HoldBytes, HoldBytesWhere}
use Rattle.stir_outside.specs.Held.{Held, held_says}
use Rattle.cert_store.specs.Rules.{Says}
use Rattle.verify_rules.specs.AllWords.{SaysRules}
use Rattle.verify_rules.specs.Call.{Call, call_of}
use Rattle.verify_rules.specs.World.{HoldsBytes, VerdictOf, World}
use Rattle.verify_rules.specs.declared.settings.Settings.{Settings}
use Rattle.verify_rules.specs.declared.verdict.Verdict.{Verdict}
use Rattle.call_judging.specs.Chains.{world_by}
use Rattle.verify_service.specs.Causes.{NoneUnasked, NoneUnread, UnreadIsCounted}
use Rattle.verify_service.specs.Judging.{EachPair, IsJudged, call_in}
use Rattle.verify_service.specs.Reads.{ReadsFew}
use Rattle.verify_service.specs.Rows.{EachOwed, held, rows_of}
use Rattle.verify_service.specs.Service.{AreJudged, HoldsRight, IsSameConfig, ServiceView, held_texts}
use Rattle.verify_service.specs.declared.outcome.Outcome.{Outcome}
use Rattle.verify_service.specs.declared.outcome.Outcome.TheVariants.{Valid, Refused, Replay, Unread, Unasked}
use Rattle.log_rounds.specs.Answers.{Answers, verdict_of}
use Rattle.log_rounds.specs.Verifier.{AnswersBy, JudgeBasis, basis_by, config_of, state_by}

-- what a verdict says of the rules in their own words
abbrev pub WordsLaw : Type 0
WordsLaw = (world : World) (settings : Settings) (moment : ℕ) (bytes : List ℕ) (verdict : Verdict) → HoldsBytes world → VerdictOf world (call_of settings moment bytes) verdict
    → SaysRules world bytes (call_of settings moment bytes) verdict

verdict_by : (world : World) (call : Call) (outcome : Outcome) → IsJudged world call outcome → VerdictOf world call (verdict_of outcome)
verdict_by world call Valid j = j
verdict_by world call (Refused refused) j = j
verdict_by world call (Replay winner) j = j
verdict_by world call (Unread bad) j = j
verdict_by world call (Unasked bad) j = j

answers : WordsLaw → (world : World) (settings : Settings) → HoldsBytes world → (entry : Entry) (outcome : Outcome) → IsJudged world (call_in settings entry) outcome
    → Answers world settings entry outcome
unfolding call_in
answers law world settings bytes entry outcome j = record {
  judged = j;
  words = law world settings entry.moment entry.message (verdict_of outcome) bytes (verdict_by world (call_in settings entry) outcome j);
}

each_untold : (basis : JudgeBasis) (P : Entry → Outcome → Type 0) (calls : List Entry) (outcomes : List Outcome) → EachPair P calls outcomes → EachPair (AnswersBy basis None) calls outcomes
each_untold basis P [] [] each = tt
each_untold basis P [] (outcome ∷ outcomes) each = absurd each
each_untold basis P (call ∷ calls) [] each = absurd each
each_untold basis P (call ∷ calls) (outcome ∷ outcomes) each = (tt, each_untold basis P calls outcomes each.1)

each_told : WordsLaw → (basis : JudgeBasis) (files : Files) → HoldBytes files → (calls : List Entry) (outcomes : List Outcome)
    → EachPair (λ entry outcome. IsJudged (world_by basis.materials files (held_says basis.answers)) (call_in basis.settings entry) outcome) calls outcomes → EachPair (AnswersBy basis (Some files)) calls outcomes
each_told law basis files bytes [] [] each = tt
each_told law basis files bytes [] (outcome ∷ outcomes) each = absurd each
each_told law basis files bytes (call ∷ calls) [] each = absurd each
each_told law basis files bytes (call ∷ calls) (outcome ∷ outcomes) each =
    (answers law (world_by basis.materials files (held_says basis.answers)) basis.settings bytes call outcome each.0, each_told law basis files bytes calls outcomes each.1)

-- each call is answered by what the files say and the answers file says, if the files are told
pub each_answered : WordsLaw → (service : ServiceView) (held_answers : Held) (workers : ℕ) (says : Says) (files : Option Files) (calls : List Entry) (outcomes : List Outcome) → HoldBytesWhere files → says ≡ held_says held_answers
    → EachOwed service.settings calls outcomes → AreJudged files service says calls outcomes → EachPair (AnswersBy (basis_by service held_answers workers) files) calls outcomes
each_answered law service held_answers workers says None calls outcomes bytes same owed judged = each_untold (basis_by service held_answers workers) _ calls outcomes owed
each_answered law service held_answers workers says (Some files) calls outcomes bytes same owed judged =
    each_told law (basis_by service held_answers workers) files bytes calls outcomes (subst (λ (x : Says). AreJudged (Some files) service x calls outcomes) same judged)

-- ---- a round

-- What the service ensures of a round is what is asked of one.
pub round_judged : {V E : Type 0} → WordsLaw → (items : V → List Outcome) (service now : ServiceView) (held_answers : Held) (workers : ℕ) (says : Says) (files : Option Files) (counts counts_now : Counts) (calls : List Entry)
    (result : Result V E) → HoldBytesWhere files → says ≡ held_says held_answers → IfOk result (λ v. AreJudged files service says calls (items v))
    → IfOk result (λ v. RoundSettled (held service.past) (round_of (rows_of service.settings calls (items v))) (held now.past)) → IfOk result (λ v. EachOwed service.settings calls (items v))
    → (workers ≡ 1 → IfOk result (λ v. FirstWins (rows_of service.settings calls (items v)))) → IfOk result (λ v. UnreadIsCounted service.settings calls counts.faults counts_now.faults (items v))
    → (NotRisen counts.faults counts_now.faults → IfOk result (λ v. NoneUnread (items v))) → (NotRisen 0 0 → IfOk result (λ v. NoneUnasked (items v)))
    → (NotRisen 0 0 → IfOk result (λ v. ReadsFew service.settings service.chains calls (held_texts service) (held_texts now) counts.reads counts_now.reads))
    → IfOk result (λ v. RoundJudged (AnswersBy (basis_by service held_answers workers) files) (config_of (basis_by service held_answers workers)) service.chains (state_by service counts) (state_by now counts_now) calls (items v))
round_judged law items service now held_answers workers says files counts counts_now calls (Ok v) bytes same judged settled owed first unread quiet_shelf quiet few = record {
  each = each_answered law service held_answers workers says files calls (items v) bytes same owed judged;
  owed = owed;
  settled = settled;
  in_order = first;
  unread = unread;
  quiet_shelf = quiet_shelf;
  quiet_provider = quiet;
  few_reads = few;
}
round_judged law items service now held_answers workers says files counts counts_now calls (Err e) bytes same judged settled owed first unread quiet_shelf quiet few = tt

-- what is held of chains is right by what a provider says, and so by what another says that says the same
pub trusted : (told : Option Files) (says other : Says) (service : ServiceView) → says ≡ other → HoldsRight told says service → HoldsRight told other service
trusted told says other service same right = subst (λ (x : Says). HoldsRight told x service) same right

-- by what is judged stays
pub same_basis : (service now : ServiceView) (answers : Held) (workers : ℕ) → IsSameConfig service now → basis_by now answers workers ≡ basis_by service answers workers
same_basis service now answers workers same = λ i. record {
  settings = same.settings i;
  materials = record { chains = same.chains i; anchors = same.anchors i; table = same.table i };
  answers = answers;
  workers = workers;
}
