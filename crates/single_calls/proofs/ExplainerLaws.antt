-- What is explained of a call, from what is found of it.
use Rattle.std.proofs.Common.{◌≡◌, ℕ, ◌≤◌, inl, inr, List, [], ◌∷◌, ◌++◌, Option, Some, None, Result, Ok, Err, IfOk, refl, sym, ◌∙◌, ap, subst}
use Rattle.call_log.specs.Entry.{Entry}
use Rattle.log_run.specs.Batch.{Batch, BatchAnswerView, batch_of}
use Rattle.stir_outside.proofs.CountLaws.{at_most_of_rose, never_rose, none_at}
use Rattle.stir_outside.specs.Count.{AtMost}
use Rattle.stir_outside.specs.Files.{Files}
use Rattle.stir_outside.specs.Held.{held_says}
use Rattle.verify_rules.specs.Call.{Call}
use Rattle.verify_rules.specs.World.{First, World}
use Rattle.verify_rules.specs.declared.refusal.Refusal.{Refusal}
use Rattle.verify_rules.specs.declared.settings.Settings.{Settings}
use Rattle.call_judging.specs.Causes.{HasCauseIf, found_unasked, found_unread}
use Rattle.call_judging.specs.Chains.{world_by}
use Rattle.call_judging.specs.Explain.{Explain, broken_text, met_text}
use Rattle.call_judging.specs.Judging.{IsFound, IsFoundWhere}
use Rattle.verify_service.specs.Judging.{call_in}
use Rattle.call_judging.specs.declared.finding.Finding.{Finding}
use Rattle.call_judging.specs.declared.finding.Finding.TheVariants as found
use Rattle.single_calls.specs.Answer.{AnswerView, unread_lines, written_of}
use Rattle.single_calls.specs.Explainer.{BehindAny, ExplainedBatches, ExplainedBy, ExplainerView, IsExplained, explanation, sign_by}
use Rattle.single_calls.specs.Singly.{OneAnswer}
use Rattle.single_calls.proofs.SinglyLaws.{one_more}

-- the laws of what is explained: of a call that breaks no rule, and of one that does
abbrev pub MetLaw : Type 0
MetLaw = (world : World) (number : ℕ) (call : Call) → First world call ≡ None → Explain world number call ≡ met_text number

abbrev pub BrokenLaw : Type 0
BrokenLaw = (world : World) (number : ℕ) (call : Call) (refused : Refusal) → First world call ≡ Some refused → Explain world number call ≡ broken_text number refused

-- what is found of a call is explained, if no question failed
found_explained : MetLaw → BrokenLaw → (world : World) (settings : Settings) (entry : Entry) (finding : Finding) → HasCauseIf (found_unasked finding) 0 0 → IsFound world (call_in settings entry) finding
    → IsExplained world settings entry (explanation entry.number finding)
found_explained met broken world settings entry (found.Refused refused) cause is = inl (record {
  lines = sym (broken world entry.number (call_in settings entry) refused is);
  sign = ap sign_by (sym is);
})
found_explained met broken world settings entry (found.Unread bad) cause is = inr (record { bad = bad; may_be = is; lines = refl; sign = refl })
found_explained met broken world settings entry (found.Unasked bad) cause is = absurd (never_rose (cause refl))
found_explained met broken world settings entry (found.Passes pass) cause is = inl (record {
  lines = sym (met world entry.number (call_in settings entry) is);
  sign = ap sign_by (sym is);
})

explained_where : MetLaw → BrokenLaw → (explainer : ExplainerView) (told : Option Files) (before : List Entry) (entry : Entry) (finding : Finding) → HasCauseIf (found_unasked finding) 0 0
    → IsFoundWhere told explainer.materials (held_says explainer.answers) (call_in explainer.settings entry) finding
    → ExplainedBy explainer told before entry (explanation entry.number finding)
explained_where met broken explainer None before entry finding cause is = record { finding = finding; is = refl }
explained_where met broken explainer (Some files) before entry finding cause is =
    found_explained met broken (world_by explainer.materials files (held_says explainer.answers)) explainer.settings entry finding cause is

pub explained_by : MetLaw → BrokenLaw → (explainer : ExplainerView) (told : Option Files) (before : List Entry) (entry : Entry) (finding : Finding) (answer : AnswerView)
    → HasCauseIf (found_unasked finding) 0 0 → IsFoundWhere told explainer.materials (held_says explainer.answers) (call_in explainer.settings entry) finding
    → answer ≡ explanation entry.number finding → ExplainedBy explainer told before entry answer
explained_by met broken explainer told before entry finding answer cause is same =
    subst (λ (a : AnswerView). ExplainedBy explainer told before entry a) (sym same) (explained_where met broken explainer told before entry finding cause is)

-- ---- how often a line says that a file couldn't be read

unread_where : (number faults faults_now : ℕ) (finding : Finding) → HasCauseIf (found_unread finding) faults faults_now → faults ≤ faults_now
    → AtMost (unread_lines (explanation number finding)) faults faults_now
unread_where number faults faults_now (found.Refused refused) cause stay = none_at faults faults_now stay
unread_where number faults faults_now (found.Unread bad) cause stay = at_most_of_rose faults faults_now (cause refl)
unread_where number faults faults_now (found.Unasked bad) cause stay = none_at faults faults_now stay
unread_where number faults faults_now (found.Passes pass) cause stay = none_at faults faults_now stay

-- ---- of a call

-- of what was written of it
pub one_explained : {E : Type 0} → MetLaw → BrokenLaw → (result : Result BatchAnswerView E) (explainer : ExplainerView) (told : Option Files) (entry : Entry) (number : ℕ) (finding : Finding) (faults faults_now : ℕ)
    → HasCauseIf (found_unasked finding) 0 0 → HasCauseIf (found_unread finding) faults faults_now → faults ≤ faults_now
    → IsFoundWhere told explainer.materials (held_says explainer.answers) (call_in explainer.settings entry) finding → number ≡ entry.number
    → IfOk result (λ written. written ≡ written_of (explanation number finding)) → IfOk result (OneAnswer BehindAny BehindAny (ExplainedBy explainer told) faults faults_now entry)
one_explained met broken (Ok written) explainer told entry number finding faults faults_now unasked unread stay found same is = record {
  answer = explanation number finding;
  is = is;
  may = λ before any. explained_by met broken explainer told before entry finding (explanation number finding) unasked found (ap (λ n. explanation n finding) same);
  adds = λ before any. tt;
  unread = unread_where number faults faults_now finding unread stay;
}
one_explained met broken (Err stop) explainer told entry number finding faults faults_now unasked unread stay found same is = tt

-- ---- of the batches before

pub explained_more : (first one now : ExplainerView) (told : Option Files) (a b c : ℕ) (xs : List Batch) (call : Entry) (written : BatchAnswerView) → b ≤ c → now ≡ one
    → OneAnswer BehindAny BehindAny (ExplainedBy one told) b c call written → ExplainedBatches first one told a b xs → ExplainedBatches first now told a c (xs ++ batch_of (call ∷ []) written ∷ [])
explained_more first one now told a b c xs call written h same o s = record {
  so = one_more (ExplainedBy first told) (ExplainedBy one told) BehindAny BehindAny a b c xs call written h tt
      (λ before entry answer by. subst (λ (x : ExplainerView). ExplainedBy x told before entry answer) s.same by) o s.so;
  same = same ∙ s.same;
}
