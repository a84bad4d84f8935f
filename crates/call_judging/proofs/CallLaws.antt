-- What is asked for a call, from what is asked for its chains and its PASSporTs.
use Rattle.std.proofs.Common.{◌≡◌, ℕ, Bool, false, cond, List, [], ◌++◌, is_none, Option, Some, None, sym, ◌∙◌, ap}
use Rattle.std.specs.List.{list_any}
use Rattle.cert_store.specs.Rules.{QuestionView}
use Rattle.verify_rules.specs.Call.{Call, Reading, in_call_order}
use Rattle.verify_rules.specs.Causes.{IsCaused}
use Rattle.verify_rules.specs.Rules.{early_rules, first}
use Rattle.verify_rules.specs.States.{State}
use Rattle.verify_rules.specs.World.{AreRight, VerdictOf, World, certificate_rules, truths}
use Rattle.verify_rules.specs.declared.refusal.Refusal.{Refusal}
use Rattle.verify_rules.specs.declared.verdict.Verdict.{Verdict}
use Rattle.call_judging.specs.CallQuestions.{call_questions, chains_questions, late_questions, own_questions, questions_over}
use Rattle.call_judging.specs.Chains.{is_unread}
use Rattle.call_judging.specs.Verdicts.{asks_own}
use Rattle.call_judging.proofs.StateLaws.{AllAlike, all_alike, chains_same, owns_same}
use Rattle.call_judging.proofs.VerdictLaws.{asks_own_where}

-- ---- a call that the rules of the call refuse

pub refused_asks : (world : World) (call : Call) (refused : Refusal) → first early_rules call ≡ Some refused → call_questions world call ≡ []
unfolding call_questions
refused_asks world call refused is = ap (λ (x : Option Refusal). cond (is_none x) (late_questions world (is_none (first (certificate_rules world) call)) (in_call_order call)) []) is

-- ---- one that they don't

screened_asks : (world : World) (call : Call) (readings : List Reading) (states : List State) (own : Bool) → first early_rules call ≡ None → readings ≡ in_call_order call
    → AllAlike states (truths world readings) → own ≡ is_none (first (certificate_rules world) call) → questions_over own readings states ≡ call_questions world call
unfolding call_questions
screened_asks world call readings states own early in_order alike is =
    let chains : chains_questions states ≡ chains_questions (truths world readings) = chains_same states (truths world readings) alike in
    let owns : own_questions readings states ≡ own_questions readings (truths world readings) = owns_same readings states (truths world readings) alike in
    let over : questions_over own readings states ≡ late_questions world own readings =
    ap (λ (x : List QuestionView). x ++ cond own (own_questions readings states) []) chains
    ∙ ap (λ (x : List QuestionView). chains_questions (truths world readings) ++ cond own x []) owns in
    over ∙ ap (λ (r : List Reading). late_questions world own r) in_order ∙ ap (λ t. late_questions world t (in_call_order call)) is
    ∙ sym (ap (λ (x : Option Refusal). cond (is_none x) (late_questions world (is_none (first (certificate_rules world) call)) (in_call_order call)) []) early)

-- over chains of which all is known, by a verdict
pub over_verdict : (world : World) (call : Call) (readings : List Reading) (states : List State) (faults faults_now : ℕ) (verdict : Verdict) → first early_rules call ≡ None
    → readings ≡ in_call_order call → AreRight world readings states → list_any is_unread states ≡ false → VerdictOf world call verdict
    → IsCaused readings states faults faults_now verdict → questions_over (asks_own verdict) readings states ≡ call_questions world call
over_verdict world call readings states faults faults_now verdict early in_order right known is caused =
    screened_asks world call readings states (asks_own verdict) early in_order (all_alike world readings states right known)
    (asks_own_where world call readings states faults faults_now verdict early is caused known)

-- ---- the chains

pub over_chains : (world : World) (readings : List Reading) (states : List State) → AreRight world readings states → list_any is_unread states ≡ false
    → chains_questions states ≡ chains_questions (truths world readings)
over_chains world readings states right known = chains_same states (truths world readings) (all_alike world readings states right known)
