-- What was asked for the calls of a log is what is asked for the log.
use Rattle.std.proofs.Common.{◌≡◌, ℕ, Bool, true, false, ◌&&◌, List, [], ◌∷◌, ◌++◌, Option, Some, None, refl, sym, ◌∙◌, ap}
use Rattle.call_log.specs.Entry.{Entry}
use Rattle.single_calls.specs.Answer.{AnswerView, all_well, found_well, is_well, texts_of}
use Rattle.single_calls.specs.Answering.{AreAnswered}
use Rattle.cert_store.specs.Rules.{QuestionView}
use Rattle.stir_outside.specs.Files.{Files}
use Rattle.verify_service.specs.Judging.{call_in}
use Rattle.single_calls.specs.Asker.{AskedBy, AskerView, asking_world}
use Rattle.call_judging.specs.AskLines.{ask_lines}
use Rattle.single_calls.specs.Asks.{Asks, calls_questions, fresh}
use Rattle.call_judging.specs.CallQuestions.{call_questions}
use Rattle.single_calls.proofs.AskerLaws.{calls_more}
use Rattle.single_calls.proofs.FreshLaws.{fresh_lines}

texts_from : (asker : AskerView) (files : Files) (before calls : List Entry) (answers : List AnswerView) → AreAnswered (AskedBy asker (Some files)) before calls answers
    → texts_of answers ≡ ask_lines (fresh (calls_questions (asking_world asker.materials files) asker.settings before) (calls_questions (asking_world asker.materials files) asker.settings calls))
texts_from asker files before [] [] each = refl
texts_from asker files before [] (answer ∷ answers) each = absurd each
texts_from asker files before (call ∷ calls) [] each = absurd each
texts_from asker files before (call ∷ calls) (answer ∷ answers) each =
    let world = asking_world asker.materials files in
    let asked : List QuestionView = calls_questions world asker.settings before in
    let here : List QuestionView = call_questions world (call_in asker.settings call) in
    let rest : List QuestionView = calls_questions world asker.settings calls in
    ap (λ (x : List ℕ). x ++ texts_of answers) each.0.lines
    ∙ ap (λ (x : List ℕ). ask_lines (fresh asked here) ++ x)
    (texts_from asker files (before ++ call ∷ []) calls answers each.1 ∙ ap (λ (x : List QuestionView). ask_lines (fresh x rest)) (calls_more world asker.settings before call))
    ∙ sym (fresh_lines asked here rest)

pub texts_are : (asker : AskerView) (files : Files) (calls : List Entry) (answers : List AnswerView) → AreAnswered (AskedBy asker (Some files)) [] calls answers
    → texts_of answers ≡ Asks (asking_world asker.materials files) asker.settings calls
texts_are asker files calls answers each = texts_from asker files [] calls answers each

well_of : (asker : AskerView) (told : Option Files) (before : List Entry) (call : Entry) (answer : AnswerView) → AskedBy asker told before call answer → is_well answer ≡ true
well_of asker None before call answer is = ap found_well is
well_of asker (Some files) before call answer is = ap found_well is.sign

both_true : (a b : Bool) → a ≡ true → b ≡ true → (a && b) ≡ true
both_true true b first second = second
both_true false b first second = absurd (cc)

well_from : (asker : AskerView) (told : Option Files) (before calls : List Entry) (answers : List AnswerView) → AreAnswered (AskedBy asker told) before calls answers → all_well answers ≡ true
well_from asker told before [] [] each = refl
well_from asker told before [] (answer ∷ answers) each = absurd each
well_from asker told before (call ∷ calls) [] each = absurd each
well_from asker told before (call ∷ calls) (answer ∷ answers) each =
    both_true (is_well answer) (all_well answers) (well_of asker told before call answer each.0) (well_from asker told (before ++ call ∷ []) calls answers each.1)

pub all_are_well : (asker : AskerView) (told : Option Files) (calls : List Entry) (answers : List AnswerView) → AreAnswered (AskedBy asker told) [] calls answers → all_well answers ≡ true
all_are_well asker told calls answers each = well_from asker told [] calls answers each
