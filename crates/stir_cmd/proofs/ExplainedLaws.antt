-- What was written for the words of `explain` and of `ask`, in the words of the rules.
use Rattle.std.proofs.Common.{◌≡◌, ℕ, ◌+◌, ◌<◌, inl, inr, true, List, [], ◌∷◌, ◌++◌, Option, Some, None, IfSome, refl, ◌∙◌, ap, subst, arith, append-nil}
use Rattle.std.specs.Io.KnownBytes.{Appends}
use Rattle.call_log.specs.Entry.{Entry}
use Rattle.call_log.specs.Log.{LogText, start}
use Rattle.log_run.specs.Batch.{Batch, calls_in, texts_in}
use Rattle.single_calls.specs.Answer.{AnswerView, all_well, found_unread, texts_of, unread_in}
use Rattle.single_calls.specs.Answering.{AreAnswered}
use Rattle.log_run.specs.Ending.{report_status}
use Rattle.log_run.specs.Words.{DoneReport, Words}
use Rattle.single_calls.specs.Asker.{AskedBy, AskerView, StopsAsking, asking_world}
use Rattle.single_calls.specs.Asks.{Asks}
use Rattle.single_calls.specs.Explainer.{ExplainedBy, Explains, IsExplained, NeverStops}
use Rattle.cert_store.specs.declared.world.World.{World as WorldRead}
use Rattle.stir_files.specs.declared.materials.Materials.{Materials}
use Rattle.stir_outside.specs.Count.{AtMost, last_count}
use Rattle.stir_outside.specs.Files.{Files}
use Rattle.stir_words.specs.Order.{AskingView, JudgingView}
use Rattle.verify_rules.specs.World.{World}
use Rattle.verify_rules.specs.declared.settings.Settings.{Settings}
use Rattle.stir_cmd.specs.Outside.{IfTold, Outside}
use Rattle.stir_cmd.specs.Calls.{settings_by, world_by}
use Rattle.stir_cmd.specs.Explained.{AskedLog, EachCall, ExplainedLog, ask_course, ask_over, asker_by, explain_course, explain_over, explainer_by}
use Rattle.stir_cmd.specs.OverLog.{log_in}
use Rattle.stir_cmd.specs.Singly.{answering_words}
use Rattle.stir_cmd.proofs.Keeps.{KeepsAll}
use Rattle.stir_cmd.proofs.OverFilesLaws.{over_keeps}
use Rattle.stir_cmd.proofs.SinglyLaws.{keeps}

-- ---- each call by itself

each_of : (P : Entry → AnswerView → Type 0) (first calls : List Entry) (answers : List AnswerView) → AreAnswered (λ before. P) first calls answers → EachCall P calls answers
each_of P first [] [] a = tt
each_of P first [] (answer ∷ answers) a = absurd a
each_of P first (call ∷ calls) [] a = absurd a
each_of P first (call ∷ calls) (answer ∷ answers) a = (a.0, each_of P (first ++ call ∷ []) calls answers a.1)

none_unread : (first others faults faults_now : ℕ) → AtMost (first + others) faults faults_now → faults_now ≡ faults → faults < last_count → (first ≡ 0) × AtMost others faults faults_now
none_unread first others faults faults_now (inl most) same below = (omega (arith, most, same), inl (omega (arith, most)))
none_unread first others faults faults_now (inr full) same below = absurd (omega (arith, full, same, below))

-- an explanation without a line `unread` is one of the rules
explains : (world : World) (settings : Settings) (call : Entry) (answer : AnswerView) → IsExplained world settings call answer → found_unread answer.finding ≡ 0 → Explains world settings call answer
explains world settings call answer (inl e) none = e
explains world settings call answer (inr e) none = let one : found_unread answer.finding ≡ 1 = ap found_unread e.sign in absurd (omega (arith, one, none))

each_explains : (world : World) (settings : Settings) (calls : List Entry) (answers : List AnswerView) (faults faults_now : ℕ) → EachCall (IsExplained world settings) calls answers → AtMost (unread_in answers) faults faults_now
    → faults_now ≡ faults → faults < last_count → EachCall (Explains world settings) calls answers
each_explains world settings [] [] faults faults_now each most same below = tt
each_explains world settings [] (answer ∷ answers) faults faults_now each most same below = absurd each
each_explains world settings (call ∷ calls) [] faults faults_now each most same below = absurd each
each_explains world settings (call ∷ calls) (answer ∷ answers) faults faults_now each most same below =
    let none = none_unread (found_unread answer.finding) (unread_in answers) faults faults_now most same below in
    (explains world settings call answer each.0 none.0, each_explains world settings calls answers faults faults_now each.1 none.1 same below)

-- the lines of the calls, which nothing closes
whole_lines : (batches : List Batch) (answers : List AnswerView) (text : List ℕ) → texts_in batches ≡ texts_of answers → text ≡ [] → texts_in batches ++ text ≡ texts_of answers
whole_lines batches answers text texts none = ap (λ t. texts_in batches ++ t) none ∙ append-nil (texts_in batches) ∙ texts

-- ---- explain

abbrev explain_words : Settings → Materials → Outside → Outside → Words
explain_words settings materials = answering_words (ExplainedBy (explainer_by settings materials)) (NeverStops (explainer_by settings materials))

explained_told : (settings : Settings) (materials : Materials) (before now : Outside) (status : ℕ) (files : Option Files) (left : Option (List ℕ))
    → before.files ≡ files → (done : DoneReport (explain_words settings materials before now) (start 0 0) (log_in before) (log_in now) status)
    → IfSome left (λ bytes. LogText (start 0 0) bytes (calls_in done.batches) [])
    → IfTold files left (λ told bytes. ExplainedLog settings materials told bytes before now status)
explained_told settings materials before now status None left same done log = tt
explained_told settings materials before now status (Some files) None same done log = tt
explained_told settings materials before now status (Some files) (Some bytes) same done log =
    let world = world_by materials files in
    let known = done.answered.known in
    let each = each_of (IsExplained world settings) [] (calls_in done.batches) known.answers
    (subst (λ (x : Option Files). AreAnswered (ExplainedBy (explainer_by settings materials) x) [] (calls_in done.batches) known.answers) same known.each) in
    record {
      calls = calls_in done.batches;
      answers = known.answers;
      log = log;
      each = each;
      unread = known.unread;
      quiet = λ still below. each_explains world settings (calls_in done.batches) known.answers before.counts.faults now.counts.faults each known.unread still below;
      reported = subst (Appends before.written now.written) (whole_lines done.batches known.answers done.text known.texts done.closes) done.reported;
      said = done.said ∙ ap report_status known.well;
    }

pub explain_keeps : (judging : JudgingView) → KeepsAll (explain_course judging)
explain_keeps judging =
    let settings = settings_by judging.settings in
    over_keeps (explain_over judging) (λ materials. keeps _ _ _ (λ before now status ran low. explained_told settings materials before now status before.files before.left refl (ran.done low) (ran.done low).log))

-- ---- ask

-- what is asked call by call is what is asked for the log, and nothing is wrong with any call of it
abbrev pub TextsLaw : Type 0
TextsLaw = (asker : AskerView) (files : Files) (calls : List Entry) (answers : List AnswerView) → AreAnswered (AskedBy asker (Some files)) [] calls answers
    → texts_of answers ≡ Asks (asking_world asker.materials files) asker.settings calls

abbrev pub WellLaw : Type 0
WellLaw = (asker : AskerView) (told : Option Files) (calls : List Entry) (answers : List AnswerView) → AreAnswered (AskedBy asker told) [] calls answers → all_well answers ≡ true

abbrev ask_words : Settings → WorldRead → Outside → Outside → Words
ask_words settings world = answering_words (AskedBy (asker_by settings world)) (StopsAsking (asker_by settings world))

asked_told : TextsLaw → (settings : Settings) (world : WorldRead) (before now : Outside) (status : ℕ) (files : Option Files) (left : Option (List ℕ))
    → before.files ≡ files → (done : DoneReport (ask_words settings world before now) (start 0 0) (log_in before) (log_in now) status)
    → IfSome left (λ bytes. LogText (start 0 0) bytes (calls_in done.batches) [])
    → IfTold files left (λ told bytes. AskedLog settings world told bytes before now)
asked_told texts settings world before now status None left same done log = tt
asked_told texts settings world before now status (Some files) None same done log = tt
asked_told texts settings world before now status (Some files) (Some bytes) same done log =
    let known = done.answered.known in
    let each = subst (λ (x : Option Files). AreAnswered (AskedBy (asker_by settings world) x) [] (calls_in done.batches) known.answers) same known.each in
    record {
      calls = calls_in done.batches;
      log = log;
      reported = subst (Appends before.written now.written)
          (whole_lines done.batches known.answers done.text known.texts done.closes ∙ texts (asker_by settings world) files (calls_in done.batches) known.answers each) done.reported;
    }

pub ask_keeps : TextsLaw → WellLaw → (words : AskingView) → KeepsAll (ask_course words)
ask_keeps texts well words =
    let settings = settings_by words.settings in
    over_keeps (ask_over words) (λ world. keeps _ _ _ (λ before now status ran low.
    let done = ran.done low in
    let known = done.answered.known in (
      done.said ∙ ap report_status (known.well ∙ well (asker_by settings world) before.files (calls_in done.batches) known.answers known.each),
      asked_told texts settings world before now status before.files before.left refl (ran.done low) (ran.done low).log,
    )))
