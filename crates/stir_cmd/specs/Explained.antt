-- The commands `explain` and `ask`. If shelf and input are told, what was written is what is explained of each call of
-- the log, or what is asked for all of them.
use Rattle.std.specs.Prelude.{◌≡◌, ℕ, ◌<◌, List, [], ◌∷◌}
use Rattle.std.specs.Io.KnownBytes.{Appends}
use Rattle.call_log.specs.Entry.{Entry}
use Rattle.call_log.specs.Log.{LogText, start}
use Rattle.single_calls.specs.Answer.{AnswerView, all_well, texts_of, unread_in}
use Rattle.log_run.specs.Ending.{report_status}
use Rattle.single_calls.specs.Asker.{AskedBy, AskerView, StopsAsking, asking_world}
use Rattle.single_calls.specs.Asks.{Asks}
use Rattle.single_calls.specs.Explainer.{ExplainedBy, ExplainerView, Explains, IsExplained, NeverStops}
use Rattle.stir_files.specs.World.{WorldOf, world_files}
use Rattle.stir_files.specs.Materials.{MaterialsOf, files_of}
use Rattle.cert_store.specs.declared.world.World.{World}
use Rattle.stir_files.specs.declared.materials.Materials.{Materials}
use Rattle.stir_outside.specs.Count.{AtMost, last_count}
use Rattle.stir_outside.specs.Files.{Files}
use Rattle.stir_words.specs.Order.{AskingView, JudgingView}
use Rattle.verify_rules.specs.declared.settings.Settings.{Settings}
use Rattle.stir_cmd.specs.Outside.{IfTold, Outside}
use Rattle.stir_cmd.specs.Calls.{settings_by, world_by}
use Rattle.stir_cmd.specs.Course.{Course}
use Rattle.stir_cmd.specs.OverFiles.{OverFiles, over_files}
use Rattle.stir_cmd.specs.Singly.{answering_course}

-- ---- explain

-- what explains calls by what was read of four files
abbrev pub explainer_by : Settings → Materials → ExplainerView
explainer_by settings materials = record {
  settings = settings;
  materials = materials.world;
  answers = materials.answers;
}

-- it holds of each call and its answer, one for each call
abbrev pub EachCall : (Entry → AnswerView → Type 0) → List Entry → List AnswerView → Type 0
EachCall P [] [] = Unit {0}
EachCall P [] (answer ∷ answers) = ⊥
EachCall P (call ∷ calls) [] = ⊥
EachCall P (call ∷ calls) (answer ∷ answers) = P call answer × EachCall P calls answers

-- The bytes are a whole log. Each of its calls is explained by what the files say, up to the first rule that it breaks.
-- These lines were written, and nothing else, and the status says whether each line is `ok`. At a PASSporT whose file
-- couldn't be read a line may say `unread`: at most as often as the shelf's failed reads rose, and not at all if these
-- stayed as they were, below their last value.
pub record ExplainedLog (settings : Settings) (materials : Materials) (files : Files) (bytes : List ℕ)
    (before now : Outside) (status : ℕ) : Type 0 where
  pub calls : List Entry
  pub answers : List AnswerView
  pub log : LogText (start 0 0) bytes calls []
  pub each : EachCall (IsExplained (world_by materials files) settings) calls answers
  pub unread : AtMost (unread_in answers) before.counts.faults now.counts.faults
  pub quiet : now.counts.faults ≡ before.counts.faults → before.counts.faults < last_count
      → EachCall (Explains (world_by materials files) settings) calls answers
  pub reported : Appends before.written now.written (texts_of answers)
  pub said : status ≡ report_status (all_well answers)

abbrev pub explain_over : JudgingView → OverFiles
explain_over judging = record {
  named = files_of judging;
  Read = Materials;
  Stands = λ files materials. MaterialsOf files judging materials;
  course = λ materials. let settings = settings_by judging.settings in
      answering_course (ExplainedBy (explainer_by settings materials)) (NeverStops (explainer_by settings materials))
      (λ before now status.
      IfTold before.files before.left (λ files bytes. ExplainedLog settings materials files bytes before now status));
}

abbrev pub explain_course : JudgingView → Course
explain_course judging = over_files (explain_over judging)

-- ---- ask

-- what asks by what was read of three files, and has asked nothing
abbrev pub asker_by : Settings → World → AskerView
asker_by settings world = record {
  settings = settings;
  materials = record { chains = world.chains; anchors = world.anchors; table = world.table };
  written = [];
}

-- The bytes are a whole log; and the lines of what is asked for its calls, each once, were written, and nothing else.
pub record AskedLog (settings : Settings) (world : World) (files : Files) (bytes : List ℕ)
    (before now : Outside) : Type 0 where
  pub calls : List Entry
  pub log : LogText (start 0 0) bytes calls []
  pub reported : Appends before.written now.written
      (Asks (asking_world (asker_by settings world).materials files) settings calls)

abbrev pub ask_over : AskingView → OverFiles
ask_over words = record {
  named = world_files words;
  Read = World;
  Stands = λ files world. WorldOf files words world;
  course = λ world. let settings = settings_by words.settings in
      answering_course (AskedBy (asker_by settings world)) (StopsAsking (asker_by settings world)) (λ before now status.
      (status ≡ 0) × IfTold before.files before.left (λ files bytes. AskedLog settings world files bytes before now));
}

abbrev pub ask_course : AskingView → Course
ask_course words = over_files (ask_over words)
