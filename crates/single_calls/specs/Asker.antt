-- What may be asked for a call, by the files that a shelf tells and the calls before it.
use Rattle.std.specs.Prelude.{◌≡◌, ⊤, ℕ, List, take, Option, Some, None}
use Rattle.std.specs.List.{slice_get}
use Rattle.call_log.specs.Entry.{Entry}
use Rattle.log_run.specs.Batch.{Batch, calls_in}
use Rattle.cert_store.specs.ChainMap.{listed}
use Rattle.stir_outside.specs.Files.{Files}
use Rattle.verify_rules.specs.Call.{Reading, in_call_order}
use Rattle.verify_rules.specs.Rules.{early_rules, first}
use Rattle.verify_rules.specs.World.{World, truths}
use Rattle.verify_rules.specs.declared.settings.Settings.{Settings}
use Rattle.call_judging.specs.Chains.{world_by}
use Rattle.verify_service.specs.Judging.{call_in}
use Rattle.cert_store.specs.declared.world.World.{World as Materials}
use Rattle.call_judging.specs.AlwaysYes.{always_yes}
use Rattle.single_calls.specs.Answer.{AnswerView, Well}
use Rattle.call_judging.specs.AskLines.{ask_lines}
use Rattle.single_calls.specs.Asks.{calls_questions, fresh}
use Rattle.call_judging.specs.CallQuestions.{call_questions, chains_questions}
use Rattle.single_calls.specs.Singly.{AnsweredSingly}
use Rattle.single_calls.specs.Written.{Holds}
use Rattle.single_calls.specs.declared.written.Triple.{Triple}

-- by what calls are judged, and which questions were asked
pub record AskerView : Type 0 where
  pub settings : Settings
  pub materials : Materials
  pub written : List Triple

-- what is judged by, with the files of a shelf, as if each signature were good
abbrev pub asking_world : Materials → Files → World
asking_world materials files = world_by materials files always_yes

-- ---- an answer

-- The lines of what is asked for this call, except for what was asked for the calls before.
pub record AsksOf (world : World) (settings : Settings) (before : List Entry) (entry : Entry)
    (answer : AnswerView) : Type 0 where
  pub sign : answer.finding ≡ Well
  pub lines : answer.text
      ≡ ask_lines (fresh (calls_questions world settings before) (call_questions world (call_in settings entry)))

-- by the files that a shelf tells
abbrev pub AskedBy : AskerView → Option Files → List Entry → Entry → AnswerView → Type 0
AskedBy asker None before entry answer = answer.finding ≡ Well
AskedBy asker (Some files) before entry answer =
    AsksOf (asking_world asker.materials files) asker.settings before entry answer

-- what was asked is what is asked for these calls
abbrev pub BehindAsked : AskerView → Option Files → List Entry → Type 0
BehindAsked asker None before = ⊤
BehindAsked asker (Some files) before =
    Holds asker.written (calls_questions (asking_world asker.materials files) asker.settings before)

-- what was asked for these batches was written, and nothing else of what asks changed
pub record AskedBatches (asker now : AskerView) (told : Option Files) (faults faults_now : ℕ)
    (batches : List Batch) : Type 0 where
  pub so : AnsweredSingly (AskedBy asker told) faults faults_now batches
  pub asked : BehindAsked now told (calls_in batches)
  pub same : now ≡ record asker { written = now.written }

-- ---- a stop

-- The call breaks none of the rules of the call; the file is listed for a PASSporT of it; and the lines are those of
-- what is asked for the chains of the PASSporTs before.
pub record StopsAt (world : World) (settings : Settings) (before : List Entry) (entry : Entry)
    (text name : List ℕ) : Type 0 where
  pub early : first early_rules (call_in settings entry) ≡ None
  pub at : ℕ
  pub here : Reading
  pub is : slice_get (in_call_order (call_in settings entry)) at ≡ Some here
  pub named : listed world.chains here.passport.x5u ≡ Some name
  pub lines : text ≡ ask_lines (fresh (calls_questions world settings before)
      (chains_questions (truths world (take at (in_call_order (call_in settings entry))))))

-- the chain map names the file
abbrev pub IsNamed : Materials → List ℕ → Type 0
IsNamed materials name = (x5u : List ℕ) × (listed materials.chains x5u ≡ Some name)

abbrev pub StopsAsking : AskerView → Option Files → List Entry → Entry → List ℕ → List ℕ → Type 0
StopsAsking asker None before entry text name = IsNamed asker.materials name
StopsAsking asker (Some files) before entry text name =
    StopsAt (asking_world asker.materials files) asker.settings before entry text name
