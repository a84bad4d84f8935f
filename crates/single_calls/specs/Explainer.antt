-- What may be explained of a call, by the files that a shelf tells.
use Rattle.std.specs.Prelude.{◌≡◌, ⊤, ◌⊎◌, ℕ, List, Option, Some, None}
use Rattle.call_log.specs.Entry.{Entry}
use Rattle.log_run.specs.Batch.{Batch}
use Rattle.stir_outside.specs.Files.{Files}
use Rattle.stir_outside.specs.Held.{Held, held_says}
use Rattle.verify_rules.specs.World.{First, MayBeUnread, World}
use Rattle.verify_rules.specs.declared.refusal.Place.{Place}
use Rattle.verify_rules.specs.declared.refusal.Refusal.{Refusal}
use Rattle.verify_rules.specs.declared.settings.Settings.{Settings}
use Rattle.call_judging.specs.Chains.{world_by}
use Rattle.verify_service.specs.Judging.{call_in}
use Rattle.call_judging.specs.declared.finding.Finding.{Finding}
use Rattle.call_judging.specs.declared.finding.Finding.TheVariants as found
use Rattle.cert_store.specs.declared.world.World.{World as Materials}
use Rattle.single_calls.specs.Answer.{AnswerView, CallStatus, Well, Broken, Unread}
use Rattle.call_judging.specs.Explain.{Explain, explained, unread_text}
use Rattle.single_calls.specs.Singly.{AnsweredSingly}

-- by what calls are explained
pub record ExplainerView : Type 0 where
  pub settings : Settings
  pub materials : Materials
  pub answers : Held

-- ---- an explanation

abbrev pub status_of : Finding → CallStatus
status_of (found.Refused refused) = Broken
status_of (found.Unread bad) = Unread
status_of (found.Unasked bad) = Broken
status_of (found.Passes pass) = Well

-- of the call of this number, by what is found of it
abbrev pub explanation : ℕ → Finding → AnswerView
explanation number finding = record { text = explained number finding; finding = status_of finding }

-- whether a rule is broken
abbrev pub sign_by : Option Refusal → CallStatus
sign_by None = Well
sign_by (Some refused) = Broken

-- ---- what it says

-- The lines are those of the rules, and say whether one is broken.
pub record Explains (world : World) (settings : Settings) (entry : Entry) (answer : AnswerView) : Type 0 where
  pub lines : answer.text ≡ Explain world entry.number (call_in settings entry)
  pub sign : answer.finding ≡ sign_by (First world (call_in settings entry))

-- The call may be unread at this place, and the lines say so.
pub record ExplainsUnread (world : World) (settings : Settings) (entry : Entry) (answer : AnswerView) : Type 0 where
  pub bad : Place
  pub may_be : MayBeUnread world (call_in settings entry) bad
  pub lines : answer.text ≡ unread_text entry.number bad
  pub sign : answer.finding ≡ Unread

abbrev pub IsExplained : World → Settings → Entry → AnswerView → Type 0
IsExplained world settings entry answer =
    Explains world settings entry answer ⊎ ExplainsUnread world settings entry answer

-- whatever the files are, it is the explanation of something that may be found of a call
pub record IsOfFinding (entry : Entry) (answer : AnswerView) : Type 0 where
  pub finding : Finding
  pub is : answer ≡ explanation entry.number finding

-- by the files that a shelf tells
abbrev pub ExplainedBy : ExplainerView → Option Files → List Entry → Entry → AnswerView → Type 0
ExplainedBy explainer None before entry answer = IsOfFinding entry answer
ExplainedBy explainer (Some files) before entry answer =
    IsExplained (world_by explainer.materials files (held_says explainer.answers)) explainer.settings entry answer

-- any calls may have been explained before
abbrev pub BehindAny : List Entry → Type 0
BehindAny before = ⊤

-- no file stops the explanation of a call
abbrev pub NeverStops : ExplainerView → Option Files → List Entry → Entry → List ℕ → List ℕ → Type 0
NeverStops explainer told before entry text name = ⊥

-- these batches were explained, and by what calls are explained is the same
pub record ExplainedBatches (explainer now : ExplainerView) (told : Option Files) (faults faults_now : ℕ)
    (batches : List Batch) : Type 0 where
  pub so : AnsweredSingly (ExplainedBy explainer told) faults faults_now batches
  pub same : now ≡ explainer
