-- What reading and asking for the chains of a call gives.
use Rattle.std.specs.Prelude.{◌≡◌, ⊤, ℕ, false, List, take, length, Option, Some, None}
use Rattle.std.specs.List.{list_any, slice_get}
use Rattle.std.specs.String.{string_bytes}
use Rattle.cert_store.specs.ChainMap.{listed}
use Rattle.stir_outside.specs.Count.{Rose}
use Rattle.stir_outside.specs.Files.{Files}
use Rattle.verify_rules.specs.Call.{Call, Reading, in_call_order}
use Rattle.verify_rules.specs.Rules.{early_rules, first}
use Rattle.verify_rules.specs.States.{State}
use Rattle.verify_rules.specs.World.{truths}
use Rattle.call_judging.specs.Chains.{AreRightWhere, is_unread}
use Rattle.cert_store.specs.declared.world.World.{World as Materials}
use Rattle.call_judging.specs.AlwaysYes.{always_yes}
use Rattle.single_calls.specs.Asker.{asking_world}
use Rattle.call_judging.specs.CallQuestions.{call_questions, chains_questions}
use Rattle.single_calls.specs.Written.{Writes}
use Rattle.single_calls.specs.declared.reading.ChainError.{ChainError}
use Rattle.single_calls.specs.declared.reading.ChainError.TheVariants.{Unread, Memory}
use Rattle.single_calls.specs.declared.written.Triple.{Triple}

-- which questions are kept as written, and the lines so far
pub record Lines : Type 0 where
  pub held : List Triple
  pub text : List ℕ

abbrev pub lines : List Triple → List ℕ → Lines
lines held text = record { held = held; text = text }

-- ---- chains

-- The chains of the first PASSporTs are known; each is right over the files that a shelf tells; and the lines of their
-- questions were written.
pub record AreAsked (told : Option Files) (materials : Materials) (readings : List Reading) (before now : Lines)
    (states : List State) : Type 0 where
  pub right : AreRightWhere told materials always_yes (take (length states) readings) states
  pub known : list_any is_unread states ≡ false
  pub writes : Writes before.held now.held before.text now.text (chains_questions states)

-- The file that is listed for a PASSporT couldn't be read, and those before it were asked for; out of memory is free.
pub record StoppedAt (told : Option Files) (materials : Materials) (readings : List Reading) (before now : Lines)
    (name : List ℕ) : Type 0 where
  pub states : List State
  pub asked : AreAsked told materials readings before now states
  pub here : Reading
  pub is : slice_get readings (length states) ≡ Some here
  pub named : listed materials.chains here.passport.x5u ≡ Some name

abbrev pub Stopped : Option Files → Materials → List Reading → Lines → Lines → ℕ → ℕ → ChainError → Type 0
Stopped told materials readings before now faults faults_now (Unread name) =
    StoppedAt told materials readings before now (string_bytes name) × Rose faults faults_now
Stopped told materials readings before now faults faults_now Memory = ⊤

-- one chain couldn't be had: its file is the one of this name
abbrev pub StopsFor : Materials → List ℕ → ℕ → ℕ → ChainError → Type 0
StopsFor materials x5u faults faults_now (Unread name) =
    (listed materials.chains x5u ≡ Some (string_bytes name)) × Rose faults faults_now
StopsFor materials x5u faults faults_now Memory = ⊤

-- the stop names this file
abbrev pub IsNamed : List ℕ → ChainError → Type 0
IsNamed name (Unread text) = string_bytes text ≡ name
IsNamed name Memory = ⊤

-- ---- a call

-- the lines of what is asked for the call were written, over the files that a shelf tells
abbrev pub WritesCall : Option Files → Materials → Call → Lines → Lines → Type 0
WritesCall None materials call before now = ⊤
WritesCall (Some files) materials call before now =
    Writes before.held now.held before.text now.text (call_questions (asking_world materials files) call)

-- a chain of the call stops it, and the lines of what is asked for those before were written
pub record StopsOver (materials : Materials) (files : Files) (call : Call) (before now : Lines)
    (name : List ℕ) : Type 0 where
  pub early : first early_rules call ≡ None
  pub at : ℕ
  pub here : Reading
  pub is : slice_get (in_call_order call) at ≡ Some here
  pub named : listed materials.chains here.passport.x5u ≡ Some name
  pub writes : Writes before.held now.held before.text now.text
      (chains_questions (truths (asking_world materials files) (take at (in_call_order call))))

abbrev pub StopsCallAt : Option Files → Materials → Call → Lines → Lines → List ℕ → Type 0
StopsCallAt None materials call before now name = (x5u : List ℕ) × (listed materials.chains x5u ≡ Some name)
StopsCallAt (Some files) materials call before now name = StopsOver materials files call before now name

abbrev pub StopsCall : Option Files → Materials → Call → Lines → Lines → ℕ → ℕ → ChainError → Type 0
StopsCall told materials call before now faults faults_now (Unread name) =
    StopsCallAt told materials call before now (string_bytes name) × Rose faults faults_now
StopsCall told materials call before now faults faults_now Memory = ⊤
