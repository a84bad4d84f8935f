-- What comes of a message at the gateway, over the files of a shelf and the answers of a provider.
use Rattle.std.specs.Prelude.{◌≡◌, ⊤, ◌⊎◌, ℕ, false, List, length, Option, Some, None, Result, Err, IfErr, IfOk}
use Rattle.std.specs.List.{list_any}
use Rattle.cert_store.specs.declared.world.World.{World as Materials}
use Rattle.stir_outside.specs.Count.{Rose}
use Rattle.stir_outside.specs.Files.{Files}
use Rattle.stir_outside.specs.Held.{Held, held_says, held_signs}
use Rattle.tn_auth_list.specs.declared.entries.Entry.{Entry}
use Rattle.auth_service.specs.Order.{HolderView}
use Rattle.verify_rules.specs.Call.{Call, Reading, call_of, in_call_order}
use Rattle.verify_rules.specs.Rules.{early_rules, first}
use Rattle.verify_rules.specs.States.{State}
use Rattle.verify_rules.specs.declared.refusal.Refusal.{Refusal}
use Rattle.verify_rules.specs.declared.settings.Settings.{Settings}
use Rattle.verify_rules.specs.declared.verdict.Verdict.{Verdict}
use Rattle.verify_rules.specs.declared.verdict.Verdict.TheVariants as verdicts
use Rattle.call_judging.specs.Causes.{HasCauseIf}
use Rattle.call_judging.specs.Chains.{AreRightWhere, is_unasked, is_unread}
use Rattle.retarget.specs.Hop.{HopView}
use Rattle.retarget.specs.NextHop.{BreaksNone}
use Rattle.retarget.specs.Outcome.{IsRetargeted, TellsOfDiversion}
use Rattle.retarget.specs.Promise.{CausedOnward, GivesOnward}
use Rattle.retarget.specs.Verdicts.{IsFinished, NamesNoPass, verdict_of}
use Rattle.retarget.specs.declared.fault.HopFault.{HopFault}
use Rattle.retarget.specs.declared.fault.HopFault.TheVariants as faults
use Rattle.stir_cmd.specs.declared.sending.Place.{Place}

-- by what calls are judged, what the answers say, the entries of the holder's list, the settings, and the moment at
-- which the message came
pub record PlaceView : Type 0 where
  pub materials : Materials
  pub answers : Held
  pub entries : List Entry
  pub settings : Settings
  pub moment : ℕ

abbrev pub place_of : Place → PlaceView
place_of place = record {
  materials = place.world.now;
  answers = place.answers.now;
  entries = place.list.now;
  settings = place.settings;
  moment = place.moment;
}

abbrev pub call_at : PlaceView → List ℕ → Call
call_at place bytes = call_of place.settings place.moment bytes

abbrev pub holder_at : PlaceView → HolderView
holder_at place = record { entries = place.entries; table = place.materials.table }

-- the rules of the call refuse the bytes, and so it is answered
pub record IsScreenedOut {X : Type 0} (place : PlaceView) (bytes : List ℕ) (result : Result X HopFault) : Type 0 where
  pub refused : Refusal
  pub first : first early_rules (call_at place bytes) ≡ Some refused
  pub answer : result ≡ Err (faults.Verdict (verdicts.Refused refused))

-- what the gateway promises of its answer over these chain states
pub record IsAnswerOf {X : Type 0} (place : PlaceView) (hop : HopView) (bytes : List ℕ) (readings : List Reading)
    (states : List State) (seen : X → List ℕ) (result : Result X HopFault) : Type 0 where
  pub finished : IsFinished (held_says place.answers) place.materials.table place.moment readings
      states 0 0 (verdict_of result)
  pub no_pass : IfErr result NamesNoPass
  pub exact : GivesOnward seen bytes readings hop (holder_at place) (held_signs place.answers) result
  pub written : IfOk result
      (λ out. IsRetargeted bytes readings hop (holder_at place) (held_signs place.answers) (seen out))
  pub causes : IfErr result
      (λ fault. CausedOnward bytes readings hop (holder_at place) (held_signs place.answers) fault)
  pub next : IfOk result (λ out. BreaksNone (seen out) hop (holder_at place) (held_says place.answers) readings states)
  pub link : IfOk result (λ out. TellsOfDiversion bytes readings hop (seen out))

-- they refuse nothing; and this is the gateway's answer over chain states, each of which is right over the files that
-- the shelf tells. One is unknown only if a read of the shelf failed, and was counted
pub record IsOverChains {X : Type 0} (place : PlaceView) (told : Option Files) (faults_before faults_now : ℕ)
    (hop : HopView) (bytes : List ℕ) (seen : X → List ℕ) (result : Result X HopFault) : Type 0 where
  pub early : ◌≡◌ {A = Option Refusal} (first early_rules (call_at place bytes)) None
  pub states : List State
  pub counted : length states ≡ length (in_call_order (call_at place bytes))
  pub right : AreRightWhere told place.materials (held_says place.answers) (in_call_order (call_at place bytes)) states
  pub unread : HasCauseIf (list_any is_unread states) faults_before faults_now
  pub answered : list_any is_unasked states ≡ false
  pub answer : IsAnswerOf place hop bytes (in_call_order (call_at place bytes)) states seen result

-- of bytes of which the rules of the call hold: the answer of the gateway, or out of memory
abbrev pub IsSentScreened : {X : Type 0} → PlaceView → Option Files → ℕ → ℕ → HopView → List ℕ → (X → List ℕ)
    → Result X HopFault → Type 0
IsSentScreened place told faults_before faults_now hop bytes seen result =
    IsOverChains place told faults_before faults_now hop bytes seen result ⊎ (result ≡ Err faults.Memory)

-- the answer of the rules, that of the gateway, or out of memory
abbrev pub IsSentOn : {X : Type 0} → PlaceView → Option Files → ℕ → ℕ → HopView → List ℕ → (X → List ℕ)
    → Result X HopFault → Type 0
IsSentOn place told faults_before faults_now hop bytes seen result =
    IsScreenedOut place bytes result ⊎ IsSentScreened place told faults_before faults_now hop bytes seen result

-- ---- the faults that come

-- a call that passed is no fault, and no question is left open, since the provider of an answers file never fails; and
-- a chain is unknown only if a read of the shelf failed, and was counted
abbrev pub MayBe : ℕ → ℕ → Verdict → Type 0
MayBe faults_before faults_now verdicts.Passed = ⊥
MayBe faults_before faults_now (verdicts.Refused refused) = ⊤
MayBe faults_before faults_now (verdicts.Unread bad) = Rose faults_before faults_now
MayBe faults_before faults_now (verdicts.Unasked bad) = ⊥

-- nor does the provider fail at the signature
abbrev pub MayCome : ℕ → ℕ → HopFault → Type 0
MayCome faults_before faults_now (faults.Verdict verdict) = MayBe faults_before faults_now verdict
MayCome faults_before faults_now faults.Target = ⊤
MayCome faults_before faults_now faults.Loop = ⊤
MayCome faults_before faults_now faults.Full = ⊤
MayCome faults_before faults_now faults.Size = ⊤
MayCome faults_before faults_now faults.Authority = ⊤
MayCome faults_before faults_now (faults.NoSignature digest) = ⊤
MayCome faults_before faults_now faults.Provider = ⊥
MayCome faults_before faults_now faults.Memory = ⊤
