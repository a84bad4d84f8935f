-- The command `retarget`: what it answers to a message.
use Rattle.std.specs.Prelude.{unwrap_or, ◌≡◌, ⊤, ℕ, ◌⊎◌, Bool, true, false, List, [], ◌++◌, codes, is_some, Option}
use Rattle.std.specs.Prelude.{Some, Ok, Err}
use Rattle.stir_outside.specs.Files.{Files}
use Rattle.stir_files.specs.Retargeting.{RetargetingOf, retargeting_files}
use Rattle.stir_files.specs.declared.retargeting.RetargetingMaterials.{RetargetingMaterials}
use Rattle.stir_words.specs.Order.{RetargetingView}
use Rattle.x509_profile.specs.View.{CertView}
use Rattle.cert_store.specs.declared.world.World.{World}
use Rattle.stir_outside.specs.Held.{Held}
use Rattle.verify_rules.specs.Rules.{early_rules, first}
use Rattle.verify_rules.specs.declared.refusal.Refusal.{Refusal}
use Rattle.verify_rules.specs.declared.verdict.Verdict.{Verdict}
use Rattle.verify_rules.specs.declared.verdict.Verdict.TheVariants as verdicts
use Rattle.verify_service.specs.Report.{said_text}
use Rattle.verify_service.specs.declared.outcome.Outcome.TheVariants as outcomes
use Rattle.retarget.specs.Hop.{HopView}
use Rattle.retarget.specs.declared.fault.HopFault.{HopFault}
use Rattle.retarget.specs.declared.fault.HopFault.TheVariants as faults
use Rattle.stir_cmd.specs.Sending.{IsOverChains, MayCome, PlaceView, call_at}
use Rattle.stir_cmd.specs.Calls.{settings_by}
use Rattle.stir_cmd.specs.Course.{Course}
use Rattle.stir_cmd.specs.Input.{Answering, answering_by, shelf_course}
use Rattle.stir_cmd.specs.OverFiles.{OverFiles, over_files}
use Rattle.stir_cmd.specs.Signing.{unsigned_line}

-- ---- what is ordered

-- where the call goes on, and by which key and certificate its diversion is signed
abbrev pub hop_by : RetargetingView → HopView
hop_by words = record {
  target = words.target;
  key = words.key;
  x5u = words.x5u;
  iat = words.iat;
  local = words.judging.settings.local;
}

-- by what a call is judged, what the answers say, the list of the holder's certificate, the settings and the moment of
-- the words
abbrev pub place_with : RetargetingView → World → Held → CertView → PlaceView
place_with words world answers leaf = record {
  materials = world;
  answers = answers;
  entries = unwrap_or leaf.list [];
  settings = settings_by words.judging.settings;
  moment = words.moment;
}

-- the same, by what was read of five files
abbrev pub place_by : RetargetingView → RetargetingMaterials → PlaceView
place_by words materials =
    place_with words materials.judging.world materials.judging.answers materials.leaf

-- the certificate of the holder has a list
abbrev pub IsListed : RetargetingMaterials → Type 0
IsListed materials = is_some materials.leaf.list ≡ true

-- ---- what is written

-- the line of a refused call, and that of one with a PASSporT whose chain couldn't be read; no other verdict comes here
abbrev pub verdict_line : Verdict → List ℕ
verdict_line verdicts.Passed = []
verdict_line (verdicts.Refused refused) = said_text (outcomes.Refused refused) ++ codes "\n"
verdict_line (verdicts.Unread bad) = said_text (outcomes.Unread bad) ++ codes "\n"
verdict_line (verdicts.Unasked bad) = []

-- the line of a fault; those of the provider and of memory don't come here
abbrev pub hop_line : List ℕ → HopFault → List ℕ
hop_line key (faults.Verdict verdict) = verdict_line verdict
hop_line key faults.Target = codes "hop fault 21\n"
hop_line key faults.Loop = codes "hop fault 22\n"
hop_line key faults.Full = codes "hop fault 23\n"
hop_line key faults.Size = codes "hop fault 24\n"
hop_line key faults.Authority = codes "hop fault 25\n"
hop_line key (faults.NoSignature digest) = unsigned_line key digest
hop_line key faults.Provider = []
hop_line key faults.Memory = []

-- a message is too long: that is rule 1, at the first byte that is too many
abbrev pub too_long_line : List ℕ
too_long_line = codes "refused 400 1 0.65535\n"

-- the faults that are answered by a line, or as memory that ran out
abbrev pub HasVerdictLine : Verdict → Type 0
HasVerdictLine verdicts.Passed = ⊥
HasVerdictLine (verdicts.Refused refused) = ⊤
HasVerdictLine (verdicts.Unread bad) = ⊤
HasVerdictLine (verdicts.Unasked bad) = ⊥

abbrev pub HasHopLine : HopFault → Type 0
HasHopLine (faults.Verdict verdict) = HasVerdictLine verdict
HasHopLine faults.Target = ⊤
HasHopLine faults.Loop = ⊤
HasHopLine faults.Full = ⊤
HasHopLine faults.Size = ⊤
HasHopLine faults.Authority = ⊤
HasHopLine (faults.NoSignature digest) = ⊤
HasHopLine faults.Provider = ⊥
HasHopLine faults.Memory = ⊤

abbrev pub is_wanting : HopFault → Bool
is_wanting (faults.Verdict verdict) = false
is_wanting faults.Target = false
is_wanting faults.Loop = false
is_wanting faults.Full = false
is_wanting faults.Size = false
is_wanting faults.Authority = false
is_wanting (faults.NoSignature digest) = false
is_wanting faults.Provider = false
is_wanting faults.Memory = true

-- a fault is answered so
pub record HeldFor (key : List ℕ) (fault : HopFault) (text : List ℕ) (status : ℕ) : Type 0 where
  pub no_memory : is_wanting fault ≡ false
  pub line : text ≡ hop_line key fault
  pub said : status ≡ 1

-- ---- what the command answers to a message

-- The rules of the call refuse the bytes, and the line of that is written.
pub record ScreensOut (place : PlaceView) (bytes text : List ℕ) (status : ℕ) : Type 0 where
  pub said : status ≡ 1
  pub refused : Refusal
  pub first : first early_rules (call_at place bytes) ≡ Some refused
  pub line : text ≡ verdict_line (verdicts.Refused refused)

-- They refuse nothing, the gateway sends the message on over the chains of its PASSporTs, and what goes on is written.
pub record SendsOn (place : PlaceView) (hop : HopView) (told : Option Files) (faults_before faults_now : ℕ)
    (bytes text : List ℕ) (status : ℕ) : Type 0 where
  pub said : status ≡ 0
  pub over : IsOverChains place told faults_before faults_now hop bytes (λ (out : List ℕ). out) (Ok text)

-- They refuse nothing, and the line of the gateway's fault is written.
pub record HoldsBack (place : PlaceView) (hop : HopView) (told : Option Files) (faults_before faults_now : ℕ)
    (bytes text : List ℕ) (status : ℕ) : Type 0 where
  pub said : status ≡ 1
  pub fault : HopFault
  pub no_memory : is_wanting fault ≡ false
  pub may : MayCome faults_before faults_now fault
  pub over : IsOverChains place told faults_before faults_now hop bytes (λ (out : List ℕ). out) (Err fault)
  pub line : text ≡ hop_line hop.key fault

-- over the files that the shelf tells, with its counts of failed reads before and after
abbrev pub GatewayGives : PlaceView → HopView → Option Files → ℕ → ℕ → List ℕ → List ℕ → ℕ → Type 0
GatewayGives place hop told faults_before faults_now bytes text status =
    ScreensOut place bytes text status ⊎ (SendsOn place hop told faults_before faults_now bytes text status
    ⊎ HoldsBack place hop told faults_before faults_now bytes text status)

abbrev pub GatewayRefuses : List ℕ → ℕ → Type 0
GatewayRefuses text status = (text ≡ too_long_line) × (status ≡ 1)

-- a message of at most 65,535 bytes
abbrev pub gateway_answering : PlaceView → HopView → Option Files → ℕ → ℕ → Answering
gateway_answering place hop told faults_before faults_now =
    answering_by 65535 (GatewayGives place hop told faults_before faults_now) GatewayRefuses

-- ---- the whole

abbrev pub gateway_over : RetargetingView → OverFiles
gateway_over words = record {
  named = retargeting_files words;
  Read = RetargetingMaterials;
  Stands = λ files materials. RetargetingOf files words materials;
  course = λ materials. shelf_course (λ before now.
      gateway_answering (place_by words materials) (hop_by words) before.files before.counts.faults now.counts.faults);
}

-- what `retarget` promises
abbrev pub gateway_course : RetargetingView → Course
gateway_course words = over_files (gateway_over words)
