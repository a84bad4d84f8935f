-- What the drill answers (this project's own rule).
use Rattle.std.specs.Prelude.{◌≡◌, ◌⊎◌, ℕ, List, [], ◌++◌, Option, codes}
use Rattle.std.specs.Io.KnownBytes.{Appends}
use Rattle.call_log.specs.Entry.{Entry}
use Rattle.drill.specs.Summary.{summary}
use Rattle.drill.specs.Files.{FilesOf}
use Rattle.drill.specs.declared.files.DrillFiles.{DrillFiles}
use Rattle.log_rounds.specs.Answers.{Answers}
use Rattle.log_rounds.specs.Judge.{JudgeConfig}
use Rattle.log_rounds.specs.Rounds.{InEach, IsApart, IsCut, Legal, Round, calls_in, outcomes_in}
use Rattle.stir_drill.specs.Calls.{calls_of}
use Rattle.stir_drill.specs.World.{shelf}
use Rattle.stir_outside.specs.Count.{Rose}
use Rattle.stir_outside.specs.Ending.{memory_line}
use Rattle.stir_outside.specs.Held.{held_says}
use Rattle.stir_outside.specs.Told.{AppendsFront}
use Rattle.verify_rules.specs.World.{World}
use Rattle.verify_rules.specs.declared.settings.Settings.{Settings}
use Rattle.verify_service.specs.Causes.{NoneUnasked, NoneUnread}
use Rattle.call_judging.specs.Chains.{world_by}
use Rattle.verify_service.specs.declared.outcome.Outcome.{Outcome}

-- a PASSporT may be 60 seconds old and 5 ahead, the country is 1, and a national number has ten digits
abbrev pub drill_settings : Settings
drill_settings = record { local = record { country = codes "1"; national = 10 }; past = 60; future = 5 }

abbrev pub config_on : ℕ → JudgeConfig
config_on workers = record { settings = drill_settings; workers = workers }

-- the world of the drill: what its files say, and its shelf
abbrev pub world_of : DrillFiles → World
world_of files = world_by files.world shelf.files (held_says files.answers)

-- what may be answered to a call in it
abbrev pub AnswersIn : DrillFiles → Entry → Outcome → Type 0
AnswersIn files = Answers (world_of files) drill_settings

-- The calls of the drill were judged in rounds of 256 on so many workers, by what its files say, and none was set
-- aside.
pub record JudgedDrill (seed count workers : ℕ) (outcomes : List Outcome) : Type 0 where
  pub files : DrillFiles
  pub files_are : FilesOf seed count files
  pub rounds : List Round
  pub come : outcomes_in rounds ≡ outcomes
  pub cut : IsCut rounds
  pub calls : calls_in rounds ≡ calls_of seed count
  pub each : InEach (AnswersIn files) rounds
  pub legal : IsApart (config_on workers) (calls_in rounds) → Legal (AnswersIn files) (config_on workers) rounds
  pub read : NoneUnread outcomes
  pub asked : NoneUnasked outcomes

-- the summary of all calls of the drill
pub record IsSummary (seed count workers : ℕ) (text : List ℕ) : Type 0 where
  pub outcomes : List Outcome
  pub judged : JudgedDrill seed count workers outcomes
  pub says : text ≡ summary outcomes

-- nothing, or the summary
abbrev pub MaySumUp : ℕ → ℕ → ℕ → List ℕ → Type 0
MaySumUp seed count workers text = (text ≡ []) ⊎ IsSummary seed count workers text

-- ---- each status

-- 0: the summary was written
pub record WroteSummary (seed count workers : ℕ) (written written_now : Option (List ℕ)) : Type 0 where
  pub text : List ℕ
  pub is : IsSummary seed count workers text
  pub reported : Appends written written_now text

-- 4: the sink failed, and a prefix of what was to be written was written
pub record WroteFront (seed count workers : ℕ) (written written_now : Option (List ℕ))
    (faults faults_now : ℕ) : Type 0 where
  pub failed : Rose faults faults_now
  pub text : List ℕ
  pub may : MaySumUp seed count workers text
  pub end : List ℕ
  pub may_end : (end ≡ []) ⊎ (end ≡ memory_line)
  pub front : AppendsFront written written_now (text ++ end)

-- 6: memory ran out, and a line says so
pub record WroteShort (seed count workers : ℕ) (written written_now : Option (List ℕ)) : Type 0 where
  pub text : List ℕ
  pub may : MaySumUp seed count workers text
  pub reported : Appends written written_now (text ++ memory_line)

-- it is one of these, whatever came of the calls
pub record DrillRan (seed count workers : ℕ) (written written_now : Option (List ℕ))
    (faults faults_now status : ℕ) : Type 0 where
  pub known : (status ≡ 0) ⊎ ((status ≡ 4) ⊎ (status ≡ 6))
  pub done : status ≡ 0 → WroteSummary seed count workers written written_now
  pub sink_failed : status ≡ 4 → WroteFront seed count workers written written_now faults faults_now
  pub short : status ≡ 6 → WroteShort seed count workers written written_now
