-- What the judge of a round answers for, apart from how it judges.
use Rattle.std.specs.Prelude.{◌≡◌, ℕ, ◌≤◌, ◌⊎◌, List, [], ◌∷◌, length}
use Rattle.call_log.specs.Entry.{Entry}
use Rattle.cert_store.specs.Files.{Files as ChainFiles}
use Rattle.replay_law.specs.Held.{Held}
use Rattle.replay_law.specs.Round.{RoundSettled, round_of}
use Rattle.replay_law.specs.Turn.{FirstWins}
use Rattle.stir_outside.specs.Count.{AtMost, NotRisen}
use Rattle.verify_rules.specs.declared.settings.Settings.{Settings}
use Rattle.verify_service.specs.Causes.{NoneUnasked, NoneUnread, unread_texts}
use Rattle.verify_service.specs.Judging.{EachPair}
use Rattle.verify_service.specs.Reads.{ReadsFew}
use Rattle.verify_service.specs.Rows.{IsOwed, rows_of}
use Rattle.verify_service.specs.Service.{last_moment_of, last_number}
use Rattle.verify_service.specs.declared.outcome.Outcome.{Outcome}

-- what stays from round to round: the settings by which calls are judged, and how many workers judge them
pub record JudgeConfig : Type 0 where
  pub settings : Settings
  pub workers : ℕ

-- what moves from round to round: what is held of the calls that were valid, the x5u texts of the chains that are held,
-- and the number and the moment of the last call; and how often a file of certificates couldn't be read, the provider
-- of signatures failed, and a file was read
pub record JudgeState : Type 0 where
  pub past : Held
  pub held : List (List ℕ)
  pub number : ℕ
  pub moment : ℕ
  pub shelf : ℕ
  pub provider : ℕ
  pub reads : ℕ

-- how often a file of certificates couldn't be read, the provider of signatures failed, and a file was read
pub record OutsideCounts : Type 0 where
  pub shelf : ℕ
  pub provider : ℕ
  pub reads : ℕ

abbrev pub outside_counts : ℕ → ℕ → ℕ → OutsideCounts
outside_counts shelf provider reads = record { shelf = shelf; provider = provider; reads = reads }

abbrev pub counts_of : JudgeState → OutsideCounts
counts_of state = outside_counts state.shelf state.provider state.reads

abbrev pub IsIn : {A : Type 0} → A → List A → Type 0
IsIn one [] = ⊥
IsIn one (other ∷ others) = (one ≡ other) ⊎ IsIn one others

-- ---- a round

-- Each outcome may be given to its call; a call that passes is known again, and fresh; calls that pass with one ticket
-- are settled over the past; calls are set aside only for faults; and if the provider of signatures never failed, files
-- are read at most as often as one chain more is held from then on.
pub record RoundJudged (judged : Entry → Outcome → Type 0) (config : JudgeConfig) (chains : ChainFiles)
    (before now : JudgeState) (calls : List Entry) (outcomes : List Outcome) : Type 0 where
  pub each : EachPair judged calls outcomes
  pub owed : EachPair (IsOwed config.settings) calls outcomes
  pub settled : RoundSettled before.past (round_of (rows_of config.settings calls outcomes)) now.past
  -- one worker takes the calls in their order
  pub in_order : config.workers ≡ 1 → FirstWins (rows_of config.settings calls outcomes)
  pub unread : AtMost (length (unread_texts config.settings calls outcomes)) before.shelf now.shelf
  pub quiet_shelf : NotRisen before.shelf now.shelf → NoneUnread outcomes
  pub quiet_provider : NotRisen before.provider now.provider → NoneUnasked outcomes
  pub few_reads : NotRisen before.provider now.provider
      → ReadsFew config.settings chains calls before.held now.held before.reads now.reads

-- what these calls change, judged or not
pub record Moves (before now : JudgeState) (calls : List Entry) : Type 0 where
  pub number : now.number ≡ last_number before.number calls
  pub moment : now.moment ≡ last_moment_of before.moment calls
  pub shelf_stays : before.shelf ≤ now.shelf
  pub provider_stays : before.provider ≤ now.provider
