-- A log that is judged call by call, in any order and on any number of machines, and then settled by its tickets alone
-- (this project's own rule).
use Rattle.std.specs.Prelude.{◌≡◌, ⊤, List}
use Rattle.call_log.specs.Entry.{Entry}
use Rattle.log_rounds.specs.Judge.{JudgeConfig}
use Rattle.log_rounds.specs.Rounds.{FirstWinsIn, InEach, Legal, Round, calls_in, outcomes_in}
use Rattle.replay_law.specs.ByFirst.{AnsweredByFirst}
use Rattle.verify_rules.specs.World.{World}
use Rattle.verify_rules.specs.declared.settings.Settings.{Settings}
use Rattle.verify_service.specs.Causes.{NoneUnasked, NoneUnread}
use Rattle.call_judging.specs.Judging.{IsFound}
use Rattle.verify_service.specs.Judging.{ComesOf, EachPair, IsJudged, call_in}
use Rattle.verify_service.specs.Rows.{rows_of}
use Rattle.call_judging.specs.declared.finding.Finding.{Finding}
use Rattle.verify_service.specs.declared.outcome.Outcome.{Outcome}

-- the outcome is what the rules say of the call by itself; if it passes, the call is valid or a replay
pub record IsByItself (world : World) (settings : Settings) (entry : Entry) (outcome : Outcome) : Type 0 where
  pub finding : Finding
  pub found : IsFound world (call_in settings entry) finding
  pub comes : ComesOf finding outcome

-- Each outcome is what the rules say of its call by itself. Of the calls that pass with one ticket the first is valid,
-- and each later one is a replay of it.
pub record IsDay (world : World) (settings : Settings) (calls : List Entry) (outcomes : List Outcome) : Type 0 where
  pub each : EachPair (IsByItself world settings) calls outcomes
  pub first : AnsweredByFirst (rows_of settings calls outcomes)

-- as the headline's clause says it of a call
abbrev pub JudgedIn : World → Settings → Entry → Outcome → Type 0
JudgedIn world settings entry outcome = IsJudged world (call_in settings entry) outcome

-- ---- the laws

-- each round has an outcome a call
abbrev pub AreCounted : List Round → Type 0
AreCounted rounds = InEach (λ entry outcome. ⊤) rounds

-- Such outcomes are legal, whatever the cut into rounds.
abbrev pub DayIsLegal : Type 0
DayIsLegal = (world : World) (config : JudgeConfig) (rounds : List Round) → AreCounted rounds
    → IsDay world config.settings (calls_in rounds) (outcomes_in rounds)
    → Legal (JudgedIn world config.settings) config rounds × FirstWinsIn config rounds

-- Legal outcomes of which the first call that passes with a ticket is the valid one, as one worker gives them, are
-- these, if none is set aside.
abbrev pub DayIsReport : Type 0
DayIsReport = (world : World) (config : JudgeConfig) (rounds : List Round) (outcomes : List Outcome)
    → Legal (JudgedIn world config.settings) config rounds → FirstWinsIn config rounds → NoneUnread (outcomes_in rounds)
    → NoneUnasked (outcomes_in rounds) → NoneUnread outcomes → NoneUnasked outcomes
    → IsDay world config.settings (calls_in rounds) outcomes → outcomes ≡ outcomes_in rounds
