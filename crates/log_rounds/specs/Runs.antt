-- Runs that hand their state on, and when their outcomes are legal together (this project's own rule).
use Rattle.std.specs.Prelude.{◌≡◌, ⊤, ℕ, ◌≤◌, List, [], ◌∷◌}
use Rattle.call_log.specs.Entry.{Entry}
use Rattle.call_log.specs.Log.{AreCalls, Passed}
use Rattle.log_rounds.specs.Judge.{IsIn, JudgeConfig}
use Rattle.log_rounds.specs.Rounds.{InEach, Round, calls_in, row_rounds}
use Rattle.passport_json.specs.Signing.{Ticket}
use Rattle.replay_law.specs.Held.{Held, nothing}
use Rattle.replay_law.specs.Log.{RowsLegal}
use Rattle.replay_law.specs.Runs.{HandOn, Run as RowRun, rounds_in}
use Rattle.verify_rules.specs.Signed.{IsSigned}
use Rattle.verify_service.specs.Judging.{call_in}
use Rattle.verify_service.specs.Rows.{IsOwed}
use Rattle.verify_service.specs.Service.{last_moment_of}

-- a run: by what it judged, from which call it went on, and its rounds
pub record Run : Type 0 where
  pub config : JudgeConfig
  pub passed : Passed
  pub rounds : List Round

-- the moment by which its past is purged when it is handed on: that of its last call, or of the call from which it went
-- on
abbrev pub last_moment_in : Run → ℕ
last_moment_in run = last_moment_of run.passed.moment (calls_in run.rounds)

-- what the replay rule sees of it
abbrev pub row_run : Run → RowRun
row_run run = record { rounds = row_rounds run.config run.rounds; moment = last_moment_in run }

abbrev pub row_runs : List Run → List RowRun
row_runs [] = []
row_runs (run ∷ others) = row_run run ∷ row_runs others

-- It judges by this `past`, and begins no sooner than the run before it ended; its calls follow one another; and each
-- that passes is known again by what was signed, and fresh.
pub record IsRunAfter (past moment : ℕ) (run : Run) : Type 0 where
  pub window : run.config.settings.past ≡ past
  pub from : moment ≤ run.passed.moment
  pub follow : AreCalls run.passed (calls_in run.rounds)
  pub owed : InEach (IsOwed run.config.settings) run.rounds

-- each goes on from the one before it
abbrev pub AreRunsAfter : ℕ → ℕ → List Run → Type 0
AreRunsAfter past moment [] = ⊤
AreRunsAfter past moment (run ∷ others) = IsRunAfter past moment run × AreRunsAfter past (last_moment_in run) others

-- no two different texts that were signed as last PASSporTs of the calls of all runs have one digest
abbrev pub AreApart : List Run → Type 0
AreApart runs = (run other_run : Run) (call other : Entry) (input signed : List ℕ) → IsIn run runs → IsIn other_run runs
    → IsIn call (calls_in run.rounds) → IsIn other (calls_in other_run.rounds)
    → IsSigned (call_in run.config.settings call) input → IsSigned (call_in other_run.config.settings other) signed
    → Ticket input ≡ Ticket signed → input ≡ signed

-- Let each run be settled over what the one before it handed on, and let all logs together be apart. Then of the calls
-- of all runs that pass with one ticket exactly one is valid, in the first round that has such a call, and each other
-- is a replay of it. So purging and handing on let no PASSporT pass twice.
abbrev pub RunsLegal : Type 0
RunsLegal = (past : ℕ) (runs : List Run) (next : Held) → AreRunsAfter past 0 runs → HandOn nothing (row_runs runs) next
    → AreApart runs → RowsLegal (rounds_in (row_runs runs))
