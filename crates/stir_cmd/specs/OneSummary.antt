-- What any two runs of `drill` with one seed and one count have in common, on however many workers: they write one
-- summary.
use Rattle.std.specs.Prelude.{ℕ, ◌≤◌, List, Option, Some}
use Rattle.std.specs.Io.KnownBytes.{Appends}
use Rattle.drill.specs.Drilled.{WroteSummary, config_on}
use Rattle.log_rounds.specs.Rounds.{IsApart}
use Rattle.stir_drill.specs.Calls.{calls_of}
use Rattle.stir_words.specs.Order.{DrillBy, DrillingView, OrderView}
use Rattle.stir_cmd.specs.Outside.{Outside}

-- no two different texts that were signed as last PASSporTs of the drill's calls have one digest
abbrev pub IsDrillApart : DrillingView → Type 0
IsDrillApart drilling = IsApart (config_on drilling.workers) (calls_of drilling.seed drilling.count)

-- both wrote the same bytes
pub record AreOneSummary (before now other other_now : Outside) : Type 0 where
  pub text : List ℕ
  pub written : Appends before.written now.written text
  pub other_written : Appends other.written other_now.written text

abbrev pub GivesOneSummary : Option OrderView → Outside → Outside → ℕ → Type 0
GivesOneSummary (Some (DrillBy drilling)) before now status = status ≤ 1 → IsDrillApart drilling
    → (workers : ℕ) (other other_now : Outside)
    → WroteSummary drilling.seed drilling.count workers other.written other_now.written
    → AreOneSummary before now other other_now
GivesOneSummary other before now status = Unit {0}
