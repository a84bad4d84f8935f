-- Rounds of the same calls, judged twice, by two readings of the same files (this project's own rule).
use Rattle.std.specs.Prelude.{◌≡◌, List}
use Rattle.drill.specs.Summary.{summary}
use Rattle.log_rounds.specs.Answers.{Answers}
use Rattle.log_rounds.specs.Judge.{JudgeConfig}
use Rattle.log_rounds.specs.Rounds.{Legal, Round, calls_in, outcomes_in}
use Rattle.verify_rules.specs.SameWorld.{SayTheSame}
use Rattle.verify_rules.specs.World.{World}
use Rattle.verify_service.specs.Causes.{NoneUnasked, NoneUnread}

-- the rounds are legal in this world, and none of their calls is set aside
pub record LegalWhole (world : World) (config : JudgeConfig) (rounds : List Round) : Type 0 where
  pub legal : Legal (Answers world config.settings) config rounds
  pub read : NoneUnread (outcomes_in rounds)
  pub asked : NoneUnasked (outcomes_in rounds)

-- by the same settings, on however many workers, in worlds in which the same is said of each thing
abbrev pub OneSummary : Type 0
OneSummary = (world same : World) (config other : JudgeConfig) (rounds others : List Round) → SayTheSame world same
    → config.settings ≡ other.settings → calls_in rounds ≡ calls_in others → LegalWhole world config rounds
    → LegalWhole same other others → summary (outcomes_in rounds) ≡ summary (outcomes_in others)
