-- The calls of a log, cut into rounds of 256, and what came of them.
use Rattle.std.specs.Prelude.{◌≡◌, ℕ, ◌+◌, ◌≤◌, List, [], ◌∷◌, ◌++◌, length}
use Rattle.call_log.specs.Entry.{Entry}
use Rattle.log_rounds.specs.Judge.{JudgeConfig, IsIn}
use Rattle.passport_json.specs.Signing.{Ticket}
use Rattle.replay_law.specs.Log.{RowsLegal}
use Rattle.replay_law.specs.Round.{Round as RowRound, round_of}
use Rattle.replay_law.specs.Turn.{FirstOfLogWins, FirstWins}
use Rattle.verify_rules.specs.Signed.{IsSigned}
use Rattle.verify_service.specs.Causes.{unread_texts}
use Rattle.verify_service.specs.Judging.{EachPair, call_in}
use Rattle.verify_service.specs.Rows.{rows_of}
use Rattle.verify_service.specs.declared.outcome.Outcome.{Outcome}

-- calls that are judged together, and what came of them
pub record Round : Type 0 where
  pub calls : List Entry
  pub outcomes : List Outcome

abbrev pub calls_in : List Round → List Entry
calls_in [] = []
calls_in (round ∷ others) = round.calls ++ calls_in others

abbrev pub outcomes_in : List Round → List Outcome
outcomes_in [] = []
outcomes_in (round ∷ others) = round.outcomes ++ outcomes_in others

-- ---- the cut

abbrev pub most_in_round : ℕ
most_in_round = 256

-- each round has 256 calls, but the last, which has 1 to 256
abbrev pub IsCut : List Round → Type 0
IsCut [] = Unit {0}
IsCut (round ∷ []) = (1 ≤ length round.calls) × (length round.calls ≤ most_in_round)
IsCut (round ∷ next ∷ others) = (length round.calls ≡ most_in_round) × IsCut (next ∷ others)

-- ---- what the replay rule sees

abbrev pub row_round : JudgeConfig → Round → RowRound
row_round config round = round_of (rows_of config.settings round.calls round.outcomes)

abbrev pub row_rounds : JudgeConfig → List Round → List RowRound
row_rounds config [] = []
row_rounds config (round ∷ others) = row_round config round ∷ row_rounds config others

-- it holds of each call and its outcome, one for each call of each round
abbrev pub InEach : (Entry → Outcome → Type 0) → List Round → Type 0
InEach P [] = Unit {0}
InEach P (round ∷ others) = EachPair P round.calls round.outcomes × InEach P others

-- the first call of each round that passes with a ticket is the valid one of the round, if there is one
abbrev pub AllInOrder : JudgeConfig → List Round → Type 0
AllInOrder config [] = Unit {0}
AllInOrder config (round ∷ others) =
    FirstWins (rows_of config.settings round.calls round.outcomes) × AllInOrder config others

-- ---- calls set aside

-- how many pairs there are of a round and a text that names certificates of unread calls of it
abbrev pub unread_pairs : JudgeConfig → List Round → ℕ
unread_pairs config [] = 0
unread_pairs config (round ∷ others) =
    length (unread_texts config.settings round.calls round.outcomes) + unread_pairs config others

-- ---- legal rounds

-- Each outcome may be given to its call; and of the calls that pass with one ticket, over all rounds, exactly one is
-- valid, and each other is a replay of it.
pub record Legal (judged : Entry → Outcome → Type 0) (config : JudgeConfig) (rounds : List Round) : Type 0 where
  pub each : InEach judged rounds
  pub once : RowsLegal (row_rounds config rounds)

-- no two different texts that were signed as last PASSporTs of the calls have one digest
abbrev pub IsApart : JudgeConfig → List Entry → Type 0
IsApart config calls = (call other : Entry) (input signed : List ℕ) → IsIn call calls → IsIn other calls
    → IsSigned (call_in config.settings call) input → IsSigned (call_in config.settings other) signed
    → Ticket input ≡ Ticket signed → input ≡ signed

-- the valid call of a ticket is the first of the log that passes with it
abbrev pub FirstWinsIn : JudgeConfig → List Round → Type 0
FirstWinsIn config rounds = FirstOfLogWins (row_rounds config rounds)
