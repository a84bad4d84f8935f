-- The summary of judged calls: how many there are, how many are valid and how many are replays, and of the others,
-- which were refused, how many by each code of the response (this project's own rule; RFC 8224, section 6.2.2, for the
-- codes 428, 437 and 438).
use Rattle.std.specs.Prelude.{◌≡◌, ℕ, ◌+◌, ◌==◌, Bool, true, false, List, [], ◌∷◌, ◌++◌, length, codes, decimal}
use Rattle.call_log.specs.Entry.{Entry}
use Rattle.replay_law.specs.Log.{RowsLegal}
use Rattle.replay_law.specs.Round.{Round}
use Rattle.verify_rules.specs.World.{World}
use Rattle.verify_rules.specs.declared.settings.Settings.{Settings}
use Rattle.verify_rules.specs.Code.{code_of}
use Rattle.verify_service.specs.Adding.{is_valid}
use Rattle.verify_service.specs.Causes.{NoneUnasked, NoneUnread}
use Rattle.verify_service.specs.Judging.{EachJudged}
use Rattle.verify_service.specs.Rows.{rows_of}
use Rattle.verify_service.specs.declared.outcome.Outcome.{Outcome}
use Rattle.verify_service.specs.declared.outcome.Outcome.TheVariants.{Valid, Refused, Replay, Unread, Unasked}
use Rattle.drill.specs.Winners.{all_rows}

-- ---- what a call counts for

abbrev pub is_replay : Outcome → Bool
is_replay Valid = false
is_replay (Refused refused) = false
is_replay (Replay winner) = true
is_replay (Unread bad) = false
is_replay (Unasked bad) = false

-- it is refused by a rule of this code
abbrev pub is_refused : ℕ → Outcome → Bool
is_refused code Valid = false
is_refused code (Refused refused) = code_of refused.rule == code
is_refused code (Replay winner) = false
is_refused code (Unread bad) = false
is_refused code (Unasked bad) = false

abbrev pub as_one : Bool → ℕ
as_one true = 1
as_one false = 0

abbrev pub as_valid : Outcome → ℕ
as_valid outcome = as_one (is_valid outcome)

abbrev pub as_replay : Outcome → ℕ
as_replay outcome = as_one (is_replay outcome)

abbrev pub as_refused : ℕ → Outcome → ℕ
as_refused code outcome = as_one (is_refused code outcome)

-- what all of them count for
abbrev pub count_as : (Outcome → ℕ) → List Outcome → ℕ
count_as f [] = 0
count_as f (outcome ∷ outcomes) = f outcome + count_as f outcomes

-- ---- the lines

-- a word, a space, the number and LF
abbrev pub count_line : List ℕ → ℕ → List ℕ
count_line word count = word ++ 32 ∷ (decimal count ++ 10 ∷ [])

-- the seven lines
abbrev pub summary : List Outcome → List ℕ
summary outcomes =
    count_line (codes "calls") (length outcomes)
    ++ (count_line (codes "valid") (count_as as_valid outcomes)
    ++ (count_line (codes "replay") (count_as as_replay outcomes)
    ++ (count_line (codes "refused 403") (count_as (as_refused 403) outcomes)
    ++ (count_line (codes "refused 428") (count_as (as_refused 428) outcomes)
    ++ (count_line (codes "refused 437") (count_as (as_refused 437) outcomes)
    ++ count_line (codes "refused 438") (count_as (as_refused 438) outcomes))))))

-- ---- one judgement of calls

-- Each of the calls is judged in this world and none is set aside; and cut into these rounds, of the calls that pass
-- with one ticket exactly one is valid.
pub record JudgedWhole (world : World) (settings : Settings) (calls : List Entry)
    (outcomes : List Outcome) : Type 0 where
  pub each : EachJudged settings world calls outcomes
  pub read : NoneUnread outcomes
  pub asked : NoneUnasked outcomes
  pub rounds : List Round
  pub cut : all_rows rounds ≡ rows_of settings calls outcomes
  pub legal : RowsLegal rounds
