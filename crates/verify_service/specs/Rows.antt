-- What the replay rule sees of the calls of a round, and when their outcomes are legal.
use Rattle.std.specs.Prelude.{◌≡◌, Bool, true, false, List, [], ◌∷◌, length}
use Rattle.std.specs.Option.{option_map}
use Rattle.call_log.specs.Entry.{Entry}
use Rattle.replay_desk.specs.Past.{PastView, found}
use Rattle.state_text.specs.declared.kept.Kept.{Kept as Passed}
use Rattle.replay_law.specs.Held.{Held, Kept}
use Rattle.replay_law.specs.Round.{RoundSettled, round_of}
use Rattle.replay_law.specs.Row.{Answer, valid, replay, neither, Row}
use Rattle.verify_rules.specs.Signed.{IsKnownAgain}
use Rattle.verify_rules.specs.World.{World}
use Rattle.verify_rules.specs.declared.settings.Settings.{Settings}
use Rattle.call_judging.specs.Judging.{last_second, ticket_or_none}
use Rattle.verify_service.specs.Judging.{EachJudged, EachPair, call_in}
use Rattle.verify_service.specs.declared.outcome.Outcome.{Outcome}
use Rattle.verify_service.specs.declared.outcome.Outcome.TheVariants.{Valid, Refused, Replay, Unread, Unasked}

-- ---- a call and its outcome

abbrev pub answer_of : Outcome → Answer
answer_of Valid = valid
answer_of (Refused refused) = neither
answer_of (Replay winner) = replay winner
answer_of (Unread bad) = neither
answer_of (Unasked bad) = neither

-- it breaks no rule but the one on replay, and isn't set aside
abbrev pub passes : Outcome → Bool
passes Valid = true
passes (Refused refused) = false
passes (Replay winner) = true
passes (Unread bad) = false
passes (Unasked bad) = false

-- a call that passes is known again by what was signed as its last PASSporT, told or not
abbrev pub IsOwed : Settings → Entry → Outcome → Type 0
IsOwed settings entry outcome = passes outcome ≡ true → IsKnownAgain (call_in settings entry)

abbrev pub EachOwed : Settings → List Entry → List Outcome → Type 0
EachOwed settings entries outcomes = EachPair (IsOwed settings) entries outcomes

abbrev pub row_of : Settings → Entry → Outcome → Row
row_of settings entry outcome = record {
  number = entry.number;
  moment = entry.moment;
  ticket = ticket_or_none (call_in settings entry);
  last = last_second (call_in settings entry);
  passes = passes outcome;
  answer = answer_of outcome;
}

-- of each of these calls
abbrev pub rows_of : Settings → List Entry → List Outcome → List Row
rows_of settings [] outcomes = []
rows_of settings (entry ∷ entries) [] = []
rows_of settings (entry ∷ entries) (outcome ∷ outcomes) =
    row_of settings entry outcome ∷ rows_of settings entries outcomes

-- ---- the past, as the replay rule sees it

abbrev pub kept_of_past : Passed → Kept
kept_of_past passed = record { call = passed.call; last = passed.last }

-- what is kept for each ticket
abbrev pub held : PastView → Held
held past ticket = option_map kept_of_past (found past ticket)

-- ---- a round

-- The outcomes of the calls of a round are legal: each is what the rules say of its call in this world; and the calls
-- that pass are settled over the past, of which `next` is left.
pub record RoundLegal (settings : Settings) (world : World) (past : Held) (entries : List Entry)
    (outcomes : List Outcome) (next : Held) : Type 0 where
  pub counted : length outcomes ≡ length entries
  pub judged : EachJudged settings world entries outcomes
  pub settled : RoundSettled past (round_of (rows_of settings entries outcomes)) next
