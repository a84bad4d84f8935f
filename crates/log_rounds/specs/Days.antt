-- Days that are judged call by call, on any number of machines, each settled over what is kept of the days before it
-- (this project's own rule).
use Rattle.std.specs.Prelude.{◌≡◌, ⊤, ◌⊎◌, ℕ, ◌<◌, ◌≤◌, List, [], ◌∷◌, ◌++◌, Some, None}
use Rattle.call_log.specs.Entry.{Entry}
use Rattle.log_rounds.specs.Day.{IsByItself}
use Rattle.log_rounds.specs.Judge.{IsIn}
use Rattle.passport_json.specs.Signing.{Ticket}
use Rattle.replay_law.specs.ByFirst.{AnsweredAfter, AnsweredByFirst, IsFirst, IsKeptOf, rows_in}
use Rattle.replay_law.specs.Held.{Held, Kept, Same, kept_of, nothing}
use Rattle.replay_law.specs.Log.{RowsLegal}
use Rattle.replay_law.specs.Round.{Round as RowRound}
use Rattle.replay_law.specs.Row.{Row}
use Rattle.replay_law.specs.Turn.{FirstOfLogWins}
use Rattle.verify_rules.specs.Signed.{IsSigned}
use Rattle.verify_rules.specs.World.{World}
use Rattle.verify_rules.specs.declared.settings.Settings.{Settings}
use Rattle.verify_service.specs.Judging.{EachPair, call_in}
use Rattle.verify_service.specs.Rows.{rows_of}
use Rattle.verify_service.specs.declared.outcome.Outcome.{Outcome}

-- a day: in which world and by which settings it was judged; at which moment it begins; what was kept of the days
-- before it; and its calls, with what came of them
pub record Day : Type 0 where
  pub world : World
  pub settings : Settings
  pub moment : ℕ
  pub held : Held
  pub calls : List Entry
  pub outcomes : List Outcome

-- what the replay rule sees of it
abbrev pub day_rows : Day → List Row
day_rows day = rows_of day.settings day.calls day.outcomes

-- of all days, in their order
abbrev pub days_rows : List Day → List Row
days_rows [] = []
days_rows (day ∷ others) = day_rows day ++ days_rows others

-- A day whose window has so many seconds: none of its calls comes before its moment, and each outcome is what the rules
-- say of its call by itself. A call that passes with a ticket that is kept is a replay of the earlier call; of those
-- that pass with any other ticket the first is valid, and each later one is a replay of it.
pub record IsSettledDay (seconds : ℕ) (day : Day) : Type 0 where
  pub window : day.settings.past ≡ seconds
  pub from : (call : Entry) → IsIn call day.calls → day.moment ≤ call.moment
  pub each : EachPair (IsByItself day.world day.settings) day.calls day.outcomes
  pub after : AnsweredAfter day.held (day_rows day)

-- And it goes on from days with these calls: for a ticket the first call that passed with it is kept, unless the last
-- second of that is below the day's moment.
pub record IsDayAfter (window : ℕ) (before : List Row) (day : Day) : Type 0 where
  pub settled : IsSettledDay window day
  pub kept : IsKeptOf day.moment before day.held

-- each goes on from those before it
abbrev pub AreDaysAfter : ℕ → List Row → List Day → Type 0
AreDaysAfter window before [] = ⊤
AreDaysAfter window before (day ∷ others) =
    IsDayAfter window before day × AreDaysAfter window (before ++ day_rows day) others

-- no two different texts that were signed as last PASSporTs of the calls of all days have one digest
abbrev pub AreApart : List Day → Type 0
AreApart days = (day other_day : Day) (call other : Entry) (input signed : List ℕ) → IsIn day days → IsIn other_day days
    → IsIn call day.calls → IsIn other other_day.calls → IsSigned (call_in day.settings call) input
    → IsSigned (call_in other_day.settings other) signed → Ticket input ≡ Ticket signed → input ≡ signed

-- ---- what a day hands on

-- nothing was kept for the ticket before the day, and this is what is kept of the first call of the day that passed
-- with it
pub record IsWonOn (day : Day) (ticket : List ℕ) (kept : Kept) : Type 0 where
  pub none : day.held ticket ≡ None
  pub place : ℕ
  pub row : Row
  pub first : IsFirst (day_rows day) ticket place row
  pub is : kept ≡ kept_of row

-- what there is to keep for the ticket after the day: what was kept before, or what the day won
abbrev pub IsEntryAfter : Day → List ℕ → Kept → Type 0
IsEntryAfter day ticket kept = (day.held ticket ≡ Some kept) ⊎ IsWonOn day ticket kept

-- That is kept, and nothing else; an entry may be dropped if its last second is below this moment.
pub record HandsOn (day : Day) (moment : ℕ) (next : Held) : Type 0 where
  pub names : (ticket : List ℕ) (kept : Kept) → next ticket ≡ Some kept → IsEntryAfter day ticket kept
  pub drops : (ticket : List ℕ) (kept : Kept) → IsEntryAfter day ticket kept → next ticket ≡ None → kept.last < moment

-- each day goes on over what the day before it handed on, and their moments don't fall
abbrev pub AreHandedOn : ℕ → List Day → Type 0
AreHandedOn window [] = ⊤
AreHandedOn window (day ∷ []) = IsSettledDay window day
AreHandedOn window (day ∷ next ∷ others) = IsSettledDay window day × (day.moment ≤ next.moment)
    × HandsOn day next.moment next.held × AreHandedOn window (next ∷ others)

-- nothing is kept before the first
abbrev pub FromNothing : List Day → Type 0
FromNothing [] = ⊤
FromNothing (day ∷ others) = Same nothing day.held

-- ---- the laws

-- Such days, from the first on, are one log that is answered by the first call of each ticket, whichever day that came
-- on, if all logs together are apart. So what a day drops lets no PASSporT pass twice.
abbrev pub DaysAreOne : Type 0
DaysAreOne = (window : ℕ) (days : List Day) → AreDaysAfter window [] days → AreApart days
    → AnsweredByFirst (days_rows days)

-- And so the answers are legal, whatever the cut of the calls of all days into rounds, and the first call that passes
-- with a ticket is the valid one.
abbrev pub DaysAreLegal : Type 0
DaysAreLegal = (window : ℕ) (days : List Day) (rounds : List RowRound) → AreDaysAfter window [] days → AreApart days
    → rows_in rounds ≡ days_rows days → RowsLegal rounds × FirstOfLogWins rounds

-- Each day keeps what it is to keep of all days before it, if each goes on over what the one before it handed on, from
-- nothing on. So a day needs to know nothing of earlier days but that.
abbrev pub DaysHandOn : Type 0
DaysHandOn = (window : ℕ) (days : List Day) → FromNothing days → AreHandedOn window days → AreApart days
    → AreDaysAfter window [] days
