-- The rounds of a service from its beginning on, and of services that go on from its state: what came of all their
-- calls together (this project's own rule).
use Rattle.std.specs.Prelude.{◌≡◌, ⊤, ◌⊎◌, ℕ, ◌<◌, ◌≤◌, List, [], ◌∷◌, ◌++◌, Option, Some, None}
use Rattle.call_log.specs.Entry.{Entry}
use Rattle.replay_law.specs.Held.{Held, nothing, Same, purged}
use Rattle.replay_law.specs.Law.{EachNamesOne, PassOnce}
use Rattle.replay_law.specs.Log.{RowsLegal}
use Rattle.replay_law.specs.Round.{Round as RowRound, RoundSettled, purge_at, round_of}
use Rattle.replay_law.specs.Runs.{Run as RowRun, rounds_in}
use Rattle.cert_store.specs.declared.world.World.{World as Materials}
use Rattle.passport_json.specs.Signing.{Ticket}
use Rattle.state_text.specs.State.{StateView}
use Rattle.verify_rules.specs.Signed.{IsSigned}
use Rattle.verify_rules.specs.World.{First, World}
use Rattle.verify_rules.specs.declared.refusal.Refusal.{Refusal}
use Rattle.verify_rules.specs.declared.settings.Settings.{Settings}
use Rattle.verify_service.specs.Handing.{IsRestored, IsStateOf}
use Rattle.verify_service.specs.Judging.{EachJudged, IsJudged, call_in}
use Rattle.verify_service.specs.Rows.{EachOwed, held, rows_of}
use Rattle.verify_service.specs.Service.{EachFollows, IsPurged, ServiceView, first_moment_of, last_moment_of}
use Rattle.verify_service.specs.declared.outcome.Outcome.{Outcome}
use Rattle.verify_service.specs.declared.outcome.Outcome.TheVariants.{Valid, Refused, Replay, Unread, Unasked}

-- ---- what services were handed, and what came of it

-- calls that were handed in as a round
pub data Round : Type 0 where
  -- with an outcome for each
  answered : List Entry → List Outcome → Round
  -- or memory ran out, and nothing came of them
  unanswered : List Entry → Round

-- A run of a service: the settings and the world by which it judges, and its rounds. There is no world if the shelf
-- doesn't tell its files.
pub record Run : Type 0 where
  pub settings : Settings
  pub world : Option World
  pub rounds : List Round

abbrev pub handed_in : Round → List Entry
handed_in (answered calls outcomes) = calls
handed_in (unanswered calls) = calls

abbrev pub all_handed_in : List Round → List Entry
all_handed_in [] = []
all_handed_in (round ∷ rounds) = handed_in round ++ all_handed_in rounds

-- the calls of all runs, in the order in which they were handed in
abbrev pub calls_in : List Run → List Entry
calls_in [] = []
calls_in (run ∷ runs) = all_handed_in run.rounds ++ calls_in runs

abbrev pub IsIn : {A : Type 0} → A → List A → Type 0
IsIn one [] = ⊥
IsIn one (other ∷ others) = (one ≡ other) ⊎ IsIn one others

-- ---- numbers and moments

-- no call comes before this moment, nor before the call that precedes it
abbrev pub NeverFall : ℕ → List Entry → Type 0
NeverFall moment [] = ⊤
NeverFall moment (entry ∷ entries) = (moment ≤ entry.moment) × NeverFall entry.moment entries

-- each number is above this one, and above that of the call that precedes it
abbrev pub Rise : ℕ → List Entry → Type 0
Rise number [] = ⊤
Rise number (entry ∷ entries) = (number < entry.number) × Rise entry.number entries

-- the moment of the last call that was handed in, or this one if there is none
abbrev pub last_in : ℕ → List Round → ℕ
last_in moment [] = moment
last_in moment (round ∷ rounds) = last_in (last_moment_of moment (handed_in round)) rounds

-- ---- what `Service` says of its rounds, one by one

-- each outcome is what the rules say of its call, if the shelf tells its files
abbrev pub JudgedIn : Option World → Settings → List Entry → List Outcome → Type 0
JudgedIn None settings calls outcomes = ⊤
JudgedIn (Some world) settings calls outcomes = EachJudged settings world calls outcomes

-- A round that was answered: each outcome is what the rules say of its call; each call that passes is known again by
-- what was signed; and those that pass are settled over what was kept, of which `next` is left.
pub record IsAnswered (settings : Settings) (world : Option World) (past : Held) (calls : List Entry)
    (outcomes : List Outcome) (next : Held) : Type 0 where
  pub judged : JudgedIn world settings calls outcomes
  pub owed : EachOwed settings calls outcomes
  pub settled : RoundSettled past (round_of (rows_of settings calls outcomes)) next

-- if memory ran out, what was kept is only purged
abbrev pub IsRound : Settings → Option World → Held → Round → Held → Type 0
IsRound settings world past (answered calls outcomes) next = IsAnswered settings world past calls outcomes next
IsRound settings world past (unanswered calls) next = IsPurged calls past next

-- each round goes on from what the one before it left
abbrev pub AreRounds : Settings → Option World → Held → List Round → Held → Type 0
AreRounds settings world past [] next = Same past next
AreRounds settings world past (round ∷ rounds) next =
    (middle : Held) × IsRound settings world past round middle × AreRounds settings world middle rounds next

-- A run by this window goes on from what was kept, and hands on what a purge by the moment of its last call leaves.
pub record IsRun (window moment : ℕ) (past : Held) (run : Run) (next : Held) : Type 0 where
  pub window_is : run.settings.past ≡ window
  pub left : Held
  pub rounds : AreRounds run.settings run.world past run.rounds left
  pub handed : Same (purged (last_in moment run.rounds) left) next

-- each run goes on from what the one before it handed on
abbrev pub AreRuns : ℕ → ℕ → Held → List Run → Held → Type 0
AreRuns window moment past [] next = Same past next
AreRuns window moment past (run ∷ runs) next =
    (handed : Held) × IsRun window moment past run handed × AreRuns window (last_in moment run.rounds) handed runs next

-- ---- all rounds together

-- what the replay rule sees of a round
abbrev pub row_round : Settings → Round → RowRound
row_round settings (answered calls outcomes) = round_of (rows_of settings calls outcomes)
row_round settings (unanswered calls) = purge_at (first_moment_of calls)

abbrev pub row_rounds : Settings → List Round → List RowRound
row_rounds settings [] = []
row_rounds settings (round ∷ rounds) = row_round settings round ∷ row_rounds settings rounds

-- of all runs, the first of which begins at this moment
abbrev pub row_runs : ℕ → List Run → List RowRun
row_runs moment [] = []
row_runs moment (run ∷ runs) =
    record { rounds = row_rounds run.settings run.rounds; moment = last_in moment run.rounds }
    ∷ row_runs (last_in moment run.rounds) runs

-- the rounds of all runs, as the replay rule sees them
abbrev pub all_rounds : List Run → List RowRound
all_rounds runs = rounds_in (row_runs 0 runs)

-- the call was handed in in one of these runs, which judges by these settings
pub record IsCallOf (runs : List Run) (settings : Settings) (call : Entry) : Type 0 where
  pub run : Run
  pub among : IsIn run runs
  pub by : settings ≡ run.settings
  pub handed : IsIn call (all_handed_in run.rounds)

-- no two different texts that were signed as last PASSporTs of the calls of all runs have one SHA-256 (FIPS 180-4)
abbrev pub AreApart : List Run → Type 0
AreApart runs = (settings others : Settings) (call other : Entry) (input signed : List ℕ) → IsCallOf runs settings call
    → IsCallOf runs others other → IsSigned (call_in settings call) input → IsSigned (call_in others other) signed
    → Ticket input ≡ Ticket signed → input ≡ signed

-- Each call has one outcome. It is set aside only if it may be, and else refused by the first rule that it breaks, if
-- there is one. Of the other calls, those that share the ticket of their last PASSporT, exactly one is valid, in the
-- first round that has such a call, and each other is a replay of it.
pub record AreLegal (runs : List Run) : Type 0 where
  pub each : (run : Run) (calls : List Entry) (outcomes : List Outcome) → IsIn run runs
      → IsIn (answered calls outcomes) run.rounds → JudgedIn run.world run.settings calls outcomes
  pub once : RowsLegal (all_rounds runs)

-- ---- the same in other words

abbrev pub IsSetAside : Outcome → Type 0
IsSetAside Valid = ⊥
IsSetAside (Refused refused) = ⊥
IsSetAside (Replay winner) = ⊥
IsSetAside (Unread bad) = ⊤
IsSetAside (Unasked bad) = ⊤

-- What is answered to a call in a world: if it breaks a rule, it is refused by the first, and else it is valid or a
-- replay, unless it is set aside.
pub record SaysFirst (world : World) (settings : Settings) (call : Entry) (outcome : Outcome) : Type 0 where
  pub broken : (refused : Refusal) → First world (call_in settings call) ≡ Some refused
      → IsSetAside outcome ⊎ (outcome ≡ Refused refused)
  pub none : First world (call_in settings call) ≡ None
      → IsSetAside outcome ⊎ ((outcome ≡ Valid) ⊎ ((winner : ℕ) × (outcome ≡ Replay winner)))

-- ---- the laws

-- The calls of a round, as a service takes them, never fall in their moments and rise in their numbers.
abbrev pub RoundsRise : Type 0
RoundsRise = (number moment : ℕ) (calls : List Entry) → EachFollows number moment calls
    → NeverFall moment calls × Rise number calls

-- If a service was left by the rounds of a run, and another goes on from its state, the run hands on what the other
-- then keeps.
abbrev pub StatesHandOn : Type 0
StatesHandOn = (window moment : ℕ) (past : Held) (run : Run) (service next : ServiceView) (state : StateView)
    (settings : Settings) (materials : Materials) → run.settings.past ≡ window
    → AreRounds run.settings run.world past run.rounds (held service.past) → service.moment ≡ last_in moment run.rounds
    → IsStateOf service state → IsRestored settings materials state next → IsRun window moment past run (held next.past)

-- Rounds of a service that is new, and of services that go on from its state, are legal together, if their moments
-- don't fall and all their calls are apart. So purging and handing on let no PASSporT pass twice.
abbrev pub RunsAreLegal : Type 0
RunsAreLegal = (window : ℕ) (runs : List Run) (next : Held) → AreRuns window 0 nothing runs next
    → NeverFall 0 (calls_in runs) → AreApart runs → AreLegal runs

-- If they are legal, any other call that passes with the ticket of a valid one is a replay that names it, and is in no
-- earlier round.
abbrev pub LegalPassOnce : Type 0
LegalPassOnce = (runs : List Run) → AreLegal runs → PassOnce (all_rounds runs)

-- And if their numbers rise, a replay names exactly one call of all of them: the valid one of its ticket.
abbrev pub LegalNamesOne : Type 0
LegalNamesOne = (runs : List Run) → AreLegal runs → Rise 0 (calls_in runs) → EachNamesOne (all_rounds runs)

-- What is judged is refused by the first rule that it breaks.
abbrev pub JudgedSaysFirst : Type 0
JudgedSaysFirst = (world : World) (settings : Settings) (call : Entry) (outcome : Outcome)
    → IsJudged world (call_in settings call) outcome → SaysFirst world settings call outcome
