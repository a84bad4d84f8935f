-- The laws: what follows for a log from what holds of each of its rounds, and for a round from what holds of each call.
use Rattle.std.specs.Prelude.{◌≡◌, ℕ, ◌<◌, ◌≤◌, ◌⊎◌, true, List, [], ◌∷◌, ◌++◌, Some}
use Rattle.std.specs.List.{slice_get}
use Rattle.replay_law.specs.Row.{valid, replay, Row, Uses}
use Rattle.replay_law.specs.Held.{Held, nothing, Same, purged}
use Rattle.replay_law.specs.Round.{Round, purge_at, Settled, RoundSettled, Rounds}
use Rattle.replay_law.specs.Log.{StandsIn, IsBefore, NamesOne, RowsLegal}
use Rattle.replay_law.specs.Turn.{Turn, Turns, FirstWins, EachFirstWins, FirstOfLogWins}

-- ---- what is asked of the calls of a log

-- a call that passes is fresh: its moment isn't after its last second (RFC 8224, section 6.2)
abbrev pub IsFresh : List Round → Type 0
IsFresh rounds = (round place : ℕ) (row : Row) → StandsIn rounds round place row
    → row.passes ≡ true → row.moment ≤ row.last

-- no call comes before the moment of its round or of an earlier one
abbrev pub NeverFalls : List Round → Type 0
NeverFalls rounds = (earlier later place : ℕ) (round : Round) (row : Row) → slice_get rounds earlier ≡ Some round
    → earlier ≤ later → StandsIn rounds later place row → round.moment ≤ row.moment

-- Calls that pass with one ticket have one last second. It is a function of the signing input, so this holds if no two
-- different signing inputs have the same SHA-256.
abbrev pub IsApart : List Round → Type 0
IsApart rounds = (round place other_round other : ℕ) (row same : Row) → StandsIn rounds round place row
    → row.passes ≡ true → StandsIn rounds other_round other same → Uses row.ticket same → row.last ≡ same.last

-- the numbers of the calls rise
abbrev pub NumbersRise : List Round → Type 0
NumbersRise rounds = (round place other_round other : ℕ) (row later : Row) → StandsIn rounds round place row
    → StandsIn rounds other_round other later → IsBefore round place other_round other → row.number < later.number

-- ---- the laws

-- Rounds that are settled one by one, from an empty past on, are legal together. So purging lets no ticket pass twice.
abbrev pub LegalTogether : Type 0
LegalTogether = (rounds : List Round) (next : Held) → Rounds nothing rounds next → IsFresh rounds → NeverFalls rounds
    → IsApart rounds → RowsLegal rounds

-- calls that are answered in turn settle a round, and the first that passes with a ticket is the valid one
abbrev pub OneByOne : Type 0
OneByOne = (held next : Held) (rows : List Row) → Turns held rows next → Settled held rows next × FirstWins rows

-- if this is so in each round, it is so in the whole log
abbrev pub FirstOfAll : Type 0
FirstOfAll = (rounds : List Round) → RowsLegal rounds → EachFirstWins rounds → FirstOfLogWins rounds

-- each replay names exactly one call: the valid one of its ticket
abbrev pub EachNamesOne : List Round → Type 0
EachNamesOne rounds = (round place number : ℕ) (row : Row) → StandsIn rounds round place row
    → row.answer ≡ replay number → NamesOne rounds row.ticket number

-- it does, if numbers rise
abbrev pub ReplayNamesOne : Type 0
ReplayNamesOne = (rounds : List Round) → RowsLegal rounds → NumbersRise rounds → EachNamesOne rounds

-- any other call that passes with the ticket of a valid one is a replay that names it, and is in no earlier round
abbrev pub PassOnce : List Round → Type 0
PassOnce rounds = (round place other_round other : ℕ) (row same : Row) → StandsIn rounds round place row
    → row.answer ≡ valid → StandsIn rounds other_round other same → Uses row.ticket same
    → ((other_round ≡ round) × (other ≡ place)) ⊎ ((same.answer ≡ replay row.number) × (round ≤ other_round))

-- so it is if the answers are legal
abbrev pub LegalPassesOnce : Type 0
LegalPassesOnce = (rounds : List Round) → RowsLegal rounds → PassOnce rounds

-- one round more
abbrev pub OneRoundMore : Type 0
OneRoundMore = (past middle next : Held) (rounds : List Round) (round : Round) → Rounds past rounds middle
    → RoundSettled middle round next → Rounds past (rounds ++ round ∷ []) next

-- more rounds after those that are settled, as those of a later run
abbrev pub MoreRounds : Type 0
MoreRounds = (past middle next : Held) (rounds more : List Round) → Rounds past rounds middle → Rounds middle more next
    → Rounds past (rounds ++ more) next

-- a past that is only purged is that of a round without calls
abbrev pub PurgedAlone : Type 0
PurgedAlone = (past next : Held) (moment : ℕ) → Same (purged moment past) next
    → RoundSettled past (purge_at moment) next

-- one turn more
abbrev pub OneTurnMore : Type 0
OneTurnMore = (held middle next : Held) (rows : List Row) (row : Row) → Turns held rows middle → Turn middle row next
    → Turns held (rows ++ row ∷ []) next

-- if the same is kept for each ticket, the two are one, wherever they are spoken of
abbrev pub SameIsOne : Type 0
SameIsOne = (held next : Held) → Same held next → held ≡ next

-- ---- the same calls, answered twice

-- one call, whatever was answered to it
pub record IsSameCall (row other : Row) : Type 0 where
  pub number : row.number ≡ other.number
  pub ticket : row.ticket ≡ other.ticket
  pub passes : row.passes ≡ other.passes

-- where the one has a call, the other has the same call
abbrev pub HasEach : List Round → List Round → Type 0
HasEach rounds others = (round place : ℕ) (row : Row) → StandsIn rounds round place row
    → (other : Row) × StandsIn others round place other × IsSameCall row other

-- If the same calls are answered twice, legally, and the first that passes with a ticket is the valid one, each has one
-- answer.
abbrev pub OneAnswer : Type 0
OneAnswer = (rounds others : List Round) → HasEach rounds others → HasEach others rounds → RowsLegal rounds
    → FirstOfLogWins rounds → RowsLegal others → FirstOfLogWins others → (round place : ℕ) (row other : Row)
    → StandsIn rounds round place row → StandsIn others round place other → row.answer ≡ other.answer
