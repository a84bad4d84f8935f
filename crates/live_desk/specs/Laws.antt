-- What the rule of a live desk means for tickets (this project's own rule). A ticket is won at the last of six levels,
-- which are counted from 0.
use Rattle.std.specs.Prelude.{◌≡◌, ℕ, suc, ◌==◌, ◌≤◌, Bool, false, List, take, if◌then◌else◌}
use Rattle.std.specs.Str.{bytes_eq}
use Rattle.atomic_table.specs.Table.{State}
use Rattle.live_desk.specs.Lists.{In, count, total}
use Rattle.live_desk.specs.Ticket.{pieces}
use Rattle.live_desk.specs.Views.{Holds}
use Rattle.live_desk.specs.declared.view.SetWord.{SetWord}
use Rattle.live_desk.specs.declared.view.View.{View}

-- the ticket is among the won ones: it was set at the last level
abbrev pub IsWon : List ℕ → List SetWord → Type 0
IsWon ticket sets = (e : SetWord) × In e sets × (e.level ≡ 5) × (e.ticket ≡ ticket)

-- the set won the ticket: it is at the last level
abbrev pub wins : List ℕ → SetWord → Bool
wins ticket e = if e.level == 5 then bytes_eq ticket e.ticket else false

-- how often the ticket is among the won ones
abbrev pub won : List ℕ → List SetWord → ℕ
won ticket sets = count (wins ticket) sets

-- the ticket's pieces up to a level
abbrev pub first_pieces : ℕ → List ℕ → List ℕ
first_pieces level ticket = take (suc level) (pieces ticket)

-- Over any words and views that meet the rule, a ticket is among the won ones of all views together at most once
abbrev pub WonOnce : Type 0
WonOnce = (size : ℕ) (s : State (List ℕ) View) → Holds size s → (ticket : List ℕ)
    → total (λ (v : View). won ticket v.sets) s.views ≤ 1
