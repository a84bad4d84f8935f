-- What is held of the calls before: for a ticket, the call that was valid with it (this project's own rule).
use Rattle.std.specs.Prelude.{◌≡◌, ℕ, nat_lt, List, Option, Some, None, if◌then◌else◌}
use Rattle.replay_law.specs.Row.{Row}

-- the number of the call, and the last second at which its PASSporT is fresh
pub record Kept : Type 0 where
  pub call : ℕ
  pub last : ℕ

-- what is kept for each ticket
abbrev pub Held : Type 0
Held = List ℕ → Option Kept

-- an empty past
abbrev pub nothing : Held
nothing ticket = None

-- the same is kept for each ticket
abbrev pub Same : Held → Held → Type 0
Same held next = (ticket : List ℕ) → held ticket ≡ next ticket

-- what is kept, unless its last second is below the moment
abbrev pub unless_below : ℕ → Option Kept → Option Kept
unless_below moment None = None
unless_below moment (Some kept) = if nat_lt kept.last moment then None else Some kept

-- all that is held but the entries whose last second is below the moment
abbrev pub purged : ℕ → Held → Held
purged moment held ticket = unless_below moment (held ticket)

-- what is kept for a valid call
abbrev pub kept_of : Row → Kept
kept_of row = record { call = row.number; last = row.last }
