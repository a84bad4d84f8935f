-- The past: which call passed on which ticket, for as long as its PASSporT is fresh (this project's own rule). It is a
-- finite map from tickets to calls, and `found` is what it has at a ticket.
use Rattle.std.specs.Prelude.{ℕ, nat_le, nat_lt, List, Option, Some, None, if◌then◌else◌, filter}
use Rattle.std.specs.Map.{lookup}
use Rattle.std.specs.Str.{bytes_eq}
use Rattle.state_text.specs.declared.kept.Kept.{Kept}

-- the tickets with their calls, in no order that a contract names, and how many can be added without memory
pub record PastView : Type 0 where
  pub entries : List (List ℕ × Kept)
  pub spare : ℕ

-- the call that passed on a ticket
abbrev pub found : PastView → List ℕ → Option Kept
found past ticket = lookup (bytes_eq ticket) past.entries

-- what a purge leaves of a ticket's call: nothing exactly if its last second is below the moment
abbrev pub unless_below : ℕ → Option Kept → Option Kept
unless_below moment None = None
unless_below moment (Some kept) = if nat_lt kept.last moment then None else Some kept

-- the calls whose last second isn't below the moment
abbrev pub kept_from : ℕ → List (List ℕ × Kept) → List (List ℕ × Kept)
kept_from moment entries = filter (λ e. nat_le moment e.1.last) entries
