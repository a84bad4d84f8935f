-- What is said of a text that is all that comes of a call.
use Rattle.std.specs.Prelude.{◌≡◌, ℕ, Bool, true, false, List, length}
use Rattle.stir_c.specs.Told.{no_room, no_ticket}
use Rattle.stir_c.specs.Written.{HasWritten}
use Rattle.stir_c.specs.declared.said.Said.{Said}

-- so many bytes are written, or there is no room for them
abbrev pub said_written : ℕ → Bool → Said
said_written size true =
    record { kind = 0; input = 0; rule = 0; code = 0; field = 0; part = 0; last = 0; size = size; ticket = no_ticket }
said_written size false = no_room size

-- the text was written or not, and so it is told
pub record ToldText (text before now : List ℕ) (said : Said) : Type 0 where
  pub written : Bool
  pub wrote : HasWritten text before now written
  pub told_is : said ≡ said_written (length text) written
