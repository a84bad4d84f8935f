-- A look for a ticket at all levels (this project's own rule). Levels are counted from 0.
use Rattle.std.specs.Prelude.{Bool, true, false, ◌⊎◌, ◌≡◌, ℕ, ◌+◌, ◌*◌, ◌<◌, ◌≤◌, List, [], length}
use mathlib.Core.Logic.{◌↔◌}
use Rattle.live_desk.specs.Ticket.{pieces}
use Rattle.live_desk.specs.Trail.{BlankAt, FullAt, Trail}
use Rattle.live_desk.specs.Holder.{Holder, gained}
use Rattle.live_desk.specs.declared.view.SeenWord.{SeenWord}
use Rattle.live_desk.specs.declared.view.Blank.{Blank}

-- A look for a ticket, with the seat before and after it, and its answer
pub record Held (size : ℕ) (ticket : List ℕ) (before after : Holder) (answer : Bool) : Type 0 where
  -- what this look found, the last first
  pub seen : List SeenWord
  pub blanks : List Blank
  pub gained : after ≡ gained [] seen blanks before
  -- the seat stays one of its desk, with its share
  pub desk : after.desk ≡ before.desk
  pub share : after.share ≡ before.share
  -- true: it found the ticket's code at all six levels
  pub found : (answer ≡ true) ↔ ((slot : ℕ) × Trail [] seen (pieces ticket) 6 slot)
  -- false: at some level a word of the search was 0, or each word was found without the ticket's code
  pub not_found : (answer ≡ false)
      ↔ ((level : ℕ) × (level < 6) × (BlankAt size ticket seen blanks level ⊎ FullAt size ticket [] seen level))
  -- it found few words and zeros, and made few steps
  pub steps : length seen + length blanks ≤ 6 * size
  pub made : after.steps ≤ before.steps + 6 * size
