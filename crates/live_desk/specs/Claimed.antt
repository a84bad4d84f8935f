-- A claim of a ticket (this project's own rule). Levels are counted from 0, but in the answer from 1.
use Rattle.std.specs.Prelude.{◌≡◌, ℕ, ◌+◌, ◌*◌, ◌<◌, ◌≤◌, List, [], length}
use mathlib.Core.Logic.{◌↔◌}
use Rattle.live_desk.specs.Lists.{In}
use Rattle.live_desk.specs.Ticket.{IsTicket}
use Rattle.live_desk.specs.Trail.{FoundLast, FullAt, SetLast}
use Rattle.live_desk.specs.Holder.{Holder, gained}
use Rattle.live_desk.specs.declared.view.SetWord.{SetWord}
use Rattle.live_desk.specs.declared.view.SeenWord.{SeenWord}
use Rattle.live_desk.specs.declared.claim.LiveClaim.{LiveClaim}
use Rattle.live_desk.specs.declared.claim.LiveClaim.TheVariants.{Won, Lost, Full}

-- the levels at which a claim with this answer may have set words: before the last if it is Lost, and before the full
-- level
abbrev pub BeforeFull : LiveClaim → ℕ → Type 0
BeforeFull Won level = level < 6
BeforeFull Lost level = level < 5
BeforeFull (Full n) level = level + 1 < n

-- A claim of a ticket, with the seat before and after it, and its answer
pub record Claimed (size : ℕ) (ticket : List ℕ) (before after : Holder) (answer : LiveClaim) : Type 0 where
  -- what this claim set and found, the last first
  pub sets : List SetWord
  pub seen : List SeenWord
  pub gained : after ≡ gained sets seen [] before
  -- the seat stays one of its desk, with its share
  pub desk : after.desk ≡ before.desk
  pub share : after.share ≡ before.share
  -- it set words for its own ticket alone
  pub own : (e : SetWord) → In e sets → (e.ticket ≡ ticket) × BeforeFull answer e.level
  -- Won: it set the ticket's word at the last level
  pub won : (answer ≡ Won) ↔ SetLast ticket sets seen
  -- Lost: it found the ticket's code at the last level
  pub lost : (answer ≡ Lost) ↔ FoundLast ticket sets seen
  -- Full: it found each word of that level nonzero, and none of them the ticket's code
  pub full : (n : ℕ)
      → (answer ≡ Full n) ↔ ((level : ℕ) × (n ≡ level + 1) × (level < 6) × FullAt size ticket sets seen level)
  -- it set and found few words, and made few steps, loads among them
  pub steps : length sets + length seen ≤ 6 * size
  pub made : after.steps ≤ before.steps + 6 * size
  pub ticket_is : IsTicket ticket
