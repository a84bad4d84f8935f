-- What is answered to a text of tickets (this project's own rule).
use Rattle.std.specs.Prelude.{◌≡◌, ℕ, Bool, List, Result, Ok, Err}
use Rattle.once_run.specs.TicketText.{IsBadLine, TicketText}
use Rattle.once_run.specs.declared.fault.TicketsFault.{TicketsFault}
use Rattle.once_run.specs.declared.fault.TicketsFault.TheVariants.{Line, Memory}
use Rattle.live_desk.specs.declared.claim.LiveClaim.{LiveClaim}
use Rattle.once_run.specs.Claims.{AreClaims}
use Rattle.once_run.specs.Lines.{all_won, claim_lines}

-- the lines, and whether each claim won its ticket
pub record ReportView : Type 0 where
  pub text : List ℕ
  pub all_won : Bool

-- the text has tickets, and the report has a line for each
pub record Reports (size : ℕ) (input : List ℕ) (report : ReportView) : Type 0 where
  pub tickets : List (List ℕ)
  pub claims : List LiveClaim
  pub read : TicketText input tickets
  pub are : AreClaims size tickets claims
  pub text_is : report.text ≡ claim_lines claims
  pub won_is : report.all_won ≡ all_won claims

-- a report of the tickets, or the bad line of the text; memory may have run out
abbrev pub OnceRan : ℕ → List ℕ → Result ReportView TicketsFault → Type 0
OnceRan size input (Ok report) = Reports size input report
OnceRan size input (Err (Line number)) = IsBadLine input number
OnceRan size input (Err Memory) = Unit {0}
