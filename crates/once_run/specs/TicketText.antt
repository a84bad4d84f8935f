-- A text of tickets (this project's own format): a line for each, of its 32 bytes in hex digits. `text_lines` are the
-- lines of a text that say something, each with its number.
use Rattle.std.specs.Prelude.{◌≡◌, ◌⊎◌, ℕ, ◌≤◌, List, [], ◌∷◌, ◌++◌, length}
use Rattle.text_grammar.specs.FileLines.{text_lines}
use Rattle.stir_outside.specs.AnswersLine.{IsHex}

-- the line is the ticket's 32 bytes, two hex digits each, of either case
abbrev pub IsTicketLine : List ℕ → List ℕ → Type 0
IsTicketLine line ticket = IsHex 32 ticket line

-- these lines have these tickets, one each
abbrev pub HaveTickets : List (ℕ × List ℕ) → List (List ℕ) → Type 0
HaveTickets [] [] = Unit {0}
HaveTickets [] (ticket ∷ tickets) = ⊥
HaveTickets (line ∷ lines) [] = ⊥
HaveTickets (line ∷ lines) (ticket ∷ tickets) = IsTicketLine line.1 ticket × HaveTickets lines tickets

-- The text has these tickets, in this order
pub record TicketText (text : List ℕ) (tickets : List (List ℕ)) : Type 0 where
  pub lines : HaveTickets (text_lines text) tickets
  pub few : length tickets ≤ 1000000

-- The line of this number is the first that is refused: those before it have tickets, and it has none, or they are as
-- many as a text may have
pub record IsBadLine (text : List ℕ) (number : ℕ) : Type 0 where
  pub before : List (ℕ × List ℕ)
  pub tickets : List (List ℕ)
  pub line : List ℕ
  pub after : List (ℕ × List ℕ)
  pub split : text_lines text ≡ before ++ (number, line) ∷ after
  pub read : HaveTickets before tickets
  pub few : length tickets ≤ 1000000
  pub refused : ((ticket : List ℕ) → IsTicketLine line ticket → ⊥) ⊎ (length tickets ≡ 1000000)
