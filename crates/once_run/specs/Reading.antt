-- A text of tickets read line by line: the exact reading beside `TicketText`.
use Rattle.std.specs.Prelude.{ℕ, nat_le, Bool, List, [], length, Option, Result}
use Rattle.text_grammar.specs.FileLines.{text_lines}
use Rattle.text_grammar.specs.ReadLines.{read_lines}
use Rattle.text_grammar.specs.Rows.{one_row}
use Rattle.stir_outside.specs.AnswersText.{bytes_of}

-- the ticket on a line
unfoldable pub ticket_of : List ℕ → Option (List ℕ)
ticket_of line = bytes_of 32 line

-- there are as many tickets as a text may have
abbrev pub is_past : List (List ℕ) → List ℕ → Bool
is_past tickets ticket = nat_le 1000000 (length tickets)

-- the tickets with that of one line more
abbrev pub add_ticket : List (List ℕ) → List ℕ → Option (List (List ℕ))
add_ticket = one_row ticket_of is_past

-- the tickets of a text, or the number of its first bad line
unfoldable pub tickets_in : List ℕ → Result (List (List ℕ)) ℕ
tickets_in text = read_lines add_ticket (text_lines text) []
