-- A state file read line by line: the state, or the number of the first line that can't be read, or of the one after
-- the last if lines are missing.
use Rattle.std.specs.Prelude.{ℕ, suc, nat_le, Bool, false, ◌&&◌, ◌==◌, List, [], ◌∷◌, ◌++◌, length, slice_get, ◌-◌}
use Rattle.std.specs.Prelude.{codes, Option, Some, None, option_and_then, Result, Ok, Err, if◌then◌else◌}
use Rattle.std.specs.Option.{option_map}
use Rattle.std.specs.Str.{bytes_eq}
use Rattle.lists.specs.Steps.{◌>>=◌}
use Rattle.hex.specs.Hex.{decode_sized, encode_lower}
use Rattle.text_grammar.specs.Bytes.{is_empty}
use Rattle.text_grammar.specs.Cut.{behind, cut}
use Rattle.text_grammar.specs.Decimal.{number_up_to}
use Rattle.text_grammar.specs.Moment.{last_second}
use Rattle.state_text.specs.Lines.{ended_lines}
use Rattle.state_text.specs.State.{Entry, StateView, is_above, none_kept}
use Rattle.state_text.specs.StateText.{head_line}

-- ---- limits

-- a day, in seconds
abbrev pub most_window : ℕ
most_window = 86400

-- the greatest number of a last call that a text may have
abbrev pub most_call : ℕ
most_call = 4000000000

-- the last second at which a PASSporT may be fresh: a day after the last second of the year 9999
abbrev pub most_last : ℕ
most_last = 253402387199

-- ---- a line

abbrev pub last_number : ℕ → List ℕ × List ℕ → Option ℕ
last_number most parts = if is_empty parts.1 then number_up_to most parts.0 else None

-- a number up to the LF with which the text ends
unfoldable pub ended_number : ℕ → List ℕ → Option ℕ
ended_number most text = option_and_then (last_number most) (cut 10 text)

-- the number of at most `most` after the name
unfoldable pub number_on : List ℕ → ℕ → List ℕ → Option ℕ
number_on name most line = option_and_then (ended_number most) (behind name line)

-- the bytes of which this is the text in lower-case hex digits
abbrev pub written_when : List ℕ → List ℕ → Option (List ℕ)
written_when word ticket = if bytes_eq (encode_lower ticket) word then Some ticket else None

abbrev pub written_as : {E : Type 0} → List ℕ → Result (List ℕ) E → Option (List ℕ)
written_as word (Err fault) = None
written_as word (Ok ticket) = written_when word ticket

unfoldable pub ticket_of : List ℕ → Option (List ℕ)
ticket_of word = written_as word (decode_sized word 32)

abbrev pub unless_zero : Option ℕ → Option ℕ
unless_zero None = None
unless_zero (Some number) = if number == 0 then None else Some number

-- the number of a call, which is at least 1
abbrev pub call_number : ℕ → List ℕ → Option ℕ
call_number most digits = unless_zero (number_up_to most digits)

abbrev pub kept_by : List ℕ → Option ℕ → Option ℕ → Option Entry
kept_by ticket None last = None
kept_by ticket (Some call) None = None
kept_by ticket (Some call) (Some last) = Some (ticket, record { call = call; last = last })

abbrev pub numbers_on : ℕ → List ℕ → List ℕ × List ℕ → Option Entry
numbers_on most ticket parts = kept_by ticket (call_number most parts.0) (ended_number most_last parts.1)

abbrev pub call_on : ℕ → List ℕ → List ℕ → Option Entry
call_on most rest ticket = option_and_then (numbers_on most ticket) (cut 32 rest)

abbrev pub ticket_on : ℕ → List ℕ × List ℕ → Option Entry
ticket_on most parts = option_and_then (call_on most parts.1) (ticket_of parts.0)

-- a ticket with a call of at most this number
unfoldable pub kept_on : ℕ → List ℕ → Option Entry
kept_on most line = option_and_then (ticket_on most) (option_and_then (cut 32) (behind (codes "kept ") line))

-- ---- the lines

-- the number after this name on the next line, with the lines after it
abbrev pub or_line : ℕ → List (List ℕ) → Option ℕ → Result (ℕ × ℕ × List (List ℕ)) ℕ
or_line number others None = Err number
or_line number others (Some value) = Ok (value, suc number, others)

abbrev pub next_number : List ℕ → ℕ → ℕ → List (List ℕ) → Result (ℕ × ℕ × List (List ℕ)) ℕ
next_number name most number [] = Err number
next_number name most number (line ∷ others) = or_line number others (number_on name most line)

abbrev pub last_ticket : List Entry → Option (List ℕ)
last_ticket entries = option_map (λ (entry : Entry). entry.0) (slice_get entries (length entries - 1))

abbrev pub is_count : ℕ → Option ℕ → Bool
is_count count None = false
is_count count (Some number) = number == count

-- an entry of a call up to this number may come after these
abbrev pub follows : ℕ → List Entry → Entry → Bool
follows call before entry = nat_le 1 entry.1.call && nat_le entry.1.call call && nat_le entry.1.last most_last
    && is_above (last_ticket before) entry.0

-- the line after these entries says how many they are
abbrev pub ends : List Entry → List ℕ → Bool
ends before line = is_count (length before) (number_on (codes "end ") 4294967295 line)

-- an entry more, or the end
abbrev pub entry_or_end : ℕ → List Entry → List ℕ → (List Entry → Result (List Entry) ℕ)
    → Option Entry → Result (List Entry) ℕ
entry_or_end number before line next (Some entry) =
    if is_above (last_ticket before) entry.0 then next (before ++ entry ∷ []) else Err number
entry_or_end number before line next None = if ends before line then Ok before else Err number

-- the entries up to the line that says how many they are
abbrev pub entries_in : ℕ → ℕ → List Entry → List (List ℕ) → Result (List Entry) ℕ
entries_in most number before [] = Err number
entries_in most number before (line ∷ others) =
    entry_or_end number before line (λ entries. entries_in most (suc number) entries others) (kept_on most line)

-- the state after its first line
unfoldable pub state_in : ℕ → List (List ℕ) → Result StateView ℕ
state_in number lines = do
  window ← next_number (codes "window ") most_window number lines
  call ← next_number (codes "call ") most_call window.1 window.2
  moment ← next_number (codes "moment ") last_second call.1 call.2
  kept ← entries_in call.0 moment.1 [] moment.2
  Ok (record { window = window.0; call = call.0; moment = moment.0; kept = kept })

-- the lines after the first that is `past 1`; without its LF that is no other line
abbrev pub behind_head : ℕ → List (List ℕ) → Result (ℕ × List (List ℕ)) ℕ
behind_head number [] = Err number
behind_head number (line ∷ others) =
    if bytes_eq line head_line then Ok (suc number, others)
    else if bytes_eq line (codes "past 1") then Err number
    else behind_head (suc number) others

abbrev pub found_in : List (List ℕ) → Result StateView ℕ
found_in lines = do
  behind ← behind_head 1 lines
  state_in behind.0 behind.1

-- the state that a file holds; an empty file means one with this window in which nothing is kept
unfoldable pub read_state : ℕ → List ℕ → Result StateView ℕ
read_state window [] = Ok (none_kept window)
read_state window (byte ∷ more) = found_in (ended_lines (byte ∷ more))
