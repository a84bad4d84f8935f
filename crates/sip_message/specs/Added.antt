-- A message with one more header field, in a line of its own directly before the empty line that ends the head (RFC
-- 3261, sections 7.3.1 and 7.5).
use Rattle.std.specs.Prelude.{ℕ, Bool, not, ◌||◌, ◌&&◌, nat_le, List, [], ◌∷◌, ◌++◌, length, take, drop, Result, Ok}
use Rattle.std.specs.Prelude.{Err, if◌then◌else◌}
use Rattle.std.specs.Str.{bytes_eq}
use Rattle.text_grammar.specs.Bytes.{is_empty}
use Rattle.text_grammar.specs.Cut.{lacks}
use Rattle.sip_message.specs.declared.fault.FormFault.{FormFault}
use Rattle.sip_message.specs.HeadAlphabet.{is_name}
use Rattle.sip_message.specs.Lines.{LineView, lines_of}
use Rattle.sip_message.specs.Message.{MessageView}
use Rattle.sip_message.specs.Names.{is_from, is_to}
use Rattle.sip_message.specs.Reading.{fault, read}
use Rattle.sip_message.specs.Value.{trimmed}

-- ---- what may be added

-- the name of a header field other than From and To, of which a message has exactly one each
abbrev pub is_addable : List ℕ → Bool
is_addable name = is_name name && not (is_from name || is_to name)

-- a value that can be in one line as it is: some bytes, without blanks at either end, without CR and LF
abbrev pub is_field_value : List ℕ → Bool
is_field_value value = not (is_empty value) && bytes_eq (trimmed value) value && lacks 13 value && lacks 10 value

-- ---- its place

-- the place of the first empty line; 0 if there is none
abbrev pub end_of : List LineView → ℕ
end_of [] = 0
end_of (line ∷ others) = if is_empty line.text then line.place else end_of others

abbrev pub head_end : List ℕ → ℕ
head_end bytes = end_of (lines_of bytes)

-- the line of a field: its name, a colon, a space, its value, CR and LF
abbrev pub written_field : List ℕ → List ℕ → List ℕ
written_field name value = name ++ 58 ∷ 32 ∷ (value ++ 13 ∷ 10 ∷ [])

-- the bytes with this line at this place
abbrev pub with_line_at : ℕ → List ℕ → List ℕ → List ℕ → List ℕ
with_line_at place bytes name value = take place bytes ++ (written_field name value ++ drop place bytes)

-- the bytes with this line before the empty line that ends the head
abbrev pub with_line : List ℕ → List ℕ → List ℕ → List ℕ
with_line bytes name value = with_line_at (head_end bytes) bytes name value

-- ---- what comes of it

-- the message with the field after all others
abbrev pub with_last : MessageView → List ℕ → List ℕ → MessageView
with_last message name value = record {
  method = message.method;
  uri = message.uri;
  fields = message.fields ++ record { name = name; value = value } ∷ [];
}

-- bytes that can be a message; else the fault of their size
abbrev pub sized : List ℕ → Result (List ℕ) FormFault
sized bytes = if nat_le (length bytes) 65535 then Ok bytes else Err (fault 1 65535)

abbrev pub sized_or_fault : Result MessageView FormFault → List ℕ → Result (List ℕ) FormFault
sized_or_fault (Err found) out = Err found
sized_or_fault (Ok message) out = sized out

-- the bytes with the field; the first fault of bytes that are no message; or that of their size if they grow too long
unfoldable pub added : List ℕ → List ℕ → List ℕ → Result (List ℕ) FormFault
added bytes name value = sized_or_fault (read bytes) (with_line bytes name value)
