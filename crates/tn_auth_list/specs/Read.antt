-- What reading an authority list gives: its entries, or the first fault in the order in which its elements are read.
use Rattle.std.specs.Prelude.{ℕ, zero, suc, ◌==◌, nat_lt, Bool, List, [], ◌∷◌, ◌++◌, length, Option, Some, None, Result}
use Rattle.std.specs.Prelude.{Ok, Err, if◌then◌else◌}
use Rattle.der_reader.specs.declared.fault.DerFault.{DerFault}
use Rattle.der_reader.specs.Integer.{unsigned_of}
use Rattle.tn_values.specs.Digit.{are_digits}
use Rattle.tn_values.specs.Number.{exact, is_number}
use Rattle.tn_values.specs.Span.{SpanView, span_of}
use Rattle.der_reader.specs.declared.part.Fault.{Fault}
use Rattle.der_reader.specs.Part.{ItemView, PartView, element_at, end_at, item_at, or_fault, whole_text}
use Rattle.der_reader.specs.Tags.{integer_tag, ia5_string_tag, sequence_tag}
use Rattle.tn_auth_list.specs.declared.entries.Entry.{Entry}
use Rattle.tn_auth_list.specs.declared.entries.Entry.TheVariants.{Code, Range, Single}
use Rattle.tn_auth_list.specs.Code.{is_code}
use Rattle.lists.specs.Steps.{◌>>=◌}
use Rattle.tn_auth_list.specs.Fault.{der_at, no_entry, no_code_at, no_number_at, no_count_at, past_limit_at}
use Rattle.tn_auth_list.specs.ListText.{code_tag, range_tag, single_tag}

-- the IA5String of a text that passes this test, and nothing more
unfoldable pub string_in : (List ℕ → Bool) → (ℕ → Fault) → (List ℕ → Entry) → PartView → Result Entry Fault
string_in passes fault_at entry part = do
  string ← element_at ia5_string_tag part
  text ← or_fault (if passes string.content.left then Some string.content.left else None) (fault_at string.place)
  end_at string.behind (entry text)

abbrev pub code_in : PartView → Result Entry Fault
code_in part = string_in is_code no_code_at Code part

abbrev pub single_in : PartView → Result Entry Fault
single_in part = string_in is_number no_number_at Single part

-- the start of a range: a number of digits alone
abbrev pub start_of : List ℕ → Option (List ℕ)
start_of text = if are_digits text then exact text else None

-- the range of a start and the INTEGER of its count, which is 2 at least
abbrev pub counted : List ℕ → Result ℕ DerFault → Option SpanView
counted start (Ok count) = if nat_lt count 2 then None else span_of start count
counted start (Err fault) = None

-- the IA5String of a start and the INTEGER of a count, and nothing more
unfoldable pub span_in : PartView → Result SpanView Fault
span_in part = do
  string ← element_at ia5_string_tag part
  start ← or_fault (start_of string.content.left) (no_number_at string.place)
  integer ← element_at integer_tag string.behind
  span ← or_fault (counted start (unsigned_of integer.tag integer.content.left)) (no_count_at integer.place)
  end_at integer.behind span

-- the SEQUENCE of a range, and nothing more
unfoldable pub range_in : PartView → Result Entry Fault
range_in part = do
  sequence ← element_at sequence_tag part
  span ← span_in sequence.content
  end_at sequence.behind (Range span)

-- an entry, by its tag [0], [1] or [2]
unfoldable pub entry_in : ItemView → Result Entry Fault
entry_in item =
    if item.tag == code_tag then code_in item.content
    else (if item.tag == range_tag then range_in item.content
    else (if item.tag == single_tag then single_in item.content
    else Err (der_at item.place)))

-- after these entries as many as there is room for, up to the end of the part; one more is past the limit where it
-- begins
unfoldable pub entries_from : ℕ → List Entry → PartView → Result (List Entry) Fault
entries_from zero before part = if length part.left == 0 then Ok before else Err (past_limit_at part.place)
entries_from (suc room) before part =
    if length part.left == 0 then Ok before
    else (item_at part >>= λ item. entry_in item >>= λ entry. entries_from room (before ++ entry ∷ []) item.behind)

-- the entries of a list's SEQUENCE, of which there is one at least
unfoldable pub content_entries : PartView → Result (List Entry) Fault
content_entries part = if length part.left == 0 then Err no_entry else entries_from 1000 [] part

-- the entries of the list that the bytes are, or its first fault
unfoldable pub read_list : List ℕ → Result (List Entry) Fault
read_list bytes = do
  list ← element_at sequence_tag (whole_text bytes)
  entries ← content_entries list.content
  end_at list.behind entries
