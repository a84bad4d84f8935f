-- A message head read line by line, with its first fault. That this is what `Head` and `FormOf` say of the bytes is
-- shown by laws.
use Rattle.std.specs.Prelude.{ℕ, Bool, true, false, ◌&&◌, nat_le, List, [], ◌∷◌, ◌++◌, length, map, filter, Option}
use Rattle.std.specs.Prelude.{Some, None, Result, Ok, Err, if◌then◌else◌}
use Rattle.std.specs.Option.{option_map}
use Rattle.sip_message.specs.declared.fault.FormFault.{FormFault}
use Rattle.sip_message.specs.FieldLine.{field_line}
use Rattle.text_grammar.specs.Bytes.{is_empty}
use Rattle.sip_message.specs.Lines.{LineView, continuations, is_continuation, lines_of}
use Rattle.sip_message.specs.Message.{FieldView, MessageView}
use Rattle.sip_message.specs.Names.{is_from, is_to}
use Rattle.sip_message.specs.StartLine.{start_line}
use Rattle.sip_message.specs.Value.{value_of}

-- a header field and the offset of its first line
pub record PlacedField : Type 0 where
  pub place : ℕ
  pub field : FieldView

-- the fields of a head and the offset of the empty line that ends it
pub record HeadView : Type 0 where
  pub fields : List PlacedField
  pub end : ℕ

abbrev pub fault : ℕ → ℕ → FormFault
fault kind place = record { kind = kind; place = place }

-- goes on with what is there, or fails
abbrev pub or_fault : {X Y : Type 0} → FormFault → (X → Result Y FormFault) → Option X → Result Y FormFault
or_fault e next None = Err e
or_fault e next (Some x) = next x

-- ---- the fields

-- the field that begins with the line and goes on over the continuations
abbrev pub field_at : LineView → List (List ℕ) → Option PlacedField
field_at line continued = option_map (λ (parts : List ℕ × List ℕ).
    record { place = line.place; field = record { name = parts.0; value = value_of parts.1 continued } })
    (field_line line.text)

-- the fields so far with those of the lines up to the first empty one; `inside` after a field line or a continuation of
-- it
abbrev pub fields_after : ℕ → Bool → List PlacedField → List LineView → Result HeadView FormFault
fields_after size inside fields [] = Err (fault 4 size)
fields_after size inside fields (line ∷ others) = if is_empty line.text
    then Ok (record { fields = fields; end = line.place }) else (if inside && is_continuation line.text
    then fields_after size true fields others else or_fault (fault 3 line.place)
    (λ field. fields_after size true (fields ++ field ∷ []) others) (field_at line (continuations others)))

-- ---- From and To

-- of the fields that should be one: the place of the second, or the end of the head if there is none
abbrev pub surplus_of : ℕ → List PlacedField → Option ℕ
surplus_of end [] = Some end
surplus_of end (one ∷ []) = None
surplus_of end (one ∷ second ∷ others) = Some second.place

-- the same if one was found before, or none
abbrev pub surplus_after : Bool → ℕ → List PlacedField → Option ℕ
surplus_after false end fields = surplus_of end fields
surplus_after true end [] = None
surplus_after true end (second ∷ others) = Some second.place

-- the fields whose name passes
abbrev pub placed_named : (List ℕ → Bool) → List PlacedField → List PlacedField
placed_named test fields = filter (λ (placed : PlacedField). test placed.field.name) fields

-- the place at which the fields with such a name aren't exactly one
abbrev pub surplus : (List ℕ → Bool) → HeadView → Option ℕ
surplus test head = surplus_of head.end (placed_named test head.fields)

abbrev pub unless_surplus : ℕ → Option ℕ → Result MessageView FormFault → Result MessageView FormFault
unless_surplus kind None result = result
unless_surplus kind (Some place) result = Err (fault kind place)

-- ---- the message

abbrev pub message : List ℕ × List ℕ → HeadView → MessageView
message start head =
    record { method = start.0; uri = start.1; fields = map (λ (placed : PlacedField). placed.field) head.fields }

abbrev pub checked : List ℕ × List ℕ → Result HeadView FormFault → Result MessageView FormFault
checked start (Err e) = Err e
checked start (Ok head) =
    unless_surplus 5 (surplus is_from head) (unless_surplus 6 (surplus is_to head) (Ok (message start head)))

abbrev pub read_lines : ℕ → List LineView → Result MessageView FormFault
read_lines size [] = Err (fault 4 size)
read_lines size (first ∷ others) =
    or_fault (fault 2 0) (λ start. checked start (fields_after size false [] others)) (start_line first.text)

-- the message that the bytes begin with, or the first fault
unfoldable pub read : List ℕ → Result MessageView FormFault
read bytes = if nat_le (length bytes) 65535 then read_lines (length bytes) (lines_of bytes) else Err (fault 1 65535)
