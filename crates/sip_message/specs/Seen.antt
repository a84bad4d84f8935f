-- How contracts see the values of the code.
use Rattle.std.specs.Prelude.{◌≡◌, ℕ, List, map, Option, Some, None, Result, Ok, Err}
use Rattle.lists.specs.Given as given
use Rattle.sip_message.specs.declared.fault.FormFault.{FormFault}
use Rattle.sip_message.specs.declared.fault.MessageFault.{MessageFault}
use Rattle.sip_message.specs.declared.fault.MessageFault.TheVariants.{Form, Memory}
use Rattle.sip_message.specs.declared.field.Field.{Field}
use Rattle.sip_message.specs.declared.head.HeadFields.{HeadFields}
use Rattle.sip_message.specs.declared.lines.Line.{Line}
use Rattle.sip_message.specs.declared.message.Parts.{Parts}
use Rattle.sip_message.specs.declared.value.Value.{Value}
use Rattle.sip_message.specs.declared.value.Value.TheVariants.{View, Joined}
use Rattle.sip_message.specs.Lines.{LineView}
use Rattle.sip_message.specs.Message.{FieldView, MessageView}
use Rattle.sip_message.specs.Reading.{HeadView, PlacedField}

abbrev pub line_seen : Line → LineView
line_seen line = record { place = line.place; text = line.text.now }

abbrev pub value_seen : Value → List ℕ
value_seen (View text) = text.now
value_seen (Joined bytes) = bytes.items

abbrev pub field_seen : Field → FieldView
field_seen field = record { name = field.name; value = value_seen field.value }

abbrev pub placed_seen : Field → PlacedField
placed_seen field = record { place = field.place; field = field_seen field }

abbrev pub head_seen : HeadFields → HeadView
head_seen head = record { fields = map placed_seen head.fields.items; end = head.end }

abbrev pub parts_seen : Parts → MessageView
parts_seen parts = record { method = parts.method.now; uri = parts.uri.now; fields = map field_seen parts.fields.items }

-- ---- results, in which running out of memory is always allowed

-- a fault other than running out of memory
abbrev pub fault_seen : MessageFault → Option FormFault
fault_seen (Form fault) = Some fault
fault_seen Memory = None

-- the code gives what is read, or its fault
abbrev pub Gives : {X Y : Type 0} → (X → Y) → Result X MessageFault → Result Y FormFault → Type 0
Gives seen result read = given.Gives fault_seen seen result read

-- a value with this property came; or memory ran out
abbrev pub IsOkUnlessMemory : {X : Type 0} → Result X MessageFault → (X → Type 0) → Type 0
IsOkUnlessMemory result P = given.IsOkUnlessMemory fault_seen result P

-- the code gives what is there, or the fault if it isn't
abbrev pub GivesOr : {X Y : Type 0} → (X → Y) → FormFault → Result X MessageFault → Option Y → Type 0
GivesOr seen absent (Ok x) read = read ≡ Some (seen x)
GivesOr seen absent (Err (Form fault)) read = (read ≡ None) × (fault ≡ absent)
GivesOr seen absent (Err Memory) read = Unit {0}
