-- What an Identity value says, or where it stops being the beginning of one, as one function of its bytes. That this is
-- what the grammar says is shown by laws.
use Rattle.std.specs.Prelude.{ℕ, ◌-◌, List, length, Result, Ok, Err}
use Rattle.identity_header.specs.declared.field.FieldFault.{FieldFault}
use Rattle.identity_header.specs.Parts.{Parts}
use Rattle.identity_header.specs.Reading.{field_at}
use Rattle.text_grammar.specs.Reading.{Read}

-- the place of a fault is the number of bytes before what is left
abbrev pub placed : ℕ → Read Parts → Result Parts FieldFault
placed size (Ok parts) = Ok parts
placed size (Err left) = Err (record { place = size - length left })

abbrev pub read : List ℕ → Result Parts FieldFault
read value = placed (length value) (field_at value)
