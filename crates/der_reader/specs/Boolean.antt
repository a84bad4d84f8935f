-- A DER BOOLEAN: X.690, sections 8.2 and 11.1.
use Rattle.std.specs.Prelude.{ℕ, Bool, true, false, ◌&&◌, ◌||◌, ◌==◌, List, [], ◌∷◌, length, slice_index, Result, Ok}
use Rattle.std.specs.Prelude.{Err, if◌then◌else◌}
use Rattle.der_reader.specs.declared.fault.DerFault.{DerFault}
use Rattle.der_reader.specs.Fault.{bad_value}
use Rattle.der_reader.specs.Tags.{boolean_tag}

-- the one content of each truth value
abbrev pub boolean_text : Bool → List ℕ
boolean_text true = 0xFF ∷ []
boolean_text false = 0x00 ∷ []

-- what `Der::boolean` reads: a BOOLEAN (tag 01)
unfoldable pub boolean_of : ℕ → List ℕ → Result Bool DerFault
boolean_of tag content = if (tag == boolean_tag) && (length content == 1)
    && ((slice_index content 0 == 0xFF) || (slice_index content 0 == 0))
    then Ok (slice_index content 0 == 0xFF) else Err bad_value
