-- A header field by its name (RFC 3261, sections 7.3.1 and 7.3.3; RFC 8224, section 4, for Identity).
use Rattle.std.specs.Prelude.{◌≡◌, ℕ, Bool, true, ◌||◌, ◌&&◌, List, ◌∷◌, ◌++◌, length, filter, Option, codes}
use Rattle.std.specs.List.{slice_get}
use Rattle.std.specs.Str.{str_eq_ignore_ascii_case}
use Rattle.sip_message.specs.Accessors.{values}
use Rattle.sip_message.specs.Message.{FieldView, MessageView}

-- ---- names of one field

-- this is such a compact form, and that is its long name
abbrev pub is_pair : List ℕ → List ℕ → List ℕ → List ℕ → Bool
is_pair short long form name = str_eq_ignore_ascii_case short form && str_eq_ignore_ascii_case long name

-- the one is the compact form of the other (RFC 3261, section 20; RFC 8224, section 4, for Identity), in letters of
-- either case
abbrev pub is_compact_form : List ℕ → List ℕ → Bool
is_compact_form short long =
    is_pair short long (codes "c") (codes "Content-Type")
    || is_pair short long (codes "e") (codes "Content-Encoding")
    || is_pair short long (codes "f") (codes "From")
    || is_pair short long (codes "i") (codes "Call-ID")
    || is_pair short long (codes "k") (codes "Supported")
    || is_pair short long (codes "l") (codes "Content-Length")
    || is_pair short long (codes "m") (codes "Contact")
    || is_pair short long (codes "s") (codes "Subject")
    || is_pair short long (codes "t") (codes "To")
    || is_pair short long (codes "v") (codes "Via")
    || is_pair short long (codes "y") (codes "Identity")

-- two names are one field's: they differ in the case of letters alone, or one is the compact form of the other
abbrev pub is_one_field : List ℕ → List ℕ → Bool
is_one_field name other =
    str_eq_ignore_ascii_case name other || is_compact_form name other || is_compact_form other name

-- ---- the fields of a name

-- their values, in message order
abbrev pub values_named : List ℕ → List FieldView → List (List ℕ)
values_named name fields = values (is_one_field name) fields

-- the value of the field `i` of this name, counted from 0
abbrev pub field_value : MessageView → List ℕ → ℕ → Option (List ℕ)
field_value message name i = slice_get (values_named name message.fields) i

-- a field of this name has this value, and `i` fields of this name are before it
pub record IsFieldValue (name : List ℕ) (fields : List FieldView) (i : ℕ) (value : List ℕ) : Type 0 where
  pub earlier : List FieldView
  pub own : FieldView
  pub later : List FieldView
  pub parts : fields ≡ earlier ++ own ∷ later
  pub named : is_one_field name own.name ≡ true
  pub before : length (filter (λ (field : FieldView). is_one_field name field.name) earlier) ≡ i
  pub value_is : value ≡ own.value
