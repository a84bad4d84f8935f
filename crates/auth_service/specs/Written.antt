-- What the steps of the signer hand on: the PASSporT of an order, the line of its field, and the message that has room
-- for it.
use Rattle.std.specs.Prelude.{◌≡◌, ℕ, ◌+◌, ◌≤◌, List, length, Option, Some, None, Ok, IsTrue}
use Rattle.identity_header.specs.FieldText.{FieldText}
use Rattle.identity_header.specs.Parts.{Parts}
use Rattle.identity_header.specs.Read.{read as read_field}
use Rattle.sip_message.specs.Added.{is_field_value, with_line}
use Rattle.sip_message.specs.Message.{MessageView}
use Rattle.sip_message.specs.Reading.{read}
use Rattle.passport_claims.specs.Kind.{ppt_of}
use Rattle.passport_claims.specs.Passport.{ClaimsView}
use Rattle.auth_service.specs.declared.wanted.Shape.{Shape}
use Rattle.auth_service.specs.declared.wanted.Shape.TheVariants as shapes
use Rattle.auth_service.specs.Field.{field_name}
use Rattle.auth_service.specs.Order.{OrderView, kind_of}

-- the PASSporT is one of the order: of its type, with its URI, for one called number
pub record IsFor (order : OrderView) (claims : ClaimsView) : Type 0 where
  pub kind : claims.kind ≡ kind_of order.shape
  pub x5u : claims.x5u ≡ order.x5u
  pub called : length claims.dest ≡ 1

-- how many bytes the type adds to the field: `;ppt=` and its text, if there is one
abbrev pub type_size : Option (List ℕ) → ℕ
type_size None = 0
type_size (Some text) = 5 + length text

-- how many bytes the field's line has, by those of what is signed and of the URI
abbrev pub line_size : Shape → ℕ → ℕ → ℕ
line_size (shapes.Full kind) signing x5u = signing + x5u + 117 + type_size (ppt_of kind)
line_size shapes.Compact signing x5u = x5u + 118

-- the text is an Identity value with these parts, is read as these, and can be written in a line
pub record IsWrittenField (text : List ℕ) (field : Parts) : Type 0 where
  pub grammar : FieldText field text
  pub read_as : read_field text ≡ Ok field
  pub line : IsTrue (is_field_value text)

-- the bytes are a message that stays within its size with a field of this value
pub record HasRoomFor (bytes value : List ℕ) : Type 0 where
  pub message : MessageView
  pub read_as : read bytes ≡ Ok message
  pub short : length (with_line bytes field_name value) ≤ 65535
