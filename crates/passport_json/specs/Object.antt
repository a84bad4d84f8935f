-- The JSON object that bytes are, by `serde_json` (RFC 7515, section 5.2: header and payload are UTF-8 texts of
-- objects).
use Rattle.std.specs.Prelude.{◌≡◌, ℕ, Bool, List, Option, Some, None, is_some, option_and_then, IsUtf8, if◌then◌else◌}
use Rattle.std.specs.Str.{is_utf8}
use Rattle.serde_json.specs.Data.{Data, null, boolean, number, string, array, object, Members}
use Rattle.serde_json.specs.Find.{as_object}
use Rattle.serde_json.specs.Read.{read}

-- the value is an object
abbrev pub is_object : Data → Bool
is_object value = is_some (as_object value)

-- the bytes are UTF-8, `serde_json` reads this value from them, and it is an object
pub record IsObjectText (bytes : List ℕ) (value : Data) : Type 0 where
  pub members : Members
  pub utf8 : IsUtf8 bytes
  pub read_as : read bytes ≡ Some value
  pub is_object : value ≡ object members

-- the value, if it is an object
abbrev pub only_object : Data → Option Data
only_object null = None
only_object (boolean b) = None
only_object (number n) = None
only_object (string s) = None
only_object (array items) = None
only_object (object members) = Some (object members)

-- the object that the bytes are, if they are one
abbrev pub object_of : List ℕ → Option Data
object_of bytes = if is_utf8 bytes then option_and_then only_object (read bytes) else None
