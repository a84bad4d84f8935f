-- The identifier of a call (RFC 8588, section 5): a UUID (RFC 4122, section 3) in 36 characters.
use Rattle.std.specs.Prelude.{◌≡◌, ℕ, ◌==◌, Bool, ◌&&◌, List, length, is_some, Option, Some, None, IsUtf8}
use Rattle.std.specs.Prelude.{if◌then◌else◌}
use Rattle.std.specs.Str.{is_utf8}
use Rattle.uuid.specs.Text.{parsed}

-- a text of 36 bytes that is read as a UUID
pub record IsOrigid (text : List ℕ) : Type 0 where
  pub uuid : List ℕ
  pub size : length text ≡ 36
  pub utf8 : IsUtf8 text
  pub read_as : parsed text ≡ Some uuid

-- the same as a test
unfoldable pub is_origid : List ℕ → Bool
is_origid text = (length text == 36) && is_utf8 text && is_some (parsed text)

-- the identifier that a text is
abbrev pub origid_of : List ℕ → Option (List ℕ)
origid_of text = if is_origid text then Some text else None
