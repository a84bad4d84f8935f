-- The claim `iat`, when a token was issued, in Unix seconds (RFC 8225, section 5.1.1).
use Rattle.std.specs.Prelude.{◌≡◌, ℕ, ◌≤◌, nat_le, codes, Option, Some, None, option_and_then, if◌then◌else◌}
use Rattle.serde_json.specs.Data.{Data, number, unsigned}
use Rattle.serde_json.specs.Find.{get, as_number, as_u64}
use Rattle.text_grammar.specs.Moment.{last_second}

-- the payload's `iat` is this integer, which 64 bits hold, and not past the limit
pub record IsIssuedAt (payload : Data) (seconds : ℕ) : Type 0 where
  pub member : get (codes "iat") payload ≡ Some (number (unsigned seconds))
  pub within : seconds ≤ last_second

abbrev pub not_past : ℕ → Option ℕ
not_past seconds = if nat_le seconds last_second then Some seconds else None

abbrev pub issued_at : Data → Option ℕ
issued_at payload =
    option_and_then not_past (option_and_then as_u64 (option_and_then as_number (get (codes "iat") payload)))
