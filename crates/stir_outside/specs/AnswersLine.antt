-- A line of the answers file as it is written (this project's own rule): what `row_of` reads of it, in the words of the
-- format.
use Rattle.std.specs.Prelude.{◌≡◌, true, ℕ, List, [], ◌∷◌, length, slice_index, codes}
use Rattle.std.specs.List.{join_with_byte}
use Rattle.std.specs.Str.{str_to_ascii_lowercase}
use Rattle.hex.specs.Hex.{IsBytes, encode_lower}
use Rattle.stir_outside.specs.KeyName.{is_name}
use Rattle.stir_outside.specs.declared.answers.rows.Order.{Order}
use Rattle.stir_outside.specs.declared.answers.rows.Row.{Row}
use Rattle.stir_outside.specs.declared.answers.rows.Row.TheVariants.{Confirm, Sign}
use Rattle.stir_outside.specs.declared.answers.rows.Triple.{Triple}

-- the word is so many bytes, two hex digits each, of either case
pub record IsHex (count : ℕ) (bytes word : List ℕ) : Type 0 where
  pub size : length bytes ≡ count
  pub are_bytes : IsBytes bytes
  pub digits : str_to_ascii_lowercase word ≡ encode_lower bytes

-- `confirm KEY DIGEST SIGNATURE`, with one space between each two words; the key is an uncompressed point (SEC 1,
-- section 2.3.3)
pub record IsConfirmLine (line : List ℕ) (triple : Triple) : Type 0 where
  pub key : List ℕ
  pub digest : List ℕ
  pub signature : List ℕ
  pub line_is : line ≡ join_with_byte 32 (codes "confirm" ∷ key ∷ digest ∷ signature ∷ [])
  pub key_is : IsHex 65 triple.key key
  pub uncompressed : slice_index triple.key 0 ≡ 4
  pub digest_is : IsHex 32 triple.digest digest
  pub signature_is : IsHex 64 triple.signature signature

-- `sign NAME DIGEST SIGNATURE`, with one space between each two words
pub record IsSignLine (line : List ℕ) (order : Order) (made : List ℕ) : Type 0 where
  pub digest : List ℕ
  pub signature : List ℕ
  pub line_is : line ≡ join_with_byte 32 (codes "sign" ∷ order.name ∷ digest ∷ signature ∷ [])
  pub name_is : is_name order.name ≡ true
  pub digest_is : IsHex 32 order.digest digest
  pub signature_is : IsHex 64 made signature

-- the line says the row
abbrev pub IsRowLine : List ℕ → Row → Type 0
IsRowLine line (Confirm triple) = IsConfirmLine line triple
IsRowLine line (Sign order made) = IsSignLine line order made
