-- The answers file (this project's own rule): signatures that were confirmed and made beforehand. A line is
-- `confirm KEY DIGEST SIGNATURE` or `sign NAME DIGEST SIGNATURE`. KEY, DIGEST and SIGNATURE are 65, 32 and 64 bytes in
-- hex digits of either case; KEY is an uncompressed point, so its first byte is 04 (SEC 1, section 2.3.3).
use Rattle.std.specs.Prelude.{◌≡◌, ◌+◌, ◌*◌, ℕ, Bool, false, ◌&&◌, ◌==◌, List, [], ◌∷◌, slice_index, is_some, codes}
use Rattle.std.specs.Prelude.{map, Option, Some, None, option_and_then, Result, if◌then◌else◌}
use Rattle.std.specs.List.{list_any}
use Rattle.std.specs.Option.{option_map, option_or}
use Rattle.std.specs.Result.{result_ok}
use Rattle.std.specs.Str.{bytes_eq}
use Rattle.hex.specs.Hex.{decode_sized, hex_digit_value}
use Rattle.text_grammar.specs.FileLines.{text_lines}
use Rattle.text_grammar.specs.LineWords.{line_words}
use Rattle.text_grammar.specs.ReadLines.{read_lines, Refuses}
use Rattle.stir_outside.specs.KeyName.{name_of}
use Rattle.stir_outside.specs.declared.answers.rows.Row.{Row}
use Rattle.stir_outside.specs.declared.answers.rows.Row.TheVariants.{Confirm, Sign}
use Rattle.text_grammar.specs.Rows.{one_row, EachFits}

-- ---- a line

-- the byte that two hex digits write
abbrev pub byte_of : ℕ → ℕ → Option ℕ
byte_of high low = option_and_then (λ h. option_map (λ l. h * 16 + l) (hex_digit_value low)) (hex_digit_value high)

-- the bytes that a word of so many pairs of hex digits writes
abbrev pub bytes_of : ℕ → List ℕ → Option (List ℕ)
bytes_of count word = result_ok (decode_sized word count)

-- the key that a word writes
abbrev pub key_of : List ℕ → Option (List ℕ)
key_of word = option_and_then (λ key. if slice_index key 0 == 4 then Some key else None) (bytes_of 65 word)

abbrev pub confirm_of : List ℕ → List ℕ → List ℕ → Option Row
confirm_of key digest signature = option_and_then (λ k. option_and_then
    (λ d. option_map (λ s. Confirm (record { key = k; digest = d; signature = s })) (bytes_of 64 signature))
    (bytes_of 32 digest)) (key_of key)

abbrev pub sign_of : List ℕ → List ℕ → List ℕ → Option Row
sign_of name digest signature = option_and_then (λ n.
    option_and_then (λ d. option_map (λ s. Sign (record { name = n; digest = d }) s) (bytes_of 64 signature))
    (bytes_of 32 digest)) (name_of name)

-- the first word says of which kind the line is
abbrev pub of_kind : List ℕ → List ℕ → List ℕ → List ℕ → Option Row
of_kind kind subject digest signature =
    if bytes_eq kind (codes "confirm") then confirm_of subject digest signature
    else if bytes_eq kind (codes "sign") then sign_of subject digest signature
    else None

abbrev pub row_of_words : List (List ℕ) → Option Row
row_of_words [] = None
row_of_words (a ∷ []) = None
row_of_words (a ∷ b ∷ []) = None
row_of_words (a ∷ b ∷ c ∷ []) = None
row_of_words (kind ∷ subject ∷ digest ∷ signature ∷ []) = of_kind kind subject digest signature
row_of_words (a ∷ b ∷ c ∷ d ∷ e ∷ more) = None

-- what a line says
unfoldable pub row_of : List ℕ → Option Row
row_of line = option_and_then row_of_words (line_words line)

-- ---- what the rows say

-- the row confirms this signature over this digest under this key
abbrev pub confirms : List ℕ → List ℕ → List ℕ → Row → Bool
confirms key digest signature (Confirm triple) =
    bytes_eq triple.key key && (bytes_eq triple.digest digest && bytes_eq triple.signature signature)
confirms key digest signature (Sign order made) = false

-- the triple is one of the rows
abbrev pub says : List Row → List ℕ → List ℕ → List ℕ → Bool
says rows key digest signature = list_any (confirms key digest signature) rows

-- the signature that the row has for this name and digest
abbrev pub signature_in : List ℕ → List ℕ → Row → Option (List ℕ)
signature_in name digest (Confirm triple) = None
signature_in name digest (Sign order made) =
    if bytes_eq order.name name && bytes_eq order.digest digest then Some made else None

-- the signature of the row with this name and digest
abbrev pub signs : List Row → List ℕ → List ℕ → Option (List ℕ)
signs [] name digest = None
signs (row ∷ rows) name digest = option_or (signature_in name digest row) (signs rows name digest)

-- ---- the whole file

-- the row signs what one of the rows signs already
abbrev pub is_repeated : List Row → Row → Bool
is_repeated rows (Confirm triple) = false
is_repeated rows (Sign order made) = is_some (signs rows order.name order.digest)

-- one row more; of two `sign` lines with one name and digest the second is bad
abbrev pub add_row : List Row → List ℕ → Option (List Row)
add_row = one_row row_of is_repeated

-- the rows of the file in order, or the number of its first bad line
unfoldable pub answer_rows : List ℕ → Result (List Row) ℕ
answer_rows text = read_lines add_row (text_lines text) []

-- no row signs what one before it signs
abbrev pub SignsOnce : List Row → List Row → Type 0
SignsOnce = EachFits is_repeated

-- the text is an answers file with these rows
pub record AnswersText (text : List ℕ) (rows : List Row) : Type 0 where
  pub lines : map (λ line. row_of line.1) (text_lines text) ≡ map Some rows
  pub once : SignsOnce [] rows

-- the first line of the text that is bad has this number
abbrev pub FirstBad : List ℕ → ℕ → Type 0
FirstBad text number = Refuses add_row (text_lines text) [] number
