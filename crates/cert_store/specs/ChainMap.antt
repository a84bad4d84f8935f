-- The chain map (this project's own rule): which file has the certificates of which x5u, the header parameter of RFC
-- 7515, section 4.1.5. A line is `X5U FILE`, and a map has at most 50,000 lines, those that are passed over too.
use Rattle.std.specs.Prelude.{◌≡◌, true, ℕ, ◌<◌, ◌≤◌, ◌⊎◌, Bool, ◌&&◌, nat_le, List, [], ◌∷◌, length, map, filter}
use Rattle.std.specs.Prelude.{is_some, Option, Some, None, option_and_then, Result, Ok, Err, if◌then◌else◌}
use Rattle.std.specs.List.{list_all}
use Rattle.std.specs.Map.{lookup}
use Rattle.std.specs.Str.{bytes_eq}
use Rattle.lists.specs.Given.{IsFaultOf}
use Rattle.text_grammar.specs.FileLines.{file_lines, text_lines}
use Rattle.text_grammar.specs.LineWords.{line_words}
use Rattle.text_grammar.specs.ReadLines.{read_lines, Refuses}
use Rattle.text_grammar.specs.Bytes.{is_uri_byte, is_visible}
use Rattle.cert_store.specs.Files.{Files}
use Rattle.cert_store.specs.declared.map.MapFault.{MapFault}
use Rattle.cert_store.specs.declared.map.MapFault.TheVariants.{Line, Memory}
use Rattle.text_grammar.specs.Rows.{one_row, EachFits}

-- ---- a line

-- an x5u, and the name of the file that has its certificates
pub record Row : Type 0 where
  pub x5u : List ℕ
  pub file : List ℕ

-- bytes of the uri alphabet; a word has at least one, and this one may have any number
abbrev pub is_x5u : List ℕ → Bool
is_x5u word = list_all is_uri_byte word

-- at most 255 bytes of visible ASCII; a word has at least one
abbrev pub is_file_name : List ℕ → Bool
is_file_name word = nat_le (length word) 255 && list_all is_visible word

-- the same by what holds of the word
pub record IsFileName (word : List ℕ) : Type 0 where
  pub most : length word ≤ 255
  pub visible : list_all is_visible word ≡ true

abbrev pub row_of_two : List ℕ → List ℕ → Option Row
row_of_two x5u file = if is_x5u x5u && is_file_name file then Some (record { x5u = x5u; file = file }) else None

-- exactly two words
abbrev pub row_of_words : List (List ℕ) → Option Row
row_of_words [] = None
row_of_words (a ∷ []) = None
row_of_words (x5u ∷ file ∷ []) = row_of_two x5u file
row_of_words (a ∷ b ∷ c ∷ more) = None

-- what a line of the map says
unfoldable pub row_of : List ℕ → Option Row
row_of line = option_and_then row_of_words (line_words line)

-- ---- what the rows say

-- the file of the row with this x5u
abbrev pub file_in : List Row → List ℕ → Option (List ℕ)
file_in [] x5u = None
file_in (row ∷ rows) x5u = if bytes_eq row.x5u x5u then Some row.file else file_in rows x5u

-- ---- the whole map

-- the row lists an x5u that one of the rows lists already
abbrev pub is_repeated : List Row → Row → Bool
is_repeated rows row = is_some (file_in rows row.x5u)

-- one row more; of two lines with one x5u the second is bad
abbrev pub add_row : List Row → List ℕ → Option (List Row)
add_row = one_row row_of is_repeated

-- those of the lines that are among the first 50,000
abbrev pub up_to_limit : List (ℕ × List ℕ) → List (ℕ × List ℕ)
up_to_limit lines = filter (λ line. nat_le line.0 50000) lines

-- the lines that say something among the first 50,000
abbrev pub first_lines : List ℕ → List (ℕ × List ℕ)
first_lines text = up_to_limit (text_lines text)

-- their rows in order, or the number of the first bad one of them
abbrev pub first_rows : List ℕ → Result (List Row) ℕ
first_rows text = read_lines add_row (first_lines text) []

-- a 50,001st line is bad, whatever it says
abbrev pub within_limit : List ℕ → Result (List Row) ℕ → Result (List Row) ℕ
within_limit text (Ok rows) = if nat_le (length (file_lines text)) 50000 then Ok rows else Err 50001
within_limit text (Err number) = Err number

-- the rows of the map in order, or the number of its first bad line
unfoldable pub map_rows : List ℕ → Result (List Row) ℕ
map_rows text = within_limit text (first_rows text)

-- no row lists the x5u of one before it
abbrev pub ListsOnce : List Row → List Row → Type 0
ListsOnce = EachFits is_repeated

-- the text is a chain map with these rows
pub record MapText (text : List ℕ) (rows : List Row) : Type 0 where
  pub lines : map (λ line. row_of line.1) (first_lines text) ≡ map Some rows
  pub once : ListsOnce [] rows
  pub count : length (file_lines text) ≤ 50000

-- the first 50,000 lines are read, and there are more
pub record HasMore (text : List ℕ) : Type 0 where
  pub rows : List Row
  pub read : first_rows text ≡ Ok rows
  pub more : 50000 < length (file_lines text)

-- the first line of the text that is bad has this number: one that is refused among the first 50,000, or the one after
-- them
abbrev pub FirstBad : List ℕ → ℕ → Type 0
FirstBad text number = Refuses add_row (first_lines text) [] number ⊎ ((number ≡ 50001) × HasMore text)

-- ---- what is kept of it

-- the file that is listed for the x5u
abbrev pub listed : Files → List ℕ → Option (List ℕ)
listed files x5u = lookup (bytes_eq x5u) files

-- the text is a chain map, and each x5u has the file that its row says
pub record MapOf (text : List ℕ) (held : Files) : Type 0 where
  pub rows : List Row
  pub read : map_rows text ≡ Ok rows
  pub files : (x5u : List ℕ) → listed held x5u ≡ file_in rows x5u

-- the line of a fault other than `Memory`
abbrev pub line_of : MapFault → Option ℕ
line_of (Line number) = Some number
line_of Memory = None

-- the fault names the first bad line
abbrev pub FaultOf : List ℕ → MapFault → Type 0
FaultOf text fault = IsFaultOf (line_of fault) (map_rows text)
