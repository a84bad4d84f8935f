-- The code table: which telephone numbers a service provider code stands for (this project's own rule). Each line gives
-- a code all numbers, a range of them or a single one, and lines of one code add up.
use Rattle.std.specs.Prelude.{◌≡◌, ℕ, ◌-◌, ◌^◌, ◌⊎◌, Bool, true, false, not, ◌&&◌, nat_le, List, [], ◌∷◌, ◌++◌, map}
use Rattle.std.specs.Prelude.{count_by, Option, Some, None, option_and_then, Result, if◌then◌else◌}
use Rattle.std.specs.Option.{option_map}
use Rattle.std.specs.Set.{distinct_count}
use Rattle.std.specs.Str.{bytes_eq}
use Rattle.text_grammar.specs.Decimal.{number_up_to}
use Rattle.text_grammar.specs.FileLines.{text_lines}
use Rattle.text_grammar.specs.LineWords.{line_words}
use Rattle.text_grammar.specs.ReadLines.{read_lines, Refuses}
use Rattle.text_grammar.specs.Rows.{one_row}
use Rattle.tn_values.specs.Number.{exact}
use Rattle.tn_values.specs.Span.{SpanHolds, span_of}
use Rattle.tn_auth_list.specs.Code.{code_of}
use Rattle.tn_auth_list.specs.declared.table_rows.Gives.{Gives}
use Rattle.tn_auth_list.specs.declared.table_rows.Gives.TheVariants.{All, Range, Single}
use Rattle.tn_auth_list.specs.declared.table_rows.Row.{Row}

-- ---- a line

-- the numbers of the range that the words START and COUNT write: START is digits alone and may begin with zeros, COUNT
-- is a number of at least 2 and below 2 to the 64th
abbrev pub range_of : List ℕ → List ℕ → Option Gives
range_of start count = option_and_then (λ first. option_and_then (λ size. if nat_le 2 size
    then option_map Range (span_of first size) else None) (number_up_to (2 ^ 64 - 1) count)) (exact start)

-- the second of two words: `*` is all numbers, and any other is a number
abbrev pub given_of : List ℕ → Option Gives
given_of word = if bytes_eq word (42 ∷ []) then Some All else option_map Single (exact word)

abbrev pub with_code : List ℕ → Option Gives → Option Row
with_code code gives =
    option_and_then (λ of. option_map (λ given. record { code = of; gives = given }) gives) (code_of code)

-- `CODE *`, `CODE NUMBER` or `CODE START COUNT`
abbrev pub row_of_words : List (List ℕ) → Option Row
row_of_words [] = None
row_of_words (a ∷ []) = None
row_of_words (code ∷ given ∷ []) = with_code code (given_of given)
row_of_words (code ∷ start ∷ count ∷ []) = with_code code (range_of start count)
row_of_words (a ∷ b ∷ c ∷ d ∷ more) = None

-- what a line of the table says
unfoldable pub row_of : List ℕ → Option Row
row_of line = option_and_then row_of_words (line_words line)

-- ---- the whole table

-- how many different codes the rows name
abbrev pub code_count : List Row → ℕ
code_count rows = distinct_count bytes_eq (map (λ row. row.code) rows)

abbrev pub is_all : Gives → Bool
is_all All = true
is_all (Range span) = false
is_all (Single number) = false

-- how many of the rows give a range or a number
abbrev pub given_count : List Row → ℕ
given_count rows = count_by (λ row. not (is_all row.gives)) rows

-- a table has at most 20,000 codes, and at most 200,000 rows that give a range or a number
unfoldable pub is_within : List Row → Bool
is_within rows = nat_le (code_count rows) 20000 && nat_le (given_count rows) 200000

-- with the row the table passes a limit
abbrev pub is_past : List Row → Row → Bool
is_past rows row = not (is_within (rows ++ row ∷ []))

-- one row more, within the limits
abbrev pub add_row : List Row → List ℕ → Option (List Row)
add_row = one_row row_of is_past

-- the rows of a table in order, or the number of its first bad line: it says nothing, or passes a limit
unfoldable pub table_rows : List ℕ → Result (List Row) ℕ
table_rows text = read_lines add_row (text_lines text) []

-- the text is a table with these rows
pub record TableText (text : List ℕ) (rows : List Row) : Type 0 where
  pub lines : map (λ line. row_of line.1) (text_lines text) ≡ map Some rows
  pub within : is_within rows ≡ true

-- the first line of the text that is bad has this number
abbrev pub FirstBad : List ℕ → ℕ → Type 0
FirstBad text number = Refuses add_row (text_lines text) [] number

-- ---- what the rows give a code

-- one of the list is such
abbrev pub SomeOf : {X : Type 0} → (X → Type 0) → List X → Type 0
SomeOf P [] = ⊥
SomeOf P (x ∷ xs) = P x ⊎ SomeOf P xs

-- the number is among what a row gives
abbrev pub HoldsNumber : Gives → List ℕ → Type 0
HoldsNumber All number = Unit {0}
HoldsNumber (Range span) number = SpanHolds span number
HoldsNumber (Single own) number = own ≡ number

-- some row names the code
abbrev pub Names : List Row → List ℕ → Type 0
Names rows code = SomeOf (λ row. row.code ≡ code) rows

-- some row gives the code all numbers
abbrev pub SaysAll : List Row → List ℕ → Type 0
SaysAll rows code = SomeOf (λ row. (row.code ≡ code) × (row.gives ≡ All)) rows

-- some row gives the code this number
abbrev pub Grants : List Row → List ℕ → List ℕ → Type 0
Grants rows code number = SomeOf (λ row. (row.code ≡ code) × HoldsNumber row.gives number) rows
