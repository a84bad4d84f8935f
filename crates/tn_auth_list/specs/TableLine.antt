-- A line of the code table as it is written (this project's own rule): what `row_of` reads of it, in the words of the
-- format.
use Rattle.std.specs.Prelude.{◌≡◌, ⊤, true, ℕ, ◌^◌, ◌<◌, ◌≤◌, List, [], ◌∷◌, length, codes}
use Rattle.std.specs.Fmt.{decimal}
use Rattle.std.specs.List.{join_with_byte}
use Rattle.tn_values.specs.Digit.{are_digits}
use Rattle.tn_values.specs.Number.{is_number}
use Rattle.tn_values.specs.Span.{SpanView}
use Rattle.tn_auth_list.specs.Code.{is_code}
use Rattle.tn_auth_list.specs.declared.table_rows.Gives.{Gives}
use Rattle.tn_auth_list.specs.declared.table_rows.Gives.TheVariants.{All, Range, Single}
use Rattle.tn_auth_list.specs.declared.table_rows.Row.{Row}

-- START is 1 to 15 digits, and may begin with zeros; COUNT is at least 2
pub record IsRange (span : SpanView) : Type 0 where
  pub digits : are_digits span.start ≡ true
  pub some : 1 ≤ length span.start
  pub few : length span.start ≤ 15
  pub two : 2 ≤ span.size
  pub most : span.size < 2 ^ 64

-- a number that is `*` alone can't be given, since all numbers are
abbrev pub MayGive : Gives → Type 0
MayGive All = ⊤
MayGive (Range span) = IsRange span
MayGive (Single number) = (is_number number ≡ true) × (number ≡ codes "*" → ⊥)

-- the words after the code: `*`, `START COUNT`, or `NUMBER`
abbrev pub given_words : Gives → List (List ℕ)
given_words All = codes "*" ∷ []
given_words (Range span) = span.start ∷ decimal span.size ∷ []
given_words (Single number) = number ∷ []

-- The line says the row: its code and these words, with one space between each two.
pub record IsTableLine (line : List ℕ) (row : Row) : Type 0 where
  pub code : is_code row.code ≡ true
  pub gives : MayGive row.gives
  pub line_is : line ≡ join_with_byte 32 (row.code ∷ given_words row.gives)
