-- A stretch of an answers file: some of its lines, in order, whose rows threads read.
use Rattle.std.specs.Prelude.{◌≡◌, ◌<◌, ℕ, Bool, List, [], ◌++◌, length, map, slice_index_or, Option, MatchOption, Err}
use Rattle.stir_outside.specs.AnswersText.{answer_rows, row_of}
use Rattle.stir_outside.specs.Held.{AddsLine, Held, Reached}
use Rattle.stir_outside.specs.declared.answers.rows.Row.{Row}
use Rattle.text_grammar.specs.declared.lines.Line.{Line}

-- the lines of a stretch: the number and the text of each
abbrev pub lines_of : List Line → List (ℕ × List ℕ)
lines_of stretch = map (λ line. (line.number, line.text.now)) stretch

-- the stretch has the next lines, before those that are left; it has none only if there were no more
pub record IsNext (before : List (ℕ × List ℕ)) (stretch : List Line) (left : List (ℕ × List ℕ)) : Type 0 where
  pub lines : before ≡ lines_of stretch ++ left
  pub last : stretch ≡ [] → left ≡ []

-- the line at this index of the stretch says this row
pub record IsRowAt (stretch : List Line) (at : ℕ) (row : Option Row) : Type 0 where
  pub says : (line : Line) → at < length stretch → row ≡ row_of (slice_index_or stretch at line).text.now

-- the lines of the stretch say these rows, one each
pub record AreRows (stretch : List Line) (rows : List (Option Row)) : Type 0 where
  pub counted : length rows ≡ length stretch
  pub each : (at : ℕ) (row : Option Row) → at < length stretch → IsRowAt stretch at (slice_index_or rows at row)

-- a line that says this was added, or it is bad
abbrev pub AddsSaid : Held → Held → Option Row → Bool → Type 0
AddsSaid old new said added = (line : List ℕ) → row_of line ≡ said → AddsLine old new line added

-- what holds the rows before the stretch holds those of its lines too then; or this is the number of its first bad line
abbrev pub AddsStretch : Held → Held → List Line → Option ℕ → Type 0
AddsStretch old new stretch bad = (text : List ℕ) (left : List (ℕ × List ℕ))
    → Reached text (lines_of stretch ++ left) old
    → MatchOption bad (Reached text left new) (λ number. answer_rows text ≡ Err number)
