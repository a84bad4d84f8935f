-- Which line of a file can't be read (this project's own rule): the first with which no state file goes on, or the line
-- after the last if lines are missing.
use Rattle.std.specs.Prelude.{◌≡◌, ⊤, ◌⊎◌, ℕ, ◌≤◌, ◌+◌, ◌-◌, List, [], ◌∷◌, ◌++◌, length, take}
use Rattle.state_text.specs.Lines.{ended_lines}
use Rattle.state_text.specs.State.{IsState, StateView}
use Rattle.state_text.specs.StateText.{IsOther, StateFile, head_line, lines_behind}

-- a line that may come before the state; it is one without its LF too, which the last line of a file may lack
pub record IsOtherLine (line : List ℕ) : Type 0 where
  pub text : List ℕ
  pub other : IsOther text
  pub end : (line ≡ text ++ 10 ∷ []) ⊎ (line ≡ text)

abbrev pub AreOtherLines : List (List ℕ) → Type 0
AreOtherLines [] = ⊤
AreOtherLines (line ∷ others) = IsOtherLine line × AreOtherLines others

-- with more lines these are a file's: other lines, those of a state that may be handed on, and any after them
pub record Begins (lines : List (List ℕ)) : Type 0 where
  pub before : List (List ℕ)
  pub others : AreOtherLines before
  pub state : StateView
  pub rules : IsState state
  pub call : state.call ≤ 4000000000
  pub behind : List (List ℕ)
  pub more : List (List ℕ)
  pub split : lines ++ more ≡ before ++ ((head_line ∷ lines_behind state) ++ behind)

-- the line of this number, from 1, is the first of the text that can't be read; or it is the one after the last, and
-- lines are missing
pub record IsBadLine (window : ℕ) (bytes : List ℕ) (line : ℕ) : Type 0 where
  -- the text is no state file
  pub refused : (s : StateView) → StateFile window bytes s → ⊥
  pub some : 1 ≤ line
  pub within : line ≤ length (ended_lines bytes) + 1
  -- a state file begins with the lines before this one, and none with this one too
  pub before : Begins (take (line - 1) (ended_lines bytes))
  pub bad : line ≤ length (ended_lines bytes) → Begins (take line (ended_lines bytes)) → ⊥
