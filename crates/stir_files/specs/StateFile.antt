-- The file with the state of an earlier run: the window of the state has to be that by which this run judges (this
-- project's own rule).
use Rattle.std.specs.Prelude.{◌≡◌, ℕ, ◌+◌, ◌==◌, List, [], ◌∷◌, Option, Some, None, Result, Ok, Err, if◌then◌else◌}
use Rattle.std.specs.Str.{bytes_eq}
use Rattle.state_text.specs.Lines.{ended_lines}
use Rattle.state_text.specs.Reading.{read_state}
use Rattle.state_text.specs.State.{StateView}
use Rattle.state_text.specs.StateText.{StateFile, head_line}
use Rattle.stir_files.specs.Named.{NamedFile}
use Rattle.stir_files.specs.declared.fault.FileFault.{FileFault}
use Rattle.stir_files.specs.declared.fault.FileFault.TheVariants.{Refused}

-- the number of the line after the first that is `past 1`, by that of the first of these lines; 0 if none is
abbrev pub after_head : ℕ → List (List ℕ) → ℕ
after_head number [] = 0
after_head number (line ∷ others) = if bytes_eq line head_line then number + 1 else after_head (number + 1) others

-- the number of the line that has the window
unfoldable pub window_line : List ℕ → ℕ
window_line content = after_head 1 (ended_lines content)

-- a content that holds no state is refused at its first bad line, and one with another window at the line of it
abbrev pub state_refusal : ℕ → ℕ → Result StateView ℕ → Option FileFault
state_refusal window line (Ok state) = if state.window == window then None else Some (Refused line)
state_refusal window line (Err bad) = Some (Refused bad)

-- the whole content is read first
abbrev pub refusal_by : ℕ → List ℕ → Option FileFault
refusal_by window content = state_refusal window (window_line content) (read_state window content)

-- a state file with this window
abbrev pub state_file : ℕ → List ℕ → NamedFile
state_file window name = record { name = name; limit = 536870912; refused = refusal_by window }

-- the content is a state file of this state, and is read as it; its window has so many seconds
pub record StateOf (seconds : ℕ) (content : List ℕ) (state : StateView) : Type 0 where
  pub file : StateFile seconds content state
  pub read : read_state seconds content ≡ Ok state
  pub window : state.window ≡ seconds
