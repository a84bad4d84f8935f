-- A state file is read, or refused.
use Rattle.std.proofs.Common.{◌≡◌, ℕ, ◌==◌, true, false, List, Some, None, Ok, Err, ◌∙◌, ap, refl, arith}
use Rattle.std.proofs.lemmas.Bool.Decides.{nat_tests}
use Rattle.state_text.specs.Reading.{read_state}
use Rattle.state_text.specs.State.{StateView}
use Rattle.state_text.specs.StateText.{StateFile}
use Rattle.stir_files.specs.StateFile.{StateOf, refusal_by, state_refusal, window_line}
use Rattle.stir_files.specs.declared.fault.FileFault.TheVariants.{Refused}

pub bad_line : (window : ℕ) (content : List ℕ) (line : ℕ) → read_state window content ≡ Err line → refusal_by window content ≡ Some (Refused line)
bad_line window content line h = ap (state_refusal window (window_line content)) h

same_by : (window line : ℕ) (state : StateView) → (state.window == window) ≡ true → state_refusal window line (Ok state) ≡ None
same_by window line state e = rw e refl

other_by : (window line : ℕ) (state : StateView) → (state.window == window) ≡ false → state_refusal window line (Ok state) ≡ Some (Refused line)
other_by window line state e = rw e refl

pub other_window : (window : ℕ) (content : List ℕ) (state : StateView) → read_state window content ≡ Ok state → (state.window == window) ≡ false
    → refusal_by window content ≡ Some (Refused (window_line content))
other_window window content state h e = ap (state_refusal window (window_line content)) h ∙ other_by window (window_line content) state e

pub is_state : (window : ℕ) (content : List ℕ) (state : StateView) → StateFile window content state → read_state window content ≡ Ok state → (state.window == window) ≡ true
    → StateOf window content state
is_state window content state file read e = record { file = file; read = read; window = grind (arith, nat_tests) }

-- a file that was read so is not refused
pub passes_so : (window : ℕ) (content : List ℕ) (state : StateView) → StateOf window content state → refusal_by window content ≡ None
passes_so window content state s =
    let same = s.window in
    let e : (state.window == window) ≡ true = grind (arith, nat_tests) in
    ap (state_refusal window (window_line content)) s.read ∙ same_by window (window_line content) state e
