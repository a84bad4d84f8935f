-- What reading a state file answers, and what is written of a state.
use Rattle.std.proofs.Common.{◌≡◌, inr, ℕ, ◌≤◌, ◌<◌, ◌^◌, ◌-◌, List, [], length, Result, Ok, Err, IfOk, sym, subst, arith, append-nil}
use Rattle.std.specs.Prelude.{IfErr}
use Rattle.lists.specs.Given.{Gives}
use Rattle.state_text.specs.BadLine.{IsBadLine}
use Rattle.state_text.specs.Reading.{most_call, read_state}
use Rattle.state_text.specs.Seen.{IfLine, fault_line}
use Rattle.state_text.specs.State.{IsState, StateView}
use Rattle.state_text.specs.StateText.{StateFile, StateText, state_text}
use Rattle.state_text.specs.declared.fault.StateFault.{StateFault}
use Rattle.state_text.specs.declared.fault.StateFault.TheVariants.{Line, Memory}
use Rattle.state_text.proofs.AgainLaws.{file_again}
use Rattle.state_text.proofs.BadLaws.{bad_is, bad_only}
use Rattle.state_text.proofs.FoundLaws.{file_found}

-- ---- what reading answers

pub found_by : {X : Type 0} (seen : X → StateView) (window : ℕ) (bytes : List ℕ) (result : Result X StateFault) → Gives fault_line seen result (read_state window bytes) → IfOk result (λ x. StateFile window bytes (seen x))
found_by seen window bytes (Ok x) g = file_found window bytes (seen x) g
found_by seen window bytes (Err fault) g = tt

pub only_by : {X : Type 0} (seen : X → StateView) (window : ℕ) (bytes : List ℕ) (result : Result X StateFault) (s : StateView) → length bytes ≤ 4294967295 → Gives fault_line seen result (read_state window bytes) → StateFile window bytes s
    → Gives fault_line seen result (Ok s)
only_by seen window bytes result s small g f = subst (Gives fault_line seen result) (file_again window bytes s small f) g

pub refused_by : {X : Type 0} (seen : X → StateView) (window : ℕ) (bytes : List ℕ) (result : Result X StateFault) → length bytes ≤ 4294967295 → Gives fault_line seen result (read_state window bytes)
    → IfErr result (λ fault. IfLine fault (IsBadLine window bytes))
refused_by seen window bytes (Ok x) small g = tt
refused_by seen window bytes (Err (Line line)) small g = bad_is window bytes line small g
refused_by seen window bytes (Err Memory) small g = tt

pub first_by : {X : Type 0} (seen : X → StateView) (window : ℕ) (bytes : List ℕ) (result : Result X StateFault) (line : ℕ) → length bytes ≤ 4294967295 → Gives fault_line seen result (read_state window bytes)
    → IsBadLine window bytes line → Gives fault_line seen result (Err line)
first_by seen window bytes result line small g b = subst (Gives fault_line seen result) (bad_only window bytes line small b) g

-- ---- what is written

pub handed_on : (text : List ℕ) (s : StateView) → text ≡ state_text s → IsState s → s.call ≤ most_call → StateText text s
handed_on text s e rules low = record { rules = rules; call = low; is = e }

-- what is written of a state is read as it
pub text_again : (window : ℕ) (text : List ℕ) (s : StateView) → text ≡ state_text s → IsState s → s.call ≤ most_call → length text < 2 ^ 32 - 1 → read_state window text ≡ Ok s
text_again window text s e rules low small = file_again window text s (omega (arith, small)) (inr (record {
  before = [];
  others = tt;
  text = text;
  state = handed_on text s e rules low;
  behind = [];
  split = sym (append-nil text);
}))
