-- Why a call by itself is set aside: at a read or a question that failed, which was counted.
use Rattle.std.specs.Prelude.{◌≡◌, ℕ, Bool, true, false}
use Rattle.stir_outside.specs.Count.{Rose}
use Rattle.call_judging.specs.declared.finding.Finding.{Finding}
use Rattle.call_judging.specs.declared.finding.Finding.TheVariants as found

abbrev pub found_unread : Finding → Bool
found_unread (found.Refused refused) = false
found_unread (found.Unread bad) = true
found_unread (found.Unasked bad) = false
found_unread (found.Passes pass) = false

abbrev pub found_unasked : Finding → Bool
found_unasked (found.Refused refused) = false
found_unasked (found.Unread bad) = false
found_unasked (found.Unasked bad) = true
found_unasked (found.Passes pass) = false

-- it is set aside only if a count of faults rose
abbrev pub HasCauseIf : Bool → ℕ → ℕ → Type 0
HasCauseIf set_aside faults faults_now = set_aside ≡ true → Rose faults faults_now
