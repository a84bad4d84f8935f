-- What is left is trimmed to what all of it is.
use Rattle.std.proofs.Common.{◌≡◌, length}
use Rattle.sip_message.specs.Value.{trimmed_end}
use Rattle.sip_message.proofs.value.trimmed_end.Given as goal

abbrev pub invariant-blanks : goal.invariant-blanks
invariant-blanks l = trimmed_end l.left ≡ trimmed_end l.text

abbrev pub decreases-blanks : goal.decreases-blanks
decreases-blanks l = length l.left
