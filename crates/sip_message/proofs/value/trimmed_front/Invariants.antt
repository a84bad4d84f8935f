-- What is left is trimmed to what all of it is.
use Rattle.std.proofs.Common.{◌≡◌, length}
use Rattle.sip_message.specs.Value.{trimmed_front}
use Rattle.sip_message.proofs.value.trimmed_front.Given as goal

abbrev pub invariant-blanks : goal.invariant-blanks
invariant-blanks l = trimmed_front l.left ≡ trimmed_front l.text

abbrev pub decreases-blanks : goal.decreases-blanks
decreases-blanks l = length l.left
