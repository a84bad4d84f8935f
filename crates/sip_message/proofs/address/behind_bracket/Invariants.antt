-- From the state so far, the bytes left give what all of them give.
use Rattle.std.proofs.Common.{◌≡◌, length}
use Rattle.sip_message.specs.declared.address.Quoting.TheVariants.{Outside}
use Rattle.sip_message.specs.Quoting.{bracket_from}
use Rattle.sip_message.proofs.address.behind_bracket.Given as goal

abbrev pub invariant-bytes : goal.invariant-bytes
invariant-bytes l = bracket_from l.quoting l.rest ≡ bracket_from Outside l.value

abbrev pub decreases-bytes : goal.decreases-bytes
decreases-bytes l = length l.rest
