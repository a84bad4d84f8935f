-- After the fields so far, the lines left give what all of them give.
use Rattle.std.proofs.Common.{◌≡◌, [], false, length, map}
use Rattle.sip_message.specs.Reading.{fields_after}
use Rattle.sip_message.specs.Seen.{placed_seen}
use Rattle.sip_message.proofs.head.read_head.Given as goal

abbrev pub invariant-lines : goal.invariant-lines
invariant-lines l = fields_after l.size false (map placed_seen l.fields.items) l.lines ≡ fields_after l.size false [] l.fn.lines

abbrev pub decreases-lines : goal.decreases-lines
decreases-lines l = length l.lines
