-- After what was found, the fields left give what all of them give.
use Rattle.std.proofs.Common.{◌≡◌, drop, map}
use Rattle.sip_message.specs.Known.{is_named}
use Rattle.sip_message.specs.Reading.{placed_named, surplus_after, surplus_of}
use Rattle.sip_message.specs.Seen.{placed_seen}
use Rattle.sip_message.proofs.head.HeadFields.surplus.Given as goal

abbrev pub invariant-loop-field : goal.invariant-loop-field
invariant-loop-field l =
    surplus_after l.is_found l.self.end (placed_named (is_named l.known) (map placed_seen (drop l.field-index l.self.fields.items)))
    ≡ surplus_of l.self.end (placed_named (is_named l.known) (map placed_seen l.self.fields.items))
