-- Those counted and those among the fields left are all.
use Rattle.std.proofs.Common.{◌≡◌, ◌+◌, ◌≤◌, drop, length, map}
use Rattle.sip_message.specs.Accessors.{values}
use Rattle.sip_message.specs.Known.{is_named}
use Rattle.sip_message.specs.Seen.{field_seen}
use Rattle.sip_message.proofs.field.count.Given as goal

abbrev pub invariant-loop-field : goal.invariant-loop-field
invariant-loop-field l = record { total : l.count + length (values (is_named l.known) (map field_seen (drop l.field-index l.fields))) ≡ length (values (is_named l.known) (map field_seen l.fields)); small : l.count ≤ l.field-index }
