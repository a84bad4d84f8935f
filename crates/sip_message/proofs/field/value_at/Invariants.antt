-- The value that is looked for is among the fields left.
use Rattle.std.proofs.Common.{◌≡◌, ◌<◌, [], drop, get_or, length, map}
use Rattle.sip_message.specs.Accessors.{values}
use Rattle.sip_message.specs.Known.{is_named}
use Rattle.sip_message.specs.Seen.{field_seen}
use Rattle.sip_message.proofs.field.value_at.Given as goal

abbrev pub invariant-loop-field : goal.invariant-loop-field
invariant-loop-field l = record { within : l.left < length (values (is_named l.known) (map field_seen (drop l.field-index l.fields))); same : get_or (values (is_named l.known) (map field_seen (drop l.field-index l.fields))) l.left [] ≡ get_or (values (is_named l.known) (map field_seen l.fields)) l.i [] }
