-- The fields left have the same first value as all.
use Rattle.std.proofs.Common.{◌≡◌, drop, map}
use Rattle.sip_message.specs.Accessors.{first, values}
use Rattle.sip_message.specs.Known.{is_named}
use Rattle.sip_message.specs.Seen.{field_seen}
use Rattle.sip_message.proofs.field.first_value.Given as goal

abbrev pub invariant-loop-field : goal.invariant-loop-field
invariant-loop-field l = first (values (is_named l.known) (map field_seen (drop l.field-index l.fields))) ≡ first (values (is_named l.known) (map field_seen l.fields))
