-- The fields left have the same first number as all.
use Rattle.std.proofs.Common.{◌≡◌, drop, map}
use Rattle.std.specs.List.{filter_map}
use Rattle.sip_message.specs.Accessors.{first, number_in, values}
use Rattle.sip_message.specs.Known.{is_named}
use Rattle.sip_message.specs.Seen.{field_seen}
use Rattle.sip_message.proofs.field.first_number.Given as goal

abbrev pub invariant-loop-field : goal.invariant-loop-field
invariant-loop-field l = first (filter_map (number_in l.local) (values (is_named l.known) (map field_seen (drop l.field-index l.fields)))) ≡ first (filter_map (number_in l.local) (values (is_named l.known) (map field_seen l.fields)))
