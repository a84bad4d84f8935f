-- The value that is looked for is the one that is looked for among the fields left.
use Rattle.std.proofs.Common.{◌≡◌, drop, map}
use Rattle.std.specs.List.{slice_get}
use Rattle.sip_message.specs.FieldValue.{values_named}
use Rattle.sip_message.specs.Seen.{field_seen}
use Rattle.sip_message.proofs.field.value_named.Given as goal

abbrev pub invariant-loop-field : goal.invariant-loop-field
invariant-loop-field l = slice_get (values_named l.name (map field_seen (drop l.field-index l.fields))) l.left ≡ slice_get (values_named l.name (map field_seen l.fields)) l.i
