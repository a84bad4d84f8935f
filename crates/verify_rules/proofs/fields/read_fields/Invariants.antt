-- Of the values read none is bad, and their fields with those of the values left are all fields.
use Rattle.std.proofs.Common.{◌≡◌, map, length}
use Rattle.sip_message.specs.Accessors.{identities}
use Rattle.verify_rules.specs.Seen.{SoFar, field_seen}
use Rattle.verify_rules.proofs.fields.read_fields.Given as goal

abbrev pub invariant-fields : goal.invariant-fields
invariant-fields l = record {
  all : l.i-end ≡ length (identities l.message);
  so_far : SoFar (identities l.message) l.i (map field_seen l.fields.items);
}
