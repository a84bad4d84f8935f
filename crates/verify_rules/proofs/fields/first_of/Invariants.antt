-- What is found among the fields left is what is found among all.
use Rattle.std.proofs.Common.{◌≡◌, map, drop, find}
use Rattle.verify_rules.specs.Ppt.{is_of}
use Rattle.verify_rules.specs.Seen.{field_seen}
use Rattle.verify_rules.proofs.fields.first_of.Given as goal

abbrev pub invariant-loop-field : goal.invariant-loop-field
invariant-loop-field l = find (is_of l.ppt) (map field_seen (drop l.field-index l.fields)) ≡ find (is_of l.ppt) (map field_seen l.fields)
