-- What is found among the links left is what is found among all.
use Rattle.std.proofs.Common.{◌≡◌, map, drop}
use Rattle.std.specs.List.{list_any}
use Rattle.verify_rules.specs.Call.{links}
use Rattle.verify_rules.specs.Seen.{field_seen, is_compact}
use Rattle.verify_rules.proofs.fields.has_compact_link.Given as goal

abbrev pub invariant-loop-field : goal.invariant-loop-field
invariant-loop-field l = list_any is_compact (links (map field_seen (drop l.field-index l.fields))) ≡ list_any is_compact (links (map field_seen l.fields))
