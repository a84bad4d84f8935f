-- What is wrong with the links left is what is wrong with all.
use Rattle.std.proofs.Common.{◌≡◌, map, drop}
use Rattle.verify_rules.specs.Call.{links}
use Rattle.verify_rules.specs.Rules.{each, foreign_alg}
use Rattle.verify_rules.specs.Seen.{field_seen}
use Rattle.verify_rules.proofs.fields.foreign_link.Given as goal

abbrev pub invariant-loop-field : goal.invariant-loop-field
invariant-loop-field l = each foreign_alg (links (map field_seen (drop l.field-index l.fields))) ≡ each foreign_alg (links (map field_seen l.fields))
