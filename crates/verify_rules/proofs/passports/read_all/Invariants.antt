-- The PASSporTs read so far with those of the fields left are all PASSporTs.
use Rattle.verify_rules.specs.Seen.{ReadSoFar, field_seen}
use Rattle.verify_rules.proofs.passports.read_all.Given as goal

abbrev pub invariant-fields : goal.invariant-fields
invariant-fields l = ReadSoFar l.facts (field_seen l.origin) l.fields l.field-index l.readings
