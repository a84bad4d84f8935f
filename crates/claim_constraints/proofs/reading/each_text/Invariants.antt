-- What is left gives what all gives.
use Rattle.std.proofs.Common.{◌≤◌, length}
use Rattle.der_reader.specs.Each.{each_in}
use Rattle.der_reader.specs.Part.{part_of}
use Rattle.der_reader.proofs.EachLaws.{Left}
use Rattle.claim_constraints.specs.Read.{text_with}
use Rattle.claim_constraints.proofs.reading.each_text.Given as goal

abbrev pub invariant-texts : goal.invariant-texts
invariant-texts l = Left (text_with l.form) (each_in (text_with l.form) l.fn.before (part_of l.part)) l.texts (part_of l.rest) × (length l.fn.before ≤ length l.texts)

abbrev pub decreases-texts : goal.decreases-texts
decreases-texts l = length l.rest.left.now
