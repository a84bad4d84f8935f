-- What is left gives what all gives.
use Rattle.std.proofs.Common.{◌≡◌, length}
use Rattle.der_reader.specs.Each.{each_in}
use Rattle.der_reader.specs.Part.{end_of, part_of}
use Rattle.der_reader.proofs.EachLaws.{Left}
use Rattle.x509_profile.specs.Extensions.{values_with}
use Rattle.x509_profile.specs.View.{no_values}
use Rattle.x509_profile.proofs.extensions.KnownExtensions.read_each.Given as goal

abbrev pub invariant-extensions : goal.invariant-extensions
invariant-extensions l = record {
  left : Left values_with (each_in values_with no_values (part_of l.part)) l.known (part_of l.rest);
  end : end_of l.rest ≡ end_of l.part;
}

abbrev pub decreases-extensions : goal.decreases-extensions
decreases-extensions l = length l.rest.left.now
