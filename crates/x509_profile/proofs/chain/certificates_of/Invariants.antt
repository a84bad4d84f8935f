-- What is left after the certificates so far gives what all bytes give.
use Rattle.std.proofs.Common.{◌≡◌, ◌-◌, ◌≤◌, length}
use Rattle.x509_profile.specs.Chain.{certificates_from, certificates_in}
use Rattle.x509_profile.proofs.chain.certificates_of.Given as goal

abbrev pub invariant-loop : goal.invariant-loop
invariant-loop l = record {
  gives : certificates_from l.bytes (6 - l.counter) l.certificates.items l.left ≡ certificates_in l.bytes;
  size : length l.certificates.items ≡ l.counter;
  within : length l.left ≤ length l.bytes;
}
