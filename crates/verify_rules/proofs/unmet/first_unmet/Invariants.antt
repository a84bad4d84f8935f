-- What is left gives what all give.
use Rattle.std.proofs.Common.{◌≡◌, ◌+◌, drop, length}
use Rattle.passport_json.specs.Signed.{payload_in}
use Rattle.verify_rules.specs.Unmet.{first_unmet}
use Rattle.verify_rules.proofs.unmet.first_unmet.Given as goal

abbrev pub invariant-certificates : goal.invariant-certificates
invariant-certificates l = record {
  end : l.index-end ≡ length l.judged.certificates;
  left : first_unmet (payload_in l.signed) (l.index + 1) (drop l.index l.judged.certificates) ≡ first_unmet (payload_in l.signed) 1 l.judged.certificates;
}
