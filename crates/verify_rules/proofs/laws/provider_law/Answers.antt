-- The laws of two providers.
use Rattle.verify_rules.proofs.ProviderLaws.{certificates_same, signatures_same}
use Rattle.verify_rules.proofs.laws.provider_law.Goals as goal

pub returns-clause-certificates : goal.returns-clause-certificates
returns-clause-certificates c = certificates_same

pub returns-clause-signatures : goal.returns-clause-signatures
returns-clause-signatures c = signatures_same
