-- The payload is in what was signed, in either form.
use Rattle.passport_json.proofs.PayloadLaws.{compact_signed}
use Rattle.passport_json.proofs.SignedLaws.{full_signed}
use Rattle.passport_json.proofs.laws.signed_law.Goals as goal

pub returns-clause-full : goal.returns-clause-full
returns-clause-full c = full_signed

pub returns-clause-compact : goal.returns-clause-compact
returns-clause-compact c = compact_signed
