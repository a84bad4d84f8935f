-- What a text of the usual length decodes to is what it encodes.
use Rattle.std.proofs.Common.{arith}
use Rattle.passport_json.proofs.DecodedLaws.{base64_found}
use Rattle.passport_json.proofs.read.decoded_signature.Goals as goal

pub returns-in-Some-clause-encoded : goal.returns-in-Some-clause-encoded
returns-in-Some-clause-encoded c = base64_found c.args.text.now c.in-Some.signature (λ i. omega (arith, c.type_inv.text i)) c.in-Some.ensures
