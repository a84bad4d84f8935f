-- What the checks found, put together.
use Rattle.passport_json.proofs.SignedLaws.{full_signed}
use Rattle.passport_json.proofs.TokenLaws.{token_text}
use Rattle.passport_json.specs.Seen.{texts_of}
use Rattle.passport_json.proofs.token.read_full.Goals as goal

pub returns-clause-found : goal.returns-clause-found
returns-clause-found c =
    token_text c.args.text.now (texts_of c.in_ok-parts.parts) c.in_ok-header_bytes.header_bytes.items c.in_ok-payload_bytes.payload_bytes.items
    _ _ _ _ _ c.in_ok-parts.ensures.parts c.in_ok-header_bytes.ensures.encoded
    c.in_ok-payload_bytes.ensures.encoded c.in_ok-signature.ensures.encoded c.in_ok-signature.ensures.size
    c.in_ok-header.ensures.object c.in_ok-payload.ensures.object c.signing_of.ensures c.in_ok-signing.ensures.items

pub returns-clause-signed : goal.returns-clause-signed
returns-clause-signed c = full_signed c.args.text.now _ (returns-clause-found c)
