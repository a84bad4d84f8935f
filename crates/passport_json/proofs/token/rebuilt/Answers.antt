-- The deterministic payload comes in base64url after the dot of what is signed.
use Rattle.std.proofs.Common.{◌∙◌, ap}
use Rattle.passport_json.specs.Signing.{Signing}
use Rattle.passport_json.proofs.SignedLaws.{rebuilt_signed}
use Rattle.passport_json.proofs.token.rebuilt.Goals as goal

pub returns-clause-signed : goal.returns-clause-signed
returns-clause-signed c =
    rebuilt_signed c.in_ok-signing.signing.items c.in_ok-header_text.header_text.items c.in_ok-payload_text.payload_text.items _ _
    (c.in_ok-signing.ensures.exact
    ∙ ap (λ x. Signing x c.deref-2.result.now) c.deref.ensures.value
    ∙ ap (Signing c.in_ok-header_text.header_text.items) c.deref-2.ensures.value)
    c.in_ok-payload_text.ensures.bytes c.in_ok-payload_text.ensures.utf8 c.in_ok-payload_text.ensures.reads_back c.in_ok-payload.ensures.exact
