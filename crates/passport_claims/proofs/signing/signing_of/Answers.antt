-- The texts are read as the values.
use Rattle.passport_claims.proofs.SignableLaws.{if_ok, text_of}
use Rattle.passport_claims.proofs.signing.signing_of.Goals as goal

pub returns-clause-header : goal.returns-clause-header
returns-clause-header c =
    if_ok _ (text_of c.in_ok-header_text.header_text.items _ c.in_ok-header_text.ensures.exact c.in_ok-header_text.ensures.bytes c.in_ok-header_text.ensures.utf8
    c.in_ok-header_text.ensures.reads_back)

pub returns-clause-payload : goal.returns-clause-payload
returns-clause-payload c =
    if_ok _ (text_of c.in_ok-payload_text.payload_text.items _ c.in_ok-payload_text.ensures.exact c.in_ok-payload_text.ensures.bytes c.in_ok-payload_text.ensures.utf8
    c.in_ok-payload_text.ensures.reads_back)
