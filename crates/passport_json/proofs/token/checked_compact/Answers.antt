-- What the checks found, put together.
use Rattle.passport_json.proofs.CompactLaws.{compact_text}
use Rattle.passport_json.specs.Seen.{call_of, passport_of, texts_of}
use Rattle.passport_json.proofs.token.checked_compact.Goals as goal

pub returns-in_ok-rebuilt-in-Ok-clause-found : goal.returns-in_ok-rebuilt-in-Ok-clause-found
returns-in_ok-rebuilt-in-Ok-clause-found c =
    compact_text c.args.text.now (texts_of c.in_ok-parts.parts) c.in_ok-signature.signature
    (call_of c.args.view.now) (passport_of c.in-Ok.base) c.in_ok-rebuilt-in-Ok.field-0 c.requires.dots c.in_ok-parts.ensures.parts
    c.in_ok-signature.ensures.encoded c.in_ok-signature.ensures.size c.in-Ok.ensures.exact c.in_ok-rebuilt-in-Ok.ensures.exact
