use Rattle.std.proofs.Common.{◌≡◌, length, ap, ◌∙◌, arith}
use Rattle.passport_json.specs.Signing.{Signing}
use Rattle.stir_drill.specs.Spelled.{header_text, payload_text}
use Rattle.stir_drill.proofs.PassportLaws.{signing_short, signing_spelled}
use Rattle.stir_drill.proofs.passports.signing_text.Goals as goal

pub returns-clause-exact : goal.returns-clause-exact
returns-clause-exact c =
    c.in_ok-text.ensures.exact ∙ ap (λ x. Signing x c.as_bytes-2.result.now) c.as_bytes.ensures.value
    ∙ ap (λ x. Signing header_text x) (c.as_bytes-2.ensures.value ∙ c.in_ok-payload.ensures) ∙ signing_spelled c.args.call c.requires.line

pub returns-clause-short : goal.returns-clause-short
returns-clause-short c =
    let e : c.in_ok-text.text.items ≡ Signing header_text (payload_text c.args.call)
    = c.in_ok-text.ensures.exact ∙ ap (λ x. Signing x c.as_bytes-2.result.now) c.as_bytes.ensures.value
    ∙ ap (λ x. Signing header_text x) (c.as_bytes-2.ensures.value ∙ c.in_ok-payload.ensures) in
    omega (arith, ap length e, signing_short c.args.call c.requires.number c.requires.line)
