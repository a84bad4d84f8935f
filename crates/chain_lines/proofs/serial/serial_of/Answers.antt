-- The certificate is the text of its parts, so its serial number is read.
use Rattle.std.proofs.Common.{sym, ◌∙◌, ap, subst}
use Rattle.der_reader.specs.Elem.{AllBytes}
use Rattle.chain_lines.specs.Revocation.{bytes_view}
use Rattle.chain_lines.specs.Serial.{serial_in}
use Rattle.chain_lines.proofs.SerialLaws.{is_serial, never_fails}
use Rattle.chain_lines.proofs.serial.serial_of.Goals as goal

pub unreachable-requires : goal.unreachable-requires
unreachable-requires c =
    never_fails c.element_law.ensures.again c.args.certificate.now c.in-Err.field-0
    (c.certificate_law.ensures.found c.args.certificate.now.whole c.args.certificate.now (subst AllBytes c.whole-bytes.ensures.value c.are_bytes.ensures) c.whole-bytes.ensures.again)
    (sym (ap bytes_view c.in-Err.is) ∙ (c.serial_in.ensures ∙ ap serial_in c.whole-bytes.ensures.value))

pub returns : goal.returns
returns c =
    is_serial c.element_law.ensures.again c.args.certificate.now c.in-Ok.serial.now
    (c.certificate_law.ensures.found c.args.certificate.now.whole c.args.certificate.now (subst AllBytes c.whole-bytes.ensures.value c.are_bytes.ensures) c.whole-bytes.ensures.again)
    (sym (ap bytes_view c.in-Ok.is) ∙ (c.serial_in.ensures ∙ ap serial_in c.whole-bytes.ensures.value))
