use Rattle.std.proofs.Common.{length, ap, arith}
use Rattle.stir_drill.proofs.CertificateLaws.{element_short}
use Rattle.stir_drill.proofs.certificates.enclosed.Goals as goal

pub returns-clause-short : goal.returns-clause-short
returns-clause-short c = omega (arith, ap length c.in_ok-text.ensures.text, element_short 0x30 c.args.content.now, c.requires)
