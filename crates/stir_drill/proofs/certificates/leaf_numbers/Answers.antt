use Rattle.std.proofs.Common.{length, ap, arith}
use Rattle.stir_drill.proofs.CertificateLaws.{numbers_short}
use Rattle.stir_drill.proofs.certificates.leaf_numbers.Goals as goal

pub returns-clause-short : goal.returns-clause-short
returns-clause-short c = omega (arith, ap length c.in_ok-text.ensures, numbers_short)
