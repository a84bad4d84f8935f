use Rattle.std.proofs.Common.{◌++◌, replicate, ap, ◌∙◌}
use Rattle.stir_drill.proofs.CertificateLaws.{key_is}
use Rattle.stir_drill.proofs.certificates.put_key.Goals as goal

pub returns-clause-text : goal.returns-clause-text
returns-clause-text c = c.in_ok-extend_from_slice-2.ensures.items ∙ ap (λ x. x ++ replicate 64 c.args.byte) c.in_ok-extend_from_slice.ensures.items
    ∙ key_is c.args.out.now.items c.args.byte
