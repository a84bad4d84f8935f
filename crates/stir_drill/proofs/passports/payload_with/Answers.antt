use Rattle.std.proofs.Common.{◌∙◌}
use Rattle.stir_drill.proofs.PassportLaws.{payload_pieces}
use Rattle.stir_drill.proofs.passports.payload_with.Goals as goal

pub returns : goal.returns
returns c = c.in_ok-text.ensures.ok ∙ payload_pieces c.args.iat c.args.orig c.args.tail.now
