-- The whole part is a number's text, so nothing of it is cut off.
use Rattle.std.proofs.Common.{◌∙◌, ap}
use Rattle.tn_values.specs.Canon.{Canon}
use Rattle.sip_message.proofs.NumberTextLaws.{whole_user}
use Rattle.sip_message.proofs.address.user_part_number.Goals as goal

pub returns-in-Some : goal.returns-in-Some
returns-in-Some c =
    let s = c.in-Some.ensures in
    s.canonical ∙ ap (λ text. Canon text c.args.local.now) (whole_user c.args.user.now c.args.local.now c.in-Some.number s.ways)
