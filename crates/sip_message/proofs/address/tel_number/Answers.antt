-- All of the text is a number's, so nothing of it is cut off.
use Rattle.std.proofs.Common.{◌∙◌, ap}
use Rattle.tn_values.specs.Canon.{Canon}
use Rattle.sip_message.proofs.NumberTextLaws.{whole_tel}
use Rattle.sip_message.proofs.address.tel_number.Goals as goal

pub returns-in-Some : goal.returns-in-Some
returns-in-Some c =
    let s = c.in-Some.ensures in
    s.canonical ∙ ap (λ text. Canon text c.args.local.now) (whole_tel c.args.text.now c.args.local.now c.in-Some.number s.ways)
