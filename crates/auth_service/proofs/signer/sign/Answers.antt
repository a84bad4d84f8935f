-- What is promised of what is wanted, and what is withheld of it, is so of the order that it comes from.
use Rattle.auth_service.specs.Order.{holder_seen, order_of, wanted_of}
use Rattle.auth_service.proofs.OrderLaws.{promised_as, withheld_as}
use Rattle.auth_service.proofs.signer.sign.Goals as goal

pub returns-clause-promised : goal.returns-clause-promised
returns-clause-promised g c =
    promised_as (λ out. out.items) c.args.bytes.now (wanted_of c.wanted-wanted.result) (order_of c.args.order.now) (holder_seen c.args.holder) (g.P.Provider.signs c.args.provider.now)
    c.sign_wanted.result c.sign_wanted.ensures.promised c.wanted-wanted.ensures

pub returns-clause-withheld : goal.returns-clause-withheld
returns-clause-withheld g c =
    withheld_as c.args.bytes.now (wanted_of c.wanted-wanted.result) (order_of c.args.order.now) (holder_seen c.args.holder) _ _ c.sign_wanted.result c.sign_wanted.ensures.withheld
    c.wanted-wanted.ensures
