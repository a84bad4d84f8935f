-- A valid order's PASSporT is made, unless memory runs out.
use Rattle.std.proofs.Common.{Ok, sym, ap}
use Rattle.passport_claims.specs.Passport.{ClaimsView}
use Rattle.auth_service.specs.Order.{wanted_of}
use Rattle.auth_service.proofs.MadeLaws.{made_for, made_is, memory_alone}
use Rattle.auth_service.proofs.passport.passport_between.Goals as goal

pub returns-in-Ok-clause-exact : goal.returns-in-Ok-clause-exact
returns-in-Ok-clause-exact c =
    ap (λ (x : ClaimsView). Ok x) (made_is (wanted_of c.args.order.now) c.kind.result c.args.orig c.args.dest c.in-Ok.passport c.requires c.kind.ensures c.in-Ok.ensures)

pub returns-in-Ok-clause-ordered : goal.returns-in-Ok-clause-ordered
returns-in-Ok-clause-ordered c =
    made_for (wanted_of c.args.order.now) c.args.orig c.args.dest c.in-Ok.passport
    (sym (made_is (wanted_of c.args.order.now) c.kind.result c.args.orig c.args.dest c.in-Ok.passport c.requires c.kind.ensures c.in-Ok.ensures))

pub out_of_memory-requires : goal.out_of_memory-requires
out_of_memory-requires c = memory_alone (wanted_of c.args.order.now) c.kind.result c.args.orig c.args.dest c.in-Err.fault c.requires c.kind.ensures c.in-Err.ensures
