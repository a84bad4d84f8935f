-- The last of the way is a link.
use Rattle.std.proofs.Common.{length, sym, subst}
use Rattle.passport_claims.specs.Links.{IsOneOf}
use Rattle.passport_claims.specs.OrderReading.{behind}
use Rattle.passport_claims.proofs.WayLaws.{last_within}
use Rattle.passport_claims.proofs.diversion.way_from.Goals as goal

pub dest-requires : goal.dest-requires
dest-requires g c =
    let links = g.L.Passports.list c.args.links.now in
    subst (IsOneOf (length links)) (sym (c.last-last.ensures c.args.start (behind links c.args.start) c.walk-order.ensures.turn)) (last_within links c.args.start c.requires.within)
