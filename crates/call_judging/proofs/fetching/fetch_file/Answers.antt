-- What the shelf gave is right.
use Rattle.std.proofs.Common.{◌≤◌, Err, length, ap, arith}
use Rattle.stir_outside.specs.declared.shelf.ShelfFault.{ShelfFault}
use Rattle.call_judging.proofs.ReadLaws.{right_judged, right_long, right_missing}
use Rattle.call_judging.proofs.SizeLaws.{read_rose}
use Rattle.call_judging.proofs.fetching.fetch_file.Goals as goal

pub returns-in-Ok-clause-fetched : goal.returns-in-Ok-clause-fetched
returns-in-Ok-clause-fetched g c =
    let size = c.in-Ok.bytes.ok.0 in
    let within = c.in-Ok.ensures.within in
    let short : length c.in-Ok.bytes.items ≤ 49152 = omega arith in
    λ x5u is says judged so. right_judged (g.S.Shelf.files c.args.shelf.now) c.args.world.now says x5u c.args.name.now c.in-Ok.bytes.items judged c.right_law.ensures.judged is
    c.in-Ok.ensures.found short so

pub returns-in-Missing-clause-fetched : goal.returns-in-Missing-clause-fetched
returns-in-Missing-clause-fetched g c = λ x5u is says. right_missing (g.S.Shelf.files c.args.shelf.now) c.args.world.now says x5u c.args.name.now
    c.right_law.ensures.missing is (c.in-Err.ensures.missing (ap (λ (fault : ShelfFault). Err fault) c.in-Missing.is))

pub returns-in-Long-clause-fetched : goal.returns-in-Long-clause-fetched
returns-in-Long-clause-fetched g c = λ x5u is says. right_long (g.S.Shelf.files c.args.shelf.now) c.args.world.now says x5u c.args.name.now
    c.right_law.ensures.too_long is (c.in-Err.ensures.long (ap (λ (fault : ShelfFault). Err fault) c.in-Long.is))

pub returns-in-Ok-clause-content : goal.returns-in-Ok-clause-content
returns-in-Ok-clause-content g c = λ x5u is. (c.args.name.now, is, c.in-Ok.ensures.found)

pub returns-in-Ok-clause-rose : goal.returns-in-Ok-clause-rose
returns-in-Ok-clause-rose g c = λ so. read_rose _ _ c.in-Ok.ensures.reads
