-- Each step places one link more, and the end leaves none to place.
use Rattle.std.proofs.Common.{◌≡◌, ◌<◌, ◌≤◌, ◌+◌, ◌-◌, ◌++◌, length, take, slice_set, Some, arith, rules, sym, ◌∙◌, ap}
use Rattle.passport_claims.specs.OrderReading.{first_from, leads_from, walk}
use Rattle.passport_claims.proofs.WayLaws.{placed, emptied, way_ends, way_full}
use Rattle.passport_claims.proofs.diversion.walk.Goals as goal

pub returns-in_default-clause-turn : goal.returns-in_default-clause-turn
returns-in_default-clause-turn g c =
    way_ends (g.L.Passports.list c.args.links.now) c.loop-place.turn _ c.loop-place.place c.loop-place.number (search rules) c.loop-place.invariant.turn

pub loop-place-preserved : goal.loop-place-preserved
loop-place-preserved g c =
    let inside : c.loop-place.place < length (g.L.Passports.list c.args.links.now) = omega arith in
    let i = c.loop-place.invariant in
    let there : c.loop-place.place < length c.loop-place.turn = omega (arith, i.size) in
    let is : first_from (leads_from (g.L.Passports.list c.args.links.now) c.loop-place.number) 1 (length (g.L.Passports.list c.args.links.now)) ≡ Some c.in-Some.next = search rules in
    record {
      turn = ap (λ number. take (c.loop-place.place + 1) (slice_set c.loop-place.turn c.loop-place.place c.in-Some.next) ++ walk (g.L.Passports.list c.args.links.now) (length (g.L.Passports.list c.args.links.now) - (c.loop-place.place + 1)) number)
          c.dest-number-in-loop-place.ensures
          ∙ placed (g.L.Passports.list c.args.links.now) c.loop-place.turn _ c.loop-place.place c.in-Some.next c.loop-place.number inside there is i.turn;
      rest = emptied c.loop-place.turn c.loop-place.place c.in-Some.next (omega arith) i.rest;
      size = search rules;
    }

pub returns-clause-turn : goal.returns-clause-turn
returns-clause-turn g c =
    let i = c.loop-place.invariant in
    let full : length (g.L.Passports.list c.args.links.now) ≤ c.loop-place.place = omega arith in
    let same : c.loop-place.place ≡ length (g.L.Passports.list c.args.links.now) = omega arith in
    ap (λ n. take n c.loop-place.turn) (c.count.ensures ∙ sym same) ∙ way_full (g.L.Passports.list c.args.links.now) c.loop-place.turn _ c.loop-place.place c.loop-place.number full i.turn
