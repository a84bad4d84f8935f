-- The one start, if its div is called and if it isn't.
use Rattle.std.proofs.Common.{◌≡◌, ◌+◌, ◌-◌, length, Some, None, Err, true, false, arith, rules, sym, ◌∙◌, ap}
use Rattle.passport_claims.specs.Links.{div_at}
use Rattle.passport_claims.specs.OrderReading.{first_from, is_one_of, may_start}
use Rattle.passport_claims.proofs.WayLaws.{starts}
use Rattle.passport_claims.proofs.diversion.start_of.Goals as goal

pub returns-then-not-contains-clause-exact : goal.returns-then-not-contains-clause-exact
returns-then-not-contains-clause-exact g c =
    let links = g.L.Passports.list c.args.links.now in
    let start = c.in-Some.start in
    let first : first_from (may_start links) 1 (length links) ≡ Some start = let none_before : length links ≡ length links - 0 = omega arith in ap (first_from (may_start links) 1) none_before ∙ sym c.start_behind.ensures.first ∙ c.in-Some.is in
    let second : first_from (may_start links) (start + 1) (length links - start) ≡ None = search rules in
    let called : is_one_of c.args.origin.now.dest (div_at links start) ≡ false = search rules in
    ap (λ fault. Err fault) c.new-then-not-contains.ensures ∙ sym (starts c.args.origin.now.dest links start false first second called)

pub returns-clause-exact : goal.returns-clause-exact
returns-clause-exact g c =
    let links = g.L.Passports.list c.args.links.now in
    let start = c.in-Some.start in
    let first : first_from (may_start links) 1 (length links) ≡ Some start = let none_before : length links ≡ length links - 0 = omega arith in ap (first_from (may_start links) 1) none_before ∙ sym c.start_behind.ensures.first ∙ c.in-Some.is in
    let second : first_from (may_start links) (start + 1) (length links - start) ≡ None = search rules in
    let called : is_one_of c.args.origin.now.dest (div_at links start) ≡ true = search rules in
    sym (starts c.args.origin.now.dest links start true first second called)
