-- What goes on, at its next hop.
use Rattle.std.proofs.Common.{◌≤◌, length, arith}
use Rattle.retarget.proofs.AskLaws.{after_passed}
use Rattle.retarget.proofs.GatewayLaws.{link_ok, next_ok}
use Rattle.retarget.proofs.gateway.retarget.Goals as goal

pub returns-in-Passed-clause-next : goal.returns-in-Passed-clause-next
returns-in-Passed-clause-next g c =
    let some : 1 ≤ length c.args.screened.now.readings = omega (arith, c.count-some.ensures.count, c.count-some.ensures.some) in
    next_ok (λ out. out.items) c.pass_on.result c.laws.ensures c.args.bytes.now c.args.moment c.args.screened.now _ _ _ _ _ c.requires.screened some c.in-Passed.ensures.right c.pass_on.ensures.written

pub returns-in-Passed-clause-link : goal.returns-in-Passed-clause-link
returns-in-Passed-clause-link g c =
    let some : 1 ≤ length c.args.screened.now.readings = omega (arith, c.count-some.ensures.count, c.count-some.ensures.some) in
    link_ok (λ out. out.items) c.pass_on.result c.laws.ensures c.args.bytes.now c.args.moment c.args.screened.now _ _ _ c.requires.screened some c.pass_on.ensures.written

pub returns-in-Passed-clause-unsigned : goal.returns-in-Passed-clause-unsigned
returns-in-Passed-clause-unsigned g c = after_passed _ _ _ c.pass_on.result c.pass_on.ensures.passed
