-- Where the walk ends.
use Rattle.std.proofs.Common.{rules, sym, ◌∙◌}
use Rattle.delegation.proofs.WalkLaws.{at_last, is_no_issuer}
use Rattle.delegation.proofs.path.last_of.Goals as goal

pub returns-in_err-link-clause-exact : goal.returns-in_err-link-clause-exact
returns-in_err-link-clause-exact c =
    let k = is_no_issuer c.loop-certificate.place c.loop-certificate.certificate-index c.loop-certificate.below.now c.certificate-item.result
    c.args.above.now c.in_err-link.field-0.0 (search rules) (search rules) (sym c.in_err-link.ensures.exact) in
    search (rules, sym k ∙ c.loop-certificate.invariant.1)

pub returns-clause-exact : goal.returns-clause-exact
returns-clause-exact c =
    sym (at_last c.loop-certificate.place c.loop-certificate.certificate-index c.loop-certificate.below.now c.args.above.now (search rules))
    ∙ c.loop-certificate.invariant.1
