-- An iat is within the year 9999, and `past` is at most a day.
use Rattle.std.proofs.Common.{◌≤◌, ap, subst}
use Rattle.verify_rules.specs.declared.settings.Settings.{Settings}
use Rattle.verify_service.proofs.LastLaws.{last_within}
use Rattle.verify_service.proofs.screening.last_law.Goals as goal

pub returns-clause-last : goal.returns-clause-last
returns-clause-last c =
    last_within c.args.settings.now c.args.screened.now c.count-count.result c.passport.result.now c.iat-iat.result c.requires c.count-count.ensures.count c.passport.ensures c.iat-iat.ensures.value
    c.iat-iat.ensures.within (subst (λ n. n ≤ 86400) (ap (λ (s : Settings). s.past) c.settings.view_is) c.settings.invariant.past_most)
