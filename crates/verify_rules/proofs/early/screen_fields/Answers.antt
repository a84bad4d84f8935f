-- The last rule: a stale PASSporT refuses the call, and a call whose PASSporTs are all fresh is screened.
use Rattle.std.proofs.Common.{◌≡◌, List, ◌∷◌, map, rules, subst, take}
use Rattle.sip_message.specs.Message.{MessageView}
use Rattle.verify_rules.specs.Call.{IdentityField, facts_of, links, read_call}
use Rattle.verify_rules.specs.Seen.{Serves, field_seen}
use Rattle.verify_rules.specs.declared.facts.Facts.{Facts}
use Rattle.verify_rules.specs.declared.settings.Settings.{Settings}
use Rattle.verify_rules.proofs.EarlySteps.{none_refused, refused_stale}
use Rattle.verify_rules.proofs.early.screen_fields.Goals as goal

-- what serves for the numbering of the fields of some settings serves for that of the settings
served : (told seen : Settings) (message : MessageView) (said : Facts) (fields : List IdentityField) → told ≡ seen → Serves said (facts_of told.local message) fields
    → Serves said (facts_of seen.local message) fields
served told seen message said fields same h = subst (λ (s : Settings). Serves said (facts_of s.local message) fields) same h

pub returns-in-Some-stale : goal.returns-in-Some-stale
returns-in-Some-stale c =
    let order = c.in-Ok-order_of.order in
    let said =
    served _ c.args.settings.now c.args.message.now c.for_judged-facts.result (field_seen c.in-Some.origin.now ∷ links (map field_seen c.args.fields.now)) c.settings.view_is c.for_judged-facts.ensures in
    rw c.broken-in-Some-stale.ensures
    (refused_stale (read_call c.args.settings.now c.args.moment c.args.message.now) (map field_seen c.args.fields.now) (field_seen c.in-Some.origin.now) c.for_judged-facts.result c.in-Ok.readings
    (take order.length order.turn) c.new-screened.result c.in-Some-stale.place c.requires.fields (search rules) (search rules) said c.in-Ok.ensures.exact.0 c.in-Ok.ensures.exact.1
    (search rules) c.in-Ok-order_of.ensures.0 c.new-screened.ensures c.in-Some-stale.ensures)

pub returns : goal.returns
returns c =
    let order = c.in-Ok-order_of.order in
    let said =
    served _ c.args.settings.now c.args.message.now c.for_judged-facts.result (field_seen c.in-Some.origin.now ∷ links (map field_seen c.args.fields.now)) c.settings.view_is c.for_judged-facts.ensures in
    none_refused (read_call c.args.settings.now c.args.moment c.args.message.now) (map field_seen c.args.fields.now) (field_seen c.in-Some.origin.now) c.for_judged-facts.result c.in-Ok.readings
    (take order.length order.turn) c.new-screened.result c.requires.fields (search rules) (search rules) said c.in-Ok.ensures.exact.0 c.in-Ok.ensures.exact.1
    (search rules) c.in-Ok-order_of.ensures.0 c.new-screened.ensures (search rules)
