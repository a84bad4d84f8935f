-- The gateway goes by what was handed in.
use Rattle.std.proofs.Common.{◌≡◌, ap, sym, subst, ◌∙◌, rules}
use Rattle.std.specs.Option.{option_copied}
use Rattle.open_calls.specs.Confirmed.{ConfirmedView}
use Rattle.verify_rules.specs.Settings.{SettingsView}
use Rattle.open_calls.specs.Going.{given_of}
use Rattle.open_calls.specs.Unmoved.{IsUnmovedFor}
use Rattle.open_calls.specs.declared.unmoved.Unmoved.{Unmoved}
use Rattle.open_calls.proofs.MovedLaws.{held_as, is_going, no_holder_as, one_each, onward_as, unmoved_by}
use Rattle.open_calls.proofs.gateway.move_by.Goals as goal

pub returns-in_default-clause-unmoved : goal.returns-in_default-clause-unmoved
returns-in_default-clause-unmoved c =
    no_holder_as (option_copied c.args.retargeting.now.target.leaf) c.table.result.now c.args.retargeting.now.world.now.table c.behind-call.inside.local c.args.retargeting.now.call.now.settings.local c.table.ensures
    (ap (λ (s : SettingsView). s.local) (c.behind-call.view_is ∙ c.settings.ensures)) c.in_default.ensures

pub onward-requires-clause-one_each : goal.onward-requires-clause-one_each
onward-requires-clause-one_each c = one_each c.args.retargeting.now.call.now c.in-Ok.screened.now c.args.retargeting.now.chains.now c.in-Ok.ensures c.args.retargeting.now.one_each

pub returns-in-Ok-onward-clause-moved : goal.returns-in-Ok-onward-clause-moved
returns-in-Ok-onward-clause-moved c =
    let given = given_of c.args.retargeting.now in
    let local : c.behind-call.inside.local ≡ c.args.retargeting.now.call.now.settings.local = ap (λ (s : SettingsView). s.local) (c.behind-call.view_is ∙ c.settings.ensures) in
    let made : c.new-host.result.made ≡ c.args.made = ap (λ (v : ConfirmedView). v.made) c.new-host.ensures.exact in
    record {
      going = _;
      going_is = is_going given _ _ _ c.new-host.result _ _ c.args.made c.table.result.now c.behind-call.inside.local _ _ c.in-Ok.ensures c.message.ensures c.moment.ensures
          c.new-host.ensures.exact c.as_slice.ensures.value c.in-Ok-questions.ensures.asked c.table.ensures local c.hop-hop.ensures (search rules) c.in-Some.ensures;
      onward = onward_as _ _ _ _ made c.in-Ok-onward.ensures.onward;
    }

pub returns-clause-unmoved : goal.returns-clause-unmoved
returns-clause-unmoved c =
    let given = given_of c.args.retargeting.now in
    let local : c.behind-call.inside.local ≡ c.args.retargeting.now.call.now.settings.local = ap (λ (s : SettingsView). s.local) (c.behind-call.view_is ∙ c.settings.ensures) in
    let made : c.new-host.result.made ≡ c.args.made = ap (λ (v : ConfirmedView). v.made) c.new-host.ensures.exact in
    let fault = c.in-Err-onward.fault in
    subst (λ (came : Unmoved). IsUnmovedFor given c.args.made came) (sym c.why.ensures)
    (unmoved_by given _ c.args.made fault
    (is_going given _ _ _ c.new-host.result _ _ c.args.made c.table.result.now c.behind-call.inside.local _ _ c.in-Ok.ensures c.message.ensures c.moment.ensures
    c.new-host.ensures.exact c.as_slice.ensures.value c.in-Ok-questions.ensures.asked c.table.ensures local c.hop-hop.ensures (search rules) c.in-Some.ensures)
    (held_as _ _ _ _ made c.in-Err-onward.ensures.held) c.in-Err-onward.ensures.named)
