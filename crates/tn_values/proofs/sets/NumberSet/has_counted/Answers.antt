use Rattle.std.proofs.Common.{sym, ◌∙◌, subst}
use Rattle.tn_values.specs.NumberSet.{SetView}
use Rattle.tn_values.specs.Sides.{IsEntryOf}
use Rattle.tn_values.proofs.SideLaws.{entry_decides}
use Rattle.tn_values.proofs.sets.NumberSet.has_counted.Goals as goal

pub returns-clause-holds : goal.returns-clause-holds
returns-clause-holds g c =
    let entry = subst (λ (set : SetView). IsEntryOf set c.args.number.now c.entry_of.result) c.self.view_is c.entry_of.ensures.entry in
    let decides = entry_decides c.args.self.now c.args.number.now c.entry_of.result entry in
    (λ t. decides.0 (sym c.is_some.ensures ∙ t), λ held. c.is_some.ensures ∙ decides.1 held)
