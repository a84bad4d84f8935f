use Rattle.std.proofs.Common.{subst}
use Rattle.tn_values.specs.Merged.{IsMerged}
use Rattle.tn_values.specs.NumberSet.{SetView}
use Rattle.tn_values.proofs.MergedLaws.{one_entry, span_from}
use Rattle.tn_values.proofs.sets.NumberSet.spans.Goals as goal

pub returns-clause-one : goal.returns-clause-one
returns-clause-one c = λ span number is all.
    one_entry c.args.self.now span (subst (λ (set : SetView). IsMerged set) c.self.view_is c.is_merged.ensures) (span_from span number is) all
