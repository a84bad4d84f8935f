use Rattle.std.proofs.Common.{ℕ, List, subst}
use Rattle.tn_values.specs.NumberSet.{SetView}
use Rattle.tn_values.specs.Sides.{IsEntryOf}
use Rattle.tn_values.proofs.MergedLaws.{span_digits}
use Rattle.tn_values.proofs.SideLaws.{entry_place}
use Rattle.tn_values.proofs.sets.NumberSet.place_with.Goals as goal

pub returns : goal.returns
returns c =
    let found = c.entry_uncounted.result in
    let number = c.args.span.now.start in
    let entry = subst (λ (n : List ℕ). IsEntryOf c.self.inside.entries n found) c.start.ensures.value c.entry_uncounted.ensures in
    entry_place c.args.self.now number found (span_digits c.args.span.now c.start.ensures.again)
    (subst (λ (set : SetView). IsEntryOf set number found) c.self.view_is entry)
