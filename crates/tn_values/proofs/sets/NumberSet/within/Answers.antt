use Rattle.std.proofs.Common.{ℕ, List, [], subst}
use Rattle.tn_values.specs.Merged.{IsMerged}
use Rattle.tn_values.specs.NumberSet.{SetView, set_of, IsWithin, Outside}
use Rattle.tn_values.specs.Span.{SpanView}
use Rattle.tn_values.proofs.MergedLaws.{kept_singles, kept_spans}
use Rattle.tn_values.proofs.WithinLaws.{both_within, singles_outside, spans_outside}
use Rattle.tn_values.proofs.sets.NumberSet.within.Goals as goal

abbrev Kept : SetView → Type 0
Kept set = IsMerged set

pub returns-then-has_singles-clause-all : goal.returns-then-has_singles-clause-all
returns-then-has_singles-clause-all c = λ had.
    let P : List (List ℕ) → Type 0 = λ singles. IsWithin (set_of [] singles) c.args.parent.now in
    let Q : List SpanView → Type 0 = λ spans. IsWithin (set_of spans []) c.args.parent.now in
    both_within c.args.self.now c.args.parent.now
    (subst P c.singles.ensures (c.has_singles.ensures.all c.if-has_singles.true)) (subst Q c.spans.ensures.value (c.has_spans.ensures.all had))

pub returns-then-has_singles-clause-outside : goal.returns-then-has_singles-clause-outside
returns-then-has_singles-clause-outside c = λ had.
    let Q : List SpanView → Type 0 = λ spans. Outside (set_of spans []) c.args.parent.now in
    spans_outside c.args.self.now c.args.parent.now (subst Q c.spans.ensures.value (c.has_spans.ensures.outside had))

pub returns-else-has_singles-clause-outside : goal.returns-else-has_singles-clause-outside
returns-else-has_singles-clause-outside c = λ had.
    let P : List (List ℕ) → Type 0 = λ singles. Outside (set_of [] singles) c.args.parent.now in
    singles_outside c.args.self.now c.args.parent.now (subst P c.singles.ensures (c.has_singles.ensures.outside had))

pub returns-then-has_singles-clause-same_spans : goal.returns-then-has_singles-clause-same_spans
returns-then-has_singles-clause-same_spans c = λ there back.
    kept_spans c.args.self.now c.args.parent.now (subst Kept c.self.view_is c.is_merged.ensures) (subst Kept c.parent.view_is c.is_merged-2.ensures) there back

pub returns-then-has_singles-clause-same_singles : goal.returns-then-has_singles-clause-same_singles
returns-then-has_singles-clause-same_singles c = λ there back.
    kept_singles c.args.self.now c.args.parent.now (subst Kept c.self.view_is c.is_merged.ensures) (subst Kept c.parent.view_is c.is_merged-2.ensures) there back

pub returns-else-has_singles-clause-same_spans : goal.returns-else-has_singles-clause-same_spans
returns-else-has_singles-clause-same_spans c = λ there back.
    kept_spans c.args.self.now c.args.parent.now (subst Kept c.self.view_is c.is_merged.ensures) (subst Kept c.parent.view_is c.is_merged-2.ensures) there back

pub returns-else-has_singles-clause-same_singles : goal.returns-else-has_singles-clause-same_singles
returns-else-has_singles-clause-same_singles c = λ there back.
    kept_singles c.args.self.now c.args.parent.now (subst Kept c.self.view_is c.is_merged.ensures) (subst Kept c.parent.view_is c.is_merged-2.ensures) there back
