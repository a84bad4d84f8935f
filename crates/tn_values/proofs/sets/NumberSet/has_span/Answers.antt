use Rattle.std.proofs.Common.{◌≤◌, ◌<◌, arith, subst}
use Rattle.std.proofs.lemmas.Bool.Decides.{nat_tests}
use Rattle.tn_values.specs.Merged.{IsMerged, rank_behind}
use Rattle.tn_values.specs.NumberSet.{SetView}
use Rattle.tn_values.specs.Span.{SpanView}
use Rattle.tn_values.proofs.MergedLaws.{all_by_first, first_gap, gap_behind}
use Rattle.tn_values.proofs.sets.NumberSet.has_span.Goals as goal

pub returns-in-Some-clause-all : goal.returns-in-Some-clause-all
returns-in-Some-clause-all c = λ had number h.
    let own : SpanView = c.in-Some.own in
    let held = c.in-Some.ensures in
    let reaches : rank_behind c.args.span.now ≤ rank_behind own
    = grind (arith, nat_tests, had, c.rank_behind-behind.ensures.value, c.rank_behind.ensures.value) in
    all_by_first c.args.self.now c.args.span.now own held.0 held.1 reaches number h

pub returns-in-Some-clause-gap : goal.returns-in-Some-clause-gap
returns-in-Some-clause-gap c = λ lacks.
    let own : SpanView = c.in-Some.own in
    let held = c.in-Some.ensures in
    let short : rank_behind own < rank_behind c.args.span.now
    = grind (arith, nat_tests, lacks, c.rank_behind-behind.ensures.value, c.rank_behind.ensures.value) in
    gap_behind c.args.self.now c.args.span.now own (subst (λ (set : SetView). IsMerged set) c.self.view_is c.is_merged.ensures)
    c.rank_behind-behind.ensures.span held.0 held.1 short

pub returns-in-None-clause-gap : goal.returns-in-None-clause-gap
returns-in-None-clause-gap c = λ lacks. first_gap c.args.self.now c.args.span.now c.rank_behind-behind.ensures.span c.in-None.ensures
