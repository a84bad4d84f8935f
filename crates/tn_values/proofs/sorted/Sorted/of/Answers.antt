-- The set that is built is kept in order, has the numbers that were given, and no more entries.
use Rattle.tn_values.proofs.BuildLaws.{serves}
use Rattle.tn_values.proofs.sorted.Sorted.of.Goals as goal

pub invariant_of-result : goal.invariant_of-result
invariant_of-result c =
    (serves c.args.spans.items c.deref.result.now c.in_ok-with_ranks.field-0.items c.sorted-all.result.items c.deref-3.result.now c.in_ok-merged.field-0.items c.args.numbers.items c.deref-2.result.now
    c.others.result.items c.in_ok-with_ranks.ensures c.deref.ensures.value c.deref-2.ensures.value c.sorted-all.ensures.same c.sorted-all.ensures.rises c.in_ok-merged.ensures.value c.in_ok-merged.ensures.spans
    c.deref-3.ensures.value c.others.ensures.others c.others.ensures.order c.others.ensures.same c.others.ensures.few).is_merged

pub returns : goal.returns
returns c =
    let all = serves c.args.spans.items c.deref.result.now c.in_ok-with_ranks.field-0.items c.sorted-all.result.items c.deref-3.result.now c.in_ok-merged.field-0.items c.args.numbers.items c.deref-2.result.now
    c.others.result.items c.in_ok-with_ranks.ensures c.deref.ensures.value c.deref-2.ensures.value c.sorted-all.ensures.same c.sorted-all.ensures.rises c.in_ok-merged.ensures.value c.in_ok-merged.ensures.spans
    c.deref-3.ensures.value c.others.ensures.others c.others.ensures.order c.others.ensures.same c.others.ensures.few in
    record { holds = all.holds; few = all.few }
