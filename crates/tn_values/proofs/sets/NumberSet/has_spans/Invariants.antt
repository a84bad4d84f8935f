use Rattle.tn_values.proofs.WithinLaws.{HasSpans}
use Rattle.tn_values.proofs.sets.NumberSet.has_spans.Given as goal

-- the set has every number of the spans that were walked
abbrev pub invariant-loop-span : goal.invariant-loop-span
invariant-loop-span l = HasSpans l.spans l.self l.span-index
