use Rattle.std.proofs.Common.{◌≡◌, take}
use Rattle.tn_values.proofs.merging.ranked_spans.Given as goal

abbrev pub invariant-loop-span : goal.invariant-loop-span
invariant-loop-span l = l.all.items ≡ take l.span-index l.spans
