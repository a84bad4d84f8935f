use Rattle.std.proofs.Common.{rules}
use Rattle.std.proofs.lemmas.List.Sorted.{IsNonDecreasingBy-from_sort_by_key}
use Rattle.tn_values.specs.Merged.{rank_of}
use Rattle.tn_values.specs.Span.{SpanView}
use Rattle.tn_values.proofs.merging.sorted.Goals as goal

pub returns-clause-rises : goal.returns-clause-rises
returns-clause-rises c =
    IsNonDecreasingBy-from_sort_by_key (λ (span : SpanView). rank_of span.start) _ c.sort_unstable_by_key.ensures.sorted (λ a r q k. search rules)
