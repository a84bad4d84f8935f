-- The spans of the numbers so far come after those that were given.
use Rattle.std.proofs.Common.{◌≡◌, ◌++◌, take}
use Rattle.std.specs.List.{filter_map}
use Rattle.tn_values.specs.Span.{span_of}
use Rattle.tn_values.proofs.merging.with_ranks.Given as goal

abbrev pub invariant-loop-number : goal.invariant-loop-number
invariant-loop-number l = l.all.items ≡ l.spans ++ filter_map (λ number. span_of number 1) (take l.number-index l.numbers)
