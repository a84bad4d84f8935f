-- What is done and what comes of the spans that are left are what comes of all.
use Rattle.std.proofs.Common.{◌≡◌, ◌++◌, drop, take}
use Rattle.std.specs.List.{All}
use Rattle.tn_values.specs.Merged.{IsSpan, merged, merged_from}
use Rattle.tn_values.proofs.merging.merged.Given as goal

abbrev pub invariant-spans : goal.invariant-spans
invariant-spans l = record {
  all : l.done.items ++ merged_from l.current (drop l.span-index l.rest) ≡ merged l.spans;
  are : All IsSpan (take l.span-index l.rest);
}
