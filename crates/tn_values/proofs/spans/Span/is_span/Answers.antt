use Rattle.std.proofs.Common.{subst}
use Rattle.tn_values.specs.Merged.{IsSpan}
use Rattle.tn_values.specs.Span.{SpanView}
use Rattle.tn_values.proofs.MergedLaws.{span_from}
use Rattle.tn_values.proofs.spans.Span.is_span.Goals as goal

pub returns : goal.returns
returns c =
    let span : SpanView = record { start = c.self.inside.start; size = c.self.inside.size } in
    subst (λ (s : SpanView). IsSpan s) c.self.view_is (span_from span c.bytes.ensures.number c.self.invariant)
