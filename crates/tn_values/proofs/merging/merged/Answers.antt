use Rattle.std.proofs.Common.{◌≡◌, ◌++◌, ◌∷◌, ◌+◌, ◌-◌, [], List, length, take, drop, sym, ap, ◌∙◌, append_assoc, subst, arith}
use Rattle.tn_values.specs.Merged.{IsSpan, clipped, joined, merged_from}
use Rattle.tn_values.specs.Span.{SpanView}
use Rattle.tn_values.proofs.MergeLaws.{merge_apart, merge_joined, spans_all, spans_more}
use Rattle.tn_values.proofs.merging.merged.Goals as goal

pub spans-preserved-then-rank-rank_behind : goal.spans-preserved-then-rank-rank_behind
spans-preserved-then-rank-rank_behind c =
    let i = c.spans.span-index in
    let rest : List SpanView = take (length c.args.spans.now - 1) (drop 1 c.args.spans.now) in
    let span : SpanView = c.span-item.result in
    let made : c.joined-current.result ≡ joined c.spans.current span
    = c.joined-current.ensures.value ∙ ap (joined c.spans.current) c.span-then-rank-rank_behind.ensures in
    let step = merge_joined rest i c.spans.current span (omega arith) c.span-item.is
    (omega (arith, c.rank.ensures, c.rank_behind.ensures.value, c.if-rank-rank_behind.true)) in
    let is = subst (λ (s : SpanView). IsSpan s) c.span-then-rank-rank_behind.ensures c.joined-current.ensures.span in
    record {
      all = ap (λ (s : SpanView). c.spans.done.items ++ merged_from s (drop (i + 1) rest)) made
          ∙ ap (λ (s : List SpanView). c.spans.done.items ++ s) (sym step) ∙ c.spans.invariant.all;
      are = spans_more rest i span (omega arith) c.span-item.is is c.spans.invariant.are;
    }

pub spans-preserved : goal.spans-preserved
spans-preserved c =
    let i = c.spans.span-index in
    let rest : List SpanView = take (length c.args.spans.now - 1) (drop 1 c.args.spans.now) in
    let span : SpanView = c.span-item.result in
    let behind : List SpanView = drop (i + 1) rest in
    let made : c.clipped-current-in-spans.result ≡ clipped span
    = c.clipped-current-in-spans.ensures.value ∙ ap clipped c.span-in-spans.ensures in
    let step = merge_apart rest i c.spans.current span (omega arith) c.span-item.is
    (omega (arith, c.rank.ensures, c.rank_behind.ensures.value, c.if-rank-rank_behind.false)) in
    let is = subst (λ (s : SpanView). IsSpan s) c.span-in-spans.ensures c.clipped-current-in-spans.ensures.span in
    let pushed : c.push.new.self.items ≡ c.spans.done.items ++ c.spans.current ∷ [] = c.in_ok-push.ensures.items in
    record {
      all = ap (λ (s : List SpanView). s ++ merged_from c.clipped-current-in-spans.result behind) pushed
          ∙ append_assoc c.spans.done.items (c.spans.current ∷ []) (merged_from c.clipped-current-in-spans.result behind)
          ∙ ap (λ (s : SpanView). c.spans.done.items ++ c.spans.current ∷ merged_from s behind) made
          ∙ ap (λ (s : List SpanView). c.spans.done.items ++ s) (sym step) ∙ c.spans.invariant.all;
      are = spans_more rest i span (omega arith) c.span-item.is is c.spans.invariant.are;
    }

pub returns-clause-spans : goal.returns-clause-spans
returns-clause-spans c =
    let is = subst (λ (s : SpanView). IsSpan s) c.span.ensures c.clipped-current.ensures.span in
    spans_all c.args.spans.now c.first-item.result c.spans.span-index (omega arith) c.first-item.is is (omega arith) c.spans.invariant.are
