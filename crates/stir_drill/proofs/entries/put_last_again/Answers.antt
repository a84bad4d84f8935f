use Rattle.std.proofs.Common.{rules, ◌≡◌, ◌-◌, ◌++◌, length, ap, ◌∙◌}
use Rattle.std.specs.List.{slice_range}
use Rattle.stir_drill.proofs.EntryLaws.{entry_again}
use Rattle.stir_drill.proofs.entries.put_last_again.Goals as goal

pub returns : goal.returns
returns c = λ front message l s.
    let start : c.saturating_sub-start.result ≡ c.len-end.result - c.args.size = search rules in
    let end : c.len-end.result ≡ length c.args.log.now.items = search rules in
    entry_again c.args.log.now.items c.extend_from_within.new.self.items front message c.args.moment c.args.size c.saturating_sub-start.result
    c.len-end.result l s start end
    (c.in_ok-extend_from_within.ensures.items ∙ ap (λ x. x ++ slice_range x c.saturating_sub-start.result c.len-end.result) c.in_ok-put_header.ensures)
