-- A field more was read from its lines.
use Rattle.std.proofs.Common.{sym, ◌∙◌}
use Rattle.sip_message.proofs.HeadSteps.{field_kept}
use Rattle.sip_message.specs.Seen.{line_seen}
use Rattle.sip_message.proofs.head.read_head.Goals as goal

pub lines-preserved : goal.lines-preserved
lines-preserved c =
    field_kept c.args.size c.lines.fields.items c.push.new.self.items c.in_ok-field.field (line_seen c.in-Some.line) c.lines.lines c.next.new.self c.read_field.new.lines _
    c.lines.invariant c.in-Some.ensures (sym c.is_empty.ensures ∙ c.if-is_empty.false) c.in_ok-field.ensures.field c.in_ok-field.ensures.left c.in_ok-push.ensures.items
