-- The end of the head is the place of the first empty line.
use Rattle.std.proofs.Common.{length, sym, ◌∙◌}
use Rattle.sip_message.specs.Added.{head_end}
use Rattle.sip_message.specs.Seen.{head_seen, line_seen}
use Rattle.sip_message.proofs.EndLaws.{end_read, ended}
use Rattle.sip_message.proofs.message.read_parts.Goals as goal

pub returns-clause-end : goal.returns-clause-end
returns-clause-end c =
    let bytes = c.args.bytes.now in
    ended c.checked.result c.in_ok-head.head.end (head_end bytes) c.checked.ensures.end
    (end_read bytes (length bytes) (line_seen c.in-Some.line) c.next.new.self (c.in-Some-start_line.method.now, c.in-Some-start_line.uri.now) (head_seen c.in_ok-head.head)
    (sym c.new-lines.ensures ∙ c.in-Some.ensures) (sym c.in-Some-start_line.ensures) c.in_ok-head.ensures)
