-- All entries are written, so the text is that of the list.
use Rattle.std.proofs.Common.{rules}
use Rattle.tn_auth_list.proofs.WriteLaws.{text_written}
use Rattle.tn_auth_list.proofs.writing.list_text.Goals as goal

pub returns : goal.returns
returns c =
    text_written c.in_ok-text.text.items c.loop-entry.content.items c.deref.result.now c.args.entries.now c.loop-entry.entry-index
    c.loop-entry.invariant (search rules) c.in_ok-text.ensures.text (search rules) (search rules)
