use Rattle.tn_auth_list.proofs.WriteLaws.{Written}
use Rattle.tn_auth_list.proofs.writing.list_text.Given as goal

-- the entries so far are written
abbrev pub invariant-loop-entry : goal.invariant-loop-entry
invariant-loop-entry l = Written l.content.items l.entries l.entry-index
