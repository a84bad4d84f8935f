-- The rows so far, and how many lines are left.
use Rattle.std.proofs.Common.{length}
use Rattle.text_grammar.specs.Rows.{Reached}
use Rattle.tn_auth_list.specs.CodeTable.{add_row, table_rows}
use Rattle.tn_auth_list.specs.CodeGroups.{IsGroups}
use Rattle.tn_auth_list.proofs.table.read_table.Given as goal

abbrev pub invariant-loop-line : goal.invariant-loop-line
invariant-loop-line l = Reached add_row IsGroups (table_rows l.text) l.lines l.groups

abbrev pub decreases-loop-line : goal.decreases-loop-line
decreases-loop-line l = length l.lines
