-- All lines were read, and each code holds what their rows give it.
use Rattle.std.proofs.Common.{subst}
use Rattle.tn_auth_list.specs.CodeTable.{add_row, table_rows}
use Rattle.text_grammar.proofs.ReachedLaws.{all_given}
use Rattle.tn_auth_list.specs.CodeGroups.{IsGroups}
use Rattle.tn_auth_list.specs.Grant.{GrantOf}
use Rattle.tn_auth_list.proofs.HeldLaws.{get_by_bytes}
use Rattle.tn_auth_list.proofs.table.read_table.Goals as goal

pub returns-clause-table : goal.returns-clause-table
returns-clause-table c =
    let reached = c.loop-line.invariant in record {
      rows = reached.rows;
      read = all_given add_row IsGroups (table_rows c.args.text.now) c.loop-line.lines c.loop-line.groups c.in_default.ensures.0 reached;
      grants = λ code. subst (GrantOf reached.rows code) (get_by_bytes c.in_ok-held.held code) (c.in_ok-held.ensures code reached.rows code (reached.holds.held code));
    }
