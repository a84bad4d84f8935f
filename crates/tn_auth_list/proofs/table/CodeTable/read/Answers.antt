-- Laws of the rows of a text.
use Rattle.tn_auth_list.proofs.TableLaws.{table_is, first_bad_is}
use Rattle.tn_auth_list.proofs.TableLineLaws.{row_is}
use Rattle.tn_auth_list.proofs.table.CodeTable.read.Goals as goal

pub returns-clause-rows : goal.returns-clause-rows
returns-clause-rows c = table_is c.args.text.now

pub returns-clause-first_bad : goal.returns-clause-first_bad
returns-clause-first_bad c = first_bad_is c.args.text.now

pub returns-clause-line : goal.returns-clause-line
returns-clause-line c = row_is c.words_law.ensures
