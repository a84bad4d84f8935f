-- The table's rows say what it grants.
use Rattle.std.proofs.Common.{sym, subst}
use Rattle.tn_auth_list.specs.Grant.{GrantOf}
use Rattle.tn_auth_list.proofs.table.CodeTable.numbers.Goals as goal

pub returns-clause-rows : goal.returns-clause-rows
returns-clause-rows c = λ text table. subst (GrantOf table.rows c.args.code.now) (sym c.grant.ensures) (table.grants c.args.code.now)
