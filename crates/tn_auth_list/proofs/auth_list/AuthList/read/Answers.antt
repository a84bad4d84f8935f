-- The public clauses are laws of `read_list`, which the body gives.
use Rattle.std.proofs.Common.{rules, Ok}
use Rattle.tn_auth_list.proofs.ListLaws.{list_found, answer_again, answer_refused, one_list, empty_refused, left_over_refused, past_limit_refused}
use Rattle.tn_auth_list.proofs.auth_list.AuthList.read.Goals as goal

pub returns-clause-found : goal.returns-clause-found
returns-clause-found c = list_found c.args.bytes.now c.in_ok-entries.entries.items (search rules) (search rules)

pub returns-clause-only : goal.returns-clause-only
returns-clause-only c = answer_again c.args.bytes.now (Ok c.in_ok-entries.entries.items) (search rules)

pub returns-clause-unique : goal.returns-clause-unique
returns-clause-unique c = search (rules, one_list)

pub returns-clause-empty : goal.returns-clause-empty
returns-clause-empty c = λ rest e. answer_refused c.args.bytes.now (Ok c.in_ok-entries.entries.items) (search rules) (search rules) _ (empty_refused c.args.bytes.now rest e)

pub returns-clause-left_over : goal.returns-clause-left_over
returns-clause-left_over c = λ place o. answer_refused c.args.bytes.now (Ok c.in_ok-entries.entries.items) (search rules) (search rules) _ (left_over_refused c.args.bytes.now place o)

pub returns-clause-limit : goal.returns-clause-limit
returns-clause-limit c = λ place o. answer_refused c.args.bytes.now (Ok c.in_ok-entries.entries.items) (search rules) (search rules) _ (past_limit_refused c.args.bytes.now place o)

pub returns-clause-refused : goal.returns-clause-refused
returns-clause-refused c = answer_refused c.args.bytes.now (Ok c.in_ok-entries.entries.items) (search rules) (search rules)
