-- The public clauses are laws of `next_at`, which the body gives.
use Rattle.std.proofs.Common.{rules, arith}
use Rattle.der_reader.specs.Next.{next_at}
use Rattle.der_reader.proofs.NextLaws.{answer_found, one_element, answer_again, answer_shorter}
use Rattle.der_reader.proofs.UnreadableLaws.{answer_only_refused, answer_refused}
use Rattle.der_reader.proofs.element.Der.next.Goals as goal

pub returns-in_err-read-clause-only : goal.returns-in_err-read-clause-only
unfolding next_at
returns-in_err-read-clause-only c = λ element rest. answer_again c.args.bytes.now c.from_residual.result element rest (search rules)

pub returns-clause-found : goal.returns-clause-found
unfolding next_at
returns-clause-found c = answer_found c.args.bytes.now c.split.result (λ i. omega (arith, c.type_inv.bytes i)) (search rules)

pub returns-clause-only : goal.returns-clause-only
unfolding next_at
returns-clause-only c = λ element rest. answer_again c.args.bytes.now c.split.result element rest (search rules)

pub returns-clause-shorter : goal.returns-clause-shorter
unfolding next_at
returns-clause-shorter c = answer_shorter c.args.bytes.now c.split.result (search rules)

pub returns-in_err-read-clause-unique : goal.returns-in_err-read-clause-unique
returns-in_err-read-clause-unique c = one_element c.args.bytes.now

pub returns-clause-unique : goal.returns-clause-unique
returns-clause-unique c = one_element c.args.bytes.now

pub returns-in_err-read-clause-refused : goal.returns-in_err-read-clause-refused
unfolding next_at
returns-in_err-read-clause-refused c = answer_refused c.args.bytes.now c.from_residual.result (λ i. omega (arith, c.type_inv.bytes i)) (search rules)

pub returns-in_err-read-clause-only_refused : goal.returns-in_err-read-clause-only_refused
unfolding next_at
returns-in_err-read-clause-only_refused c = answer_only_refused c.args.bytes.now c.from_residual.result (search rules)

pub returns-clause-refused : goal.returns-clause-refused
unfolding next_at
returns-clause-refused c = answer_refused c.args.bytes.now c.split.result (λ i. omega (arith, c.type_inv.bytes i)) (search rules)

pub returns-clause-only_refused : goal.returns-clause-only_refused
unfolding next_at
returns-clause-only_refused c = answer_only_refused c.args.bytes.now c.split.result (search rules)
