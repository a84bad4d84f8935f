-- The public clauses are laws of `anchors_in`.
use Rattle.std.proofs.Common.{rules, arith, Ok}
use Rattle.delegation.proofs.AnchorLaws.{anchors_found, answer_only, one_list}
use Rattle.delegation.proofs.EndLaws.{answer_refused, answer_only_refused}
use Rattle.delegation.proofs.anchors.Anchors.read.Goals as goal

pub returns-in_err-certificates-clause-only : goal.returns-in_err-certificates-clause-only
returns-in_err-certificates-clause-only c = λ anchors. answer_only c.args.bytes.now c.from_residual.result anchors (search rules)

pub returns-in_err-certificates-clause-unique : goal.returns-in_err-certificates-clause-unique
returns-in_err-certificates-clause-unique c = one_list c.args.bytes.now

pub returns-clause-found : goal.returns-clause-found
returns-clause-found c = anchors_found c.args.bytes.now c.in_ok-certificates.certificates.items (λ i. omega (arith, c.type_inv.bytes i)) c.in_ok-certificates.ensures.exact

pub returns-clause-only : goal.returns-clause-only
returns-clause-only c = λ anchors. answer_only c.args.bytes.now (Ok c.in_ok-certificates.certificates.items) anchors (search rules)

pub returns-clause-unique : goal.returns-clause-unique
returns-clause-unique c = one_list c.args.bytes.now

pub returns-in_err-certificates-clause-refused : goal.returns-in_err-certificates-clause-refused
returns-in_err-certificates-clause-refused c =
    answer_refused c.args.bytes.now c.from_residual.result (λ i. omega (arith, c.type_inv.bytes i)) (search rules)

pub returns-in_err-certificates-clause-only_refused : goal.returns-in_err-certificates-clause-only_refused
returns-in_err-certificates-clause-only_refused c =
    λ place. answer_only_refused c.args.bytes.now c.from_residual.result place (λ i. omega (arith, c.type_inv.bytes i)) (search rules)

pub returns-clause-only_refused : goal.returns-clause-only_refused
returns-clause-only_refused c =
    λ place. answer_only_refused c.args.bytes.now (Ok c.in_ok-certificates.certificates.items) place (λ i. omega (arith, c.type_inv.bytes i)) (search rules)
