-- The public clauses are laws of `read_certificate`.
use Rattle.std.proofs.Common.{subst, arith}
use Rattle.x509_profile.specs.Fault.{Gives}
use Rattle.x509_profile.proofs.CertLaws.{answer_found, answer_only, answer_only_refused, answer_refused, cut_short, left_over, one_certificate}
use Rattle.x509_profile.proofs.certificate.Certificate.read.Goals as goal

pub returns-clause-found : goal.returns-clause-found
returns-clause-found c = answer_found c.args.bytes.now c.read_exactly.result (λ i. omega (arith, c.type_inv.bytes i)) c.read_exactly.ensures.exact

pub returns-clause-only : goal.returns-clause-only
returns-clause-only c = λ view. answer_only c.args.bytes.now c.read_exactly.result view c.read_exactly.ensures.exact

pub returns-clause-unique : goal.returns-clause-unique
returns-clause-unique c = one_certificate c.args.bytes.now

pub returns-clause-refused : goal.returns-clause-refused
returns-clause-refused c = λ fault. answer_refused c.args.bytes.now c.read_exactly.result fault (λ i. omega (arith, c.type_inv.bytes i)) c.read_exactly.ensures.exact

pub returns-clause-only_refused : goal.returns-clause-only_refused
returns-clause-only_refused c = answer_only_refused c.args.bytes.now c.read_exactly.result (λ i. omega (arith, c.type_inv.bytes i)) c.read_exactly.ensures.exact

pub returns-clause-cut_short : goal.returns-clause-cut_short
returns-clause-cut_short c = λ whole more certificate t split some.
    subst (λ read. Gives (λ c. c) c.read_exactly.result read) (cut_short c.args.bytes.now more whole certificate t split some) c.read_exactly.ensures.exact

pub returns-clause-left_over : goal.returns-clause-left_over
returns-clause-left_over c = λ whole more certificate t split some few.
    subst (λ read. Gives (λ c. c) c.read_exactly.result read)
    (left_over c.args.bytes.now whole more certificate (λ i. omega (arith, c.type_inv.bytes i)) t split some few) c.read_exactly.ensures.exact
