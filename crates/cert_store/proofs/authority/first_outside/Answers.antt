-- The certificate lies within its issuer.
use Rattle.cert_store.proofs.RuleSteps.{passes_on}
use Rattle.cert_store.proofs.authority.first_outside.Goals as goal

pub certificates-preserved : goal.certificates-preserved
certificates-preserved c =
    passes_on c.args.table.now c.args.chain.now c.args.top.now c.index-chain-index.result c.issuer_at-issuer.result.now c.certificates.index c.in_ok-lies_within.field-0 _
    c.certificates.invariant c.certificates-test.true c.index-chain-index.is c.issuer_at-issuer.ensures c.in_ok-lies_within.ensures c.if-not-branch.false
