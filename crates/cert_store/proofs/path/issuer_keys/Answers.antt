-- One key more.
use Rattle.cert_store.proofs.RuleSteps.{count_more, keys_more}
use Rattle.cert_store.proofs.path.issuer_keys.Goals as goal

pub certificates-preserved : goal.certificates-preserved
certificates-preserved c =
    let i = c.certificates.invariant in
    record {
      all = keys_more c.args.anchors.now c.args.chain.now c.args.top.now c.index-chain-index.result c.issuer_at-issuer.result.now c.certificates.index c.certificates.keys.items c.push.new.self.items _
          c.issuer_key.result i.all c.certificates-test.true c.index-chain-index.is c.issuer_at-issuer.ensures c.issuer_key.ensures c.in_ok-push.ensures.items;
      count = count_more c.certificates.keys.items c.push.new.self.items c.issuer_key.result c.certificates.index i.count c.in_ok-push.ensures.items;
    }
