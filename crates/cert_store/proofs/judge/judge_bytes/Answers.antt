-- What is said of bytes is what is said of what is read from them.
use Rattle.std.proofs.Common.{◌≡◌, Ok, IfOk, subst, arith}
use Rattle.std.proofs.lemmas.Bool.Decides.{nat_tests}
use Rattle.x509_profile.specs.Chain.{certificates_in, refused_at}
use Rattle.cert_store.specs.Judged.{IsJudged, JudgedView}
use Rattle.cert_store.proofs.JudgedLaws.{chain_judged, long_judged, refused_judged}
use Rattle.cert_store.proofs.judge.judge_bytes.Goals as goal

pub returns-in-Ok-clause-exact : goal.returns-in-Ok-clause-exact
returns-in-Ok-clause-exact g c =
    let read : certificates_in c.args.bytes.now ≡ Ok c.in-Ok.certificates.items = c.in-Ok.ensures.exact in
    let P : JudgedView → Type 0 = λ truth. IfOk c.judge_certificates.result
    (IsJudged truth (g.P.Provider.faults c.args.provider.now) (g.P.Provider.faults c.judge_certificates.new.provider)) in
    subst P (chain_judged c.args.anchors.now c.args.table.now (g.P.Provider.says c.args.provider.now) c.args.bytes.now c.in-Ok.certificates.items (let t = c.if-bytes-gt-MOST_CHAIN_BYTES.false in grind (arith, nat_tests)) read)
    c.judge_certificates.ensures.exact

pub returns-in-Err-At-clause-exact : goal.returns-in-Err-At-clause-exact
returns-in-Err-At-clause-exact g c =
    let refused = rw c.in-Err-At.field-0-is at c.in-Err-At.ensures.exact in
    refused_judged c.args.anchors.now c.args.table.now (g.P.Provider.says c.args.provider.now) c.args.bytes.now (refused_at c.in-Err-At.number c.in-Err-At.field-0-1)
    (g.P.Provider.faults c.args.provider.now) c.outside_profile-in-Err-At.result (let t = c.if-bytes-gt-MOST_CHAIN_BYTES.false in grind (arith, nat_tests)) refused c.outside_profile-in-Err-At.ensures

pub returns-then-bytes-gt-MOST_CHAIN_BYTES-clause-exact : goal.returns-then-bytes-gt-MOST_CHAIN_BYTES-clause-exact
returns-then-bytes-gt-MOST_CHAIN_BYTES-clause-exact g c =
    long_judged c.args.anchors.now c.args.table.now (g.P.Provider.says c.args.provider.now) c.args.bytes.now (g.P.Provider.faults c.args.provider.now) c.outside_profile.result c.if-bytes-gt-MOST_CHAIN_BYTES.true c.outside_profile.ensures
