-- One PASSporT more.
use Rattle.std.proofs.Common.{◌<◌, length, arith}
use Rattle.open_calls.proofs.ClaimsSteps.{one_more}
use Rattle.open_calls.proofs.lines.claims_of.Goals as goal

pub passports-preserved : goal.passports-preserved
passports-preserved c =
    let i = c.passports.invariant in
    let test = c.passports-test.true in
    let end = i.end in
    let within : c.passports.i < length c.args.screened.now.readings = omega arith in
    record {
      end = i.end;
      so = one_more c.args.screened.now.readings c.passports.text.items c.add_claims.new.text.items c.passports.i i.so within c.in_ok-add_claims.ensures;
    }
