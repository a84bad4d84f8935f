-- the laws of what is written, at this PASSporT
use Rattle.passport_claims.proofs.ClaimsLaws.{claims_again}
use Rattle.passport_claims.proofs.ValueLaws.{header_writable, payload_writable, written_claims}
use Rattle.passport_claims.proofs.passport.Passport.to_values.Goals as goal

pub returns-clause-writable : goal.returns-clause-writable
returns-clause-writable c =
    (header_writable _ c.args.self.now c.in_ok-header.ensures, payload_writable _ c.args.self.now c.in_ok-payload.ensures.exact)

pub returns-clause-reads_back : goal.returns-clause-reads_back
returns-clause-reads_back c =
    written_claims _ _ c.args.self.now c.in_ok-header.ensures c.in_ok-payload.ensures.exact c.in_ok-payload.ensures.meets c.in_ok-payload.ensures.numbers

pub returns-clause-read_again : goal.returns-clause-read_again
returns-clause-read_again c =
    claims_again _ _ _ _ _
    (written_claims _ _ c.args.self.now c.in_ok-header.ensures c.in_ok-payload.ensures.exact c.in_ok-payload.ensures.meets c.in_ok-payload.ensures.numbers)
