-- What is signed is a token with any signature.
use Rattle.passport_claims.proofs.SignableLaws.{signable_answer}
use Rattle.passport_claims.proofs.passport.Passport.signing_text.Goals as goal

pub returns-clause-signable : goal.returns-clause-signable
returns-clause-signable c =
    signable_answer c.signing_of.result c.full_text_law.ensures c.compact_text_law.ensures c.token_law.ensures c.token_bytes_law.ensures.full _ _ c.args.self.now
    c.in_ok-values.ensures.header c.in_ok-values.ensures.payload c.in_ok-values.ensures.reads_back c.in_ok-values.ensures.read_again c.signing_of.ensures.header
    c.signing_of.ensures.payload
