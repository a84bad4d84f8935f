-- the laws of the claims, at this header and payload
use Rattle.std.specs.Option.{option_copied}
use Rattle.passport_claims.proofs.ClaimsLaws.{claims_only_of, claims_unique}
use Rattle.passport_claims.proofs.RefusedLaws.{claims_only_refused}
use Rattle.passport_claims.proofs.passport.Passport.from_token.Goals as goal

pub returns-clause-only : goal.returns-clause-only
returns-clause-only c = λ claims h.
    claims_only_of c.args.token.now.header c.args.token.now.payload (option_copied c.args.ppt) c.args.info.now c.claims_of.result c.claims_of.ensures claims h

pub returns-clause-unique : goal.returns-clause-unique
returns-clause-unique c = claims_unique c.args.token.now.header c.args.token.now.payload (option_copied c.args.ppt) c.args.info.now

pub returns-clause-only_refused : goal.returns-clause-only_refused
returns-clause-only_refused c =
    claims_only_refused c.args.token.now.header c.args.token.now.payload (option_copied c.args.ppt) c.args.info.now c.claims_of.result c.claims_of.ensures
