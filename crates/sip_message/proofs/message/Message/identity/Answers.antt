-- The value is one of a short message.
use Rattle.std.proofs.Common.{◌≡◌, [], slice_index_or, rules, sym}
use Rattle.sip_message.specs.Accessors.{identities}
use Rattle.sip_message.proofs.ShortLaws.{identity_short}
use Rattle.sip_message.proofs.message.Message.identity.Goals as goal

pub returns-clause-short : goal.returns-clause-short
returns-clause-short c =
    let same : c.value_at.result.now ≡ slice_index_or (identities c.args.self.now) c.args.i [] = search rules in
    rw same (identity_short c.args.self.now c.args.i (rw (sym c.self.view_is) c.self.invariant))
