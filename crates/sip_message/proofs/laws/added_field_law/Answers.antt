-- One field more after those of a message.
use Rattle.std.proofs.Common.{refl}
use Rattle.sip_message.proofs.AddedAccessors.{calling_same, date_same, identities_more, to_same}
use Rattle.sip_message.proofs.laws.added_field_law.Goals as goal

pub returns-clause-identity : goal.returns-clause-identity
returns-clause-identity c = identities_more

pub returns-clause-invite : goal.returns-clause-invite
returns-clause-invite c = λ message name value. refl

pub returns-clause-date : goal.returns-clause-date
returns-clause-date c = date_same

pub returns-clause-calling : goal.returns-clause-calling
returns-clause-calling c = calling_same

pub returns-clause-to : goal.returns-clause-to
returns-clause-to c = to_same

pub returns-clause-target : goal.returns-clause-target
returns-clause-target c = λ message name value local. refl
