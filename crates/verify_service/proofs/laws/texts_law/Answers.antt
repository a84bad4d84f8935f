-- The texts of a round.
use Rattle.verify_service.proofs.FewLaws.{counts_apart, once_each, once_joined, once_most}
use Rattle.verify_service.proofs.NeededLaws.{all_named_are}
use Rattle.verify_service.proofs.RoundTextLaws.{round_first, round_has}
use Rattle.verify_service.proofs.laws.texts_law.Goals as goal

pub returns-clause-named : goal.returns-clause-named
returns-clause-named c = all_named_are

pub returns-clause-once : goal.returns-clause-once
returns-clause-once c = once_each

pub returns-clause-these : goal.returns-clause-these
returns-clause-these c = round_has

pub returns-clause-first : goal.returns-clause-first
returns-clause-first c = round_first

pub returns-clause-joined : goal.returns-clause-joined
returns-clause-joined c = once_joined

pub returns-clause-most : goal.returns-clause-most
returns-clause-most c = once_most

pub returns-clause-apart : goal.returns-clause-apart
returns-clause-apart c = counts_apart
