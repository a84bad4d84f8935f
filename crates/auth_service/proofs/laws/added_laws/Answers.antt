-- Clause by clause.
use Rattle.auth_service.proofs.laws.added_laws.Goals as goal

pub returns : goal.returns
returns c =
    let law = c.added_field_law.ensures in
    record { identity = law.identity; invite = law.invite; dated = law.date; calling = law.calling; called = law.to; target = law.target }
