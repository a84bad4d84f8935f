use Rattle.std.proofs.Common.{◌↔◌, ℕ, List, subst}
use Rattle.std.specs.Prelude.{IfOk}
use Rattle.tn_values.specs.NumberSet.{SetHolds, SetView}
use Rattle.delegation.proofs.gathering.Gathered.finish.Goals as goal

pub returns : goal.returns
returns c =
    subst (λ (gathered : SetView). IfOk c.build.result (λ set. (number : List ℕ) → SetHolds set number ↔ SetHolds gathered number)) c.self.view_is
    c.build.ensures.holds
