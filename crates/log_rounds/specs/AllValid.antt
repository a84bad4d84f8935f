-- Calls that are all valid.
use Rattle.std.specs.Prelude.{◌≡◌, ⊤, Bool, List, [], ◌∷◌}
use Rattle.std.specs.List.{list_all}
use Rattle.verify_service.specs.Adding.{is_valid}
use Rattle.verify_service.specs.declared.outcome.Outcome.{Outcome}
use Rattle.verify_service.specs.declared.outcome.Outcome.TheVariants.{Valid}

abbrev pub all_valid : List Outcome → Bool
all_valid outcomes = list_all is_valid outcomes

-- the same by what came of each call: it is valid
abbrev pub AreValid : List Outcome → Type 0
AreValid [] = ⊤
AreValid (outcome ∷ others) = (outcome ≡ Valid) × AreValid others
