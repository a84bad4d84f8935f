-- How long a call is fresh.
use Rattle.std.specs.Prelude.{◌≡◌, ℕ, ◌+◌, List, [], ◌∷◌, ◌++◌}
use Rattle.verify_rules.specs.Call.{Call, Reading, in_call_order}

-- The last second at which a call is fresh: the `iat` of the PASSporT that comes last in the order in which the call
-- went, plus the seconds for which a PASSporT is fresh, once.
pub record IsLastSecond (call : Call) (last : ℕ) : Type 0 where
  pub earlier : List Reading
  pub one : Reading
  pub order : in_call_order call ≡ earlier ++ one ∷ []
  pub last_is : last ≡ one.passport.iat + call.settings.past
