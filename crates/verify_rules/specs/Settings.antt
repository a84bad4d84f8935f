-- By what calls are judged (RFC 8224, section 6.2; how long a PASSporT is fresh is this project's own rule).
use Rattle.std.specs.Prelude.{ℕ, ◌≤◌}
use Rattle.tn_values.specs.Local.{LocalView}

-- how numbers are read, how many seconds old a PASSporT may be, and how many seconds its iat may be ahead
pub record SettingsView : Type 0 where
  pub local : LocalView
  pub past : ℕ
  pub future : ℕ

-- both are at most a day
pub record AreSettings (past future : ℕ) : Type 0 where
  pub past_most : past ≤ 86400
  pub future_most : future ≤ 86400
