-- What the gateway is handed of a call: what the rules of the call gave for its bytes.
use Rattle.std.specs.Prelude.{◌≡◌, ℕ, List, Ok}
use Rattle.tn_values.specs.Local.{LocalView}
use Rattle.verify_rules.specs.Call.{call_of}
use Rattle.verify_rules.specs.Rules.{early_rules}
use Rattle.verify_rules.specs.Screened.{IsScreenedBy, ScreenedView}
use Rattle.verify_rules.specs.declared.settings.Settings.{Settings}

-- by settings that number so, the bytes were screened at this moment, and this was given
pub record IsScreenedFor (bytes : List ℕ) (moment : ℕ) (local : LocalView) (screened : ScreenedView) : Type 0 where
  pub settings : Settings
  pub numbering : settings.local ≡ local
  pub is : IsScreenedBy early_rules (call_of settings moment bytes) (Ok screened)
