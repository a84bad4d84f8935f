-- What every call goes by: the settings, the trust anchors and the code table, as bytes and as they are read.
use Rattle.std.specs.Prelude.{◌≡◌, ⊤, ◌⊎◌, ℕ, ◌<◌, List, Some, None, length}
use Rattle.delegation.specs.Anchors.{AnchorText, EndsAt}
use Rattle.delegation.specs.Coverage.{Table}
use Rattle.tn_auth_list.specs.CodeTable.{FirstBad}
use Rattle.tn_auth_list.specs.Grant.{TableOf}
use Rattle.tn_values.specs.Local.{local_of}
use Rattle.verify_rules.specs.Settings.{SettingsView}
use Rattle.x509_profile.specs.View.{CertView}
use Rattle.open_calls.specs.declared.world.WorldFault.{WorldFault}
use Rattle.open_calls.specs.declared.world.WorldFault.TheVariants as faults
use Rattle.open_calls.specs.declared.world.WorldSetting.{WorldSetting}

pub record WorldView : Type 0 where
  pub settings : SettingsView
  pub anchors : List CertView
  pub table : Table

-- the settings as they are told, the trust anchors one after another, and the lines of a code table
pub record GivenWorld : Type 0 where
  pub past : ℕ
  pub future : ℕ
  pub country : List ℕ
  pub national : ℕ
  pub anchors : List ℕ
  pub table : List ℕ

abbrev pub given_world : WorldSetting → List ℕ → List ℕ → GivenWorld
given_world setting anchors table = record {
  past = setting.past;
  future = setting.future;
  country = setting.country.now;
  national = setting.national;
  anchors = anchors;
  table = table;
}

-- ---- what it is read as

-- a PASSporT may be past and ahead by at most a day each; and there is such a local numbering
pub record AreSettings (given : GivenWorld) (settings : SettingsView) : Type 0 where
  pub past_is : settings.past ≡ given.past
  pub future_is : settings.future ≡ given.future
  pub local_is : local_of given.country given.national ≡ Some settings.local

pub record IsWorldOf (given : GivenWorld) (world : WorldView) : Type 0 where
  pub settings_are : AreSettings given world.settings
  pub anchors_are : AnchorText given.anchors world.anchors
  pub table_is : TableOf given.table world.table

-- ---- what isn't read

-- a PASSporT may be past or ahead by more than a day, or there is no such local numbering
abbrev pub AreNoSettings : GivenWorld → Type 0
AreNoSettings given = (86400 < given.past) ⊎ (86400 < given.future) ⊎ (local_of given.country given.national ≡ None)

-- after anchors comes something that is none
abbrev pub AreNoAnchors : List ℕ → Type 0
AreNoAnchors bytes = (place : ℕ) × EndsAt bytes place

-- the lines have more than 16,777,216 bytes, or one of them is bad
abbrev pub IsNoTable : List ℕ → Type 0
IsNoTable text = (16777216 < length text) ⊎ ((line : ℕ) × FirstBad text line)

-- the fault is this one, for this cause; or memory ran out
abbrev pub IsFaultFor : WorldFault → Type 0 → WorldFault → Type 0
IsFaultFor this cause fault = ((fault ≡ this) × cause) ⊎ (fault ≡ faults.Memory)

pub record HasSettings (given : GivenWorld) : Type 0 where
  pub settings : SettingsView
  pub set : AreSettings given settings

pub record HasAnchors (given : GivenWorld) : Type 0 where
  pub certificates : List CertView
  pub read : AnchorText given.anchors certificates

-- What of it is at fault. What is looked at before is read: first the settings, then the anchors, and then the table.
-- Memory may run out in any case.
abbrev pub IsFaulty : GivenWorld → WorldFault → Type 0
IsFaulty given faults.Settings = AreNoSettings given
IsFaulty given faults.Anchors = HasSettings given × AreNoAnchors given.anchors
IsFaulty given faults.Table = HasSettings given × HasAnchors given × IsNoTable given.table
IsFaulty given faults.Memory = ⊤
