-- What is handed in to open a world.
use Rattle.std.specs.Prelude.{ℕ, nat_le, List, [], take, if◌then◌else◌}
use Rattle.open_calls.specs.Worlds.{GivenWorld}
use Rattle.stir_c.specs.declared.exports_world.Settings.{Settings}

-- so many of three digits; if it says more, none
abbrev pub digits_given : ℕ → List ℕ → List ℕ
digits_given size digits = if nat_le size 3 then take size digits else []

-- the settings, and the bytes of the trust anchors and of the code table
abbrev pub world_given : Settings → List ℕ → List ℕ → GivenWorld
world_given settings anchors table = record {
  past = settings.past;
  future = settings.future;
  country = digits_given settings.country_size settings.country;
  national = settings.national;
  anchors = anchors;
  table = table;
}
