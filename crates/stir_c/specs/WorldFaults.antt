-- Which input of a world is at fault, by the numbers that C sees.
use Rattle.std.specs.Prelude.{◌≡◌, ◌⊎◌, ℕ, Option, Some, None}
use Rattle.open_calls.specs.Worlds.{AreNoAnchors, AreNoSettings, GivenWorld, HasAnchors, HasSettings, IsNoTable}
use Rattle.open_calls.specs.declared.world.WorldFault.{WorldFault}
use Rattle.open_calls.specs.declared.world.WorldFault.TheVariants as faults
use Rattle.stir_c.specs.Told.{said_by_input}
use Rattle.stir_c.specs.declared.said.Said.{Said}

-- the number of an input; `Memory` has none
abbrev pub input_of : WorldFault → Option ℕ
input_of faults.Settings = Some 1
input_of faults.Anchors = Some 4
input_of faults.Table = Some 5
input_of faults.Memory = None

abbrev pub said_of_world_fault : WorldFault → Said
said_of_world_fault fault = said_by_input (input_of fault)

-- The input of this number is outside its grammar or its limits: 1 the settings, 4 the trust anchors, 5 the code table.
-- Those that are looked at before it aren't.
pub record IsBadWorld (given : GivenWorld) (input : ℕ) : Type 0 where
  pub which : (input ≡ 1) ⊎ (input ≡ 4) ⊎ (input ≡ 5)
  pub settings : input ≡ 1 → AreNoSettings given
  pub anchors : input ≡ 4 → HasSettings given × AreNoAnchors given.anchors
  pub table : input ≡ 5 → HasSettings given × HasAnchors given × IsNoTable given.table
