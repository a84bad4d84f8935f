-- A place, as it is printed (this project's own format).
use Rattle.std.specs.Prelude.{ℕ, ◌<◌, List, ◌++◌, codes}
use Rattle.std.specs.Fmt.{decimal}
use Rattle.verify_rules.specs.declared.refusal.Place.{Place}

-- a field, counted from 1, and a part of it
abbrev pub place_text : Place → List ℕ
place_text bad = decimal bad.field ++ (codes "." ++ decimal bad.part)

-- the numbers are below 2 to the power of 32
pub record PlaceFits (bad : Place) : Type 0 where
  pub field : bad.field < 4294967296
  pub part : bad.part < 4294967296
