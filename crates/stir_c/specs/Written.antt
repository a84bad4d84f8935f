-- A text in a room.
use Rattle.std.specs.Prelude.{◌≡◌, ℕ, Bool, true, false, List, ◌++◌, drop, length, nat_le}

-- whether there is room for it
abbrev pub has_room : List ℕ → List ℕ → Bool
has_room text room = nat_le (length text) (length room)

-- If there is room, the text is its first bytes, and those after it are as they were; else all are.
pub record HasWritten (text before now : List ℕ) (written : Bool) : Type 0 where
  pub exactly : written ≡ has_room text before
  pub text_is : written ≡ true → now ≡ text ++ drop (length text) before
  pub as_was : written ≡ false → now ≡ before
