-- The local numbering: which texts are numbers of the own country, and what comes before those. This project's own
-- rule.
use Rattle.std.specs.Prelude.{ℕ, Bool, ◌&&◌, ◌+◌, nat_le, List, length, Option, Some, None, if◌then◌else◌}
use Rattle.tn_values.specs.Digit.{are_digits}

-- the digits of the country, and how many digits a national number has
pub record LocalView : Type 0 where
  pub country : List ℕ
  pub national : ℕ

-- the country is 1 to 3 digits, a national number has 1 to 14, and both together are no longer than a number
unfoldable pub is_local : List ℕ → ℕ → Bool
is_local country national =
    nat_le 1 (length country) && nat_le (length country) 3 && are_digits country
    && nat_le 1 national && nat_le national 14 && nat_le (length country + national) 15

-- the local numbering with these parts, if there is one
abbrev pub local_of : List ℕ → ℕ → Option LocalView
local_of country national =
    if is_local country national then Some (record { country = country; national = national }) else None
