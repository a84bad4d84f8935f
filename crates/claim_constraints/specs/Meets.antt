-- What constraints say of a payload (after RFC 8226, section 8; this project's own rule).
use Rattle.std.specs.Prelude.{◌≡◌, ℕ, Bool, true, false, ◌&&◌, List, Option, Some, None, is_some}
use Rattle.std.specs.List.{Contains, list_all, list_any}
use Rattle.std.specs.Str.{bytes_eq}
use Rattle.serde_json.specs.Data.{Data, null, boolean, number, string, array, object}
use Rattle.serde_json.specs.Find.{get}
use Rattle.claim_constraints.specs.Constraints.{ConstraintsView, PermitView}

-- the payload has a member of this name, with this value
abbrev pub HasMember : Data → List ℕ → Data → Type 0
HasMember payload name value = get name payload ≡ Some value

-- the value is a JSON text, and equal byte for byte to one of these
abbrev pub IsTextOf : List (List ℕ) → Data → Type 0
IsTextOf values value = (text : List ℕ) × (value ≡ string text) × Contains values text

-- Each claim that must be there is a member of the payload, and each claim of which some values are permitted has one
-- of them, if it is a member.
pub record Meets (c : ConstraintsView) (payload : Data) : Type 0 where
  pub must : (name : List ℕ) → Contains c.must name → (value : Data) × HasMember payload name value
  pub permits : (permit : PermitView) (value : Data) → Contains c.permits permit → HasMember payload permit.claim value
      → IsTextOf permit.values value

-- ---- the same as a test

-- a number, an array, an object, a truth value and null are equal to no text
abbrev pub is_one_of : List (List ℕ) → Data → Bool
is_one_of values null = false
is_one_of values (boolean b) = false
is_one_of values (number n) = false
is_one_of values (string text) = list_any (bytes_eq text) values
is_one_of values (array items) = false
is_one_of values (object all) = false

abbrev pub is_permitted : List (List ℕ) → Option Data → Bool
is_permitted values None = true
is_permitted values (Some value) = is_one_of values value

abbrev pub permits : Data → PermitView → Bool
permits payload permit = is_permitted permit.values (get permit.claim payload)

abbrev pub stands : Data → List ℕ → Bool
stands payload name = is_some (get name payload)

unfoldable pub meets : ConstraintsView → Data → Bool
meets c payload = list_all (stands payload) c.must && list_all (permits payload) c.permits
