-- What a member of a header or a payload is (RFC 8225, sections 4 and 5): a text, a number, or the called numbers.
use Rattle.std.specs.Prelude.{◌≡◌, ℕ, suc, true, ◌&&◌, nat_le, List, [], ◌∷◌, ◌++◌, Option, Some, None, option_and_then}
use Rattle.std.specs.Prelude.{codes, if◌then◌else◌}
use Rattle.std.specs.List.{list_all}
use Rattle.serde_json.specs.Data.{Data, string, array, Items, no_items, item}
use Rattle.serde_json.specs.Find.{get, as_array, as_str}
use Rattle.tn_values.specs.Number.{exact, is_number}
use Rattle.passport_json.specs.Passport.{texts}

-- the member of this name is this text
abbrev pub HasText : List ℕ → List ℕ → Data → Type 0
HasText name text value = get name value ≡ Some (string text)

-- the member of this name is an object whose `tn` is this number
pub record HasNumber (name : List ℕ) (value : Data) (number : List ℕ) : Type 0 where
  pub holder : Data
  pub member : get name value ≡ Some holder
  pub tn : get (codes "tn") holder ≡ Some (string number)
  pub ok : is_number number ≡ true

-- the member `dest` is an object whose `tn` is an array of these numbers
pub record HasNumbers (value : Data) (numbers : List (List ℕ)) : Type 0 where
  pub holder : Data
  pub member : get (codes "dest") value ≡ Some holder
  pub tn : get (codes "tn") holder ≡ Some (array (texts numbers))
  pub ok : list_all is_number numbers ≡ true

-- ---- the same as functions

-- the text that a member is
abbrev pub text_in : List ℕ → Data → Option (List ℕ)
text_in name value = option_and_then as_str (get name value)

-- the member `tn` of a member
abbrev pub tn_in : List ℕ → Data → Option Data
tn_in name value = option_and_then (get (codes "tn")) (get name value)

-- the number that a value is as a text
abbrev pub number_of : Data → Option (List ℕ)
number_of value = option_and_then exact (as_str value)

abbrev pub number_in : List ℕ → Data → Option (List ℕ)
number_in name value = option_and_then number_of (tn_in name value)

abbrev pub items_length : Items → ℕ
items_length no_items = 0
items_length (item value others) = suc (items_length others)

-- the numbers that the items are, after those found so far
abbrev pub numbers_after : List (List ℕ) → Items → Option (List (List ℕ))
numbers_after found no_items = Some found
numbers_after found (item value others) =
    option_and_then (λ number. numbers_after (found ++ number ∷ []) others) (number_of value)

-- the numbers of an array, if it has some and at most so many
abbrev pub numbers_of : ℕ → Items → Option (List (List ℕ))
numbers_of most items =
    if nat_le 1 (items_length items) && nat_le (items_length items) most then numbers_after [] items else None

abbrev pub called_in : ℕ → Data → Option (List (List ℕ))
called_in most value = option_and_then (numbers_of most) (option_and_then as_array (tn_in (codes "dest") value))
