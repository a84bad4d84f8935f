-- The deterministic form of a JSON value (RFC 8225, section 9: no white space, members in lexicographic order).
use Rattle.std.specs.Prelude.{◌≡◌, ◌≤◌, ◌-◌, ℕ, List, Bool, true, false, ◌&&◌, not, nat_lt, ⊤}
use Rattle.std.specs.Ordering.{nat_cmp}
use Rattle.std.specs.declared.cmp.Ordering.TheVariants.{Less}
use Rattle.std.specs.Cmp.Lexicographic.{slice_cmp}
use Rattle.serde_json.specs.Data.{Data, null, boolean, number, string, array, object, Items, no_items, item, Members}
use Rattle.serde_json.specs.Data.{no_members, member, depth}
use Rattle.serde_json.specs.Find.{is_float}
use Rattle.serde_json.specs.Written.{compact_text, has_float}

-- the compact text of the value, whose objects have their members in the order in which they are written
abbrev pub Det : Data → List ℕ
Det value = compact_text value

-- the first name of these members, if there are any, comes after this one byte by byte
abbrev pub IsBefore : List ℕ → Members → Type 0
IsBefore name no_members = ⊤
IsBefore name (member next value rest) = slice_cmp nat_cmp name next ≡ Less

-- the members of each object are in byte order of their names, each name once
abbrev mutual
  pub IsInOrder : Data → Type 0
  IsInOrder null = ⊤
  IsInOrder (boolean b) = ⊤
  IsInOrder (number n) = ⊤
  IsInOrder (string s) = ⊤
  IsInOrder (array items) = AreItemsInOrder items
  IsInOrder (object members) = AreMembersInOrder members

  pub AreItemsInOrder : Items → Type 0
  AreItemsInOrder no_items = ⊤
  AreItemsInOrder (item value items) = IsInOrder value × AreItemsInOrder items

  pub AreMembersInOrder : Members → Type 0
  AreMembersInOrder no_members = ⊤
  AreMembersInOrder (member name value members) = IsBefore name members × (IsInOrder value × AreMembersInOrder members)

-- how deep arrays and objects may be nested in one another (this project's own limit, and that of the reader)
abbrev pub most_deep : ℕ
most_deep = 127

-- the value has one text: no floating-point number is in it, and it is not too deep to be read back
pub record IsWritable (value : Data) : Type 0 where
  pub no_float : has_float value ≡ false
  pub shallow : depth value ≤ most_deep

-- ---- the same as a test, which stops at the limit

abbrev mutual
  pub is_plain : ℕ → Data → Bool
  is_plain most null = true
  is_plain most (boolean b) = true
  is_plain most (number n) = not (is_float n)
  is_plain most (string s) = true
  is_plain most (array items) = nat_lt 0 most && are_plain_items (most - 1) items
  is_plain most (object members) = nat_lt 0 most && are_plain_members (most - 1) members

  pub are_plain_items : ℕ → Items → Bool
  are_plain_items most no_items = true
  are_plain_items most (item value items) = is_plain most value && are_plain_items most items

  pub are_plain_members : ℕ → Members → Bool
  are_plain_members most no_members = true
  are_plain_members most (member name value members) = is_plain most value && are_plain_members most members
