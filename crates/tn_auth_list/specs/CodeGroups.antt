-- What the rows of a code table give each code together, as it is kept while the table is read.
use Rattle.std.specs.Prelude.{◌≡◌, ℕ, ◌↔◌, ◌+◌, ◌⊎◌, Bool, true, false, ◌&&◌, ◌||◌, nat_lt, is_some, IsSome, unwrap_or}
use Rattle.std.specs.Prelude.{List, [], ◌∷◌, ◌++◌, Option, Some, if◌then◌else◌}
use Rattle.std.specs.Ordering.{nat_cmp}
use Rattle.std.specs.Cmp.Lexicographic.{slice_cmp}
use Rattle.std.specs.BTreeMap.{BTreeMap, get, btree_map_len, Updates}
use Rattle.tn_values.specs.NumberSet.{set_of, SetHolds}
use Rattle.tn_auth_list.specs.CodeTable.{is_all, is_within, code_count, given_count, Names, SaysAll, Grants}
use Rattle.tn_auth_list.specs.Grant.{GrantOf}
use Rattle.tn_auth_list.specs.GroupView.{GroupView}
use Rattle.tn_auth_list.specs.declared.table_rows.Gives.{Gives}
use Rattle.tn_auth_list.specs.declared.table_rows.Gives.TheVariants.{All, Range, Single}
use Rattle.tn_auth_list.specs.declared.table_rows.Row.{Row}
use Rattle.tn_auth_list.specs.declared.table_groups.Groups.{Groups}
use Rattle.tn_auth_list.specs.declared.table_groups.Held.{Held}

abbrev pub no_group : GroupView
no_group = record { all = false; spans = []; singles = [] }

-- what one row more gives
abbrev pub with_gives : GroupView → Gives → GroupView
with_gives group All = record group { all = true }
with_gives group (Range span) = record group { spans = group.spans ++ span ∷ [] }
with_gives group (Single number) = record group { singles = group.singles ++ number ∷ [] }

-- the number is among what the group gives
abbrev pub GroupHolds : GroupView → List ℕ → Type 0
GroupHolds group number = (group.all ≡ true) ⊎ SetHolds (set_of group.spans group.singles) number

-- the group is what the rows give the code, and there is one exactly if they name it
pub record IsGroupOf (rows : List Row) (code : List ℕ) (group : Option GroupView) : Type 0 where
  pub names : IsSome group ↔ Names rows code
  pub all : ((unwrap_or group no_group).all ≡ true) ↔ SaysAll rows code
  pub holds : (number : List ℕ) → GroupHolds (unwrap_or group no_group) number ↔ Grants rows code number

-- the rows were read, and this is what they give
pub record IsGroups (rows : List Row) (groups : Groups) : Type 0 where
  pub held : (code : List ℕ) → IsGroupOf rows code (get (slice_cmp nat_cmp) groups.by_code code)
  pub codes : btree_map_len groups.by_code ≡ code_count rows
  pub given : groups.given ≡ given_count rows
  pub within : is_within rows ≡ true

-- a row was added to what its code has, and the other codes have what they had
pub record PutsRow (old new : BTreeMap (List ℕ) GroupView) (row : Row) : Type 0 where
  pub groups : Updates (slice_cmp nat_cmp) old new row.code
      (Some (with_gives (unwrap_or (get (slice_cmp nat_cmp) old row.code) no_group) row.gives))
  pub count : btree_map_len new ≡ btree_map_len old + (if is_some (get (slice_cmp nat_cmp) old row.code) then 0 else 1)

-- with one row more the limits hold
abbrev pub has_room : Groups → Row → Bool
has_room groups row = (nat_lt (btree_map_len groups.by_code) 20000
    || is_some (get (slice_cmp nat_cmp) groups.by_code row.code)) && (nat_lt groups.given 200000 || is_all row.gives)

-- what is held grants what the rows of the group give
abbrev pub HeldFrom : Option GroupView → Option Held → Type 0
HeldFrom group held = (rows : List Row) (code : List ℕ) → IsGroupOf rows code group → GrantOf rows code held

-- each code has what its group gives, and no other code has anything
abbrev pub HeldByCode : BTreeMap (List ℕ) GroupView → BTreeMap (List ℕ) Held → Type 0
HeldByCode groups held = (code : List ℕ)
    → HeldFrom (get (slice_cmp nat_cmp) groups code) (get (slice_cmp nat_cmp) held code)
