-- What a code table that was read grants a code.
use Rattle.std.specs.Prelude.{◌≡◌, ℕ, ◌↔◌, List, Option, Some, None, IsSome, Ok}
use Rattle.std.specs.Map.{lookup}
use Rattle.std.specs.Str.{bytes_eq}
use Rattle.lists.specs.Given.{IsFaultOf}
use Rattle.tn_values.specs.NumberSet.{SetHolds}
use Rattle.tn_auth_list.specs.CodeTable.{table_rows, Names, SaysAll, Grants}
use Rattle.tn_auth_list.specs.declared.table_rows.Row.{Row}
use Rattle.tn_auth_list.specs.declared.table_groups.Held.{Held}
use Rattle.tn_auth_list.specs.declared.table_groups.Held.TheVariants.{All, These}
use Rattle.tn_auth_list.specs.declared.table.Grant.{Grant}
use Rattle.tn_auth_list.specs.declared.table.Grant.TheVariants.{Nothing, All as GrantsAll, These as GrantsThese}
use Rattle.tn_auth_list.specs.declared.table.TableFault.{TableFault}
use Rattle.tn_auth_list.specs.declared.table.TableFault.TheVariants.{Line, Memory}

-- what the table holds for a code that it names
abbrev pub grant_in : List (List ℕ × Held) → List ℕ → Option Held
grant_in table code = lookup (bytes_eq code) table

-- the numbers of a grant: all, those of a set, or none
abbrev pub GrantHolds : Option Held → List ℕ → Type 0
GrantHolds None number = ⊥
GrantHolds (Some All) number = Unit {0}
GrantHolds (Some (These set)) number = SetHolds set number

-- the grant is what the rows give the code
pub record GrantOf (rows : List Row) (code : List ℕ) (grant : Option Held) : Type 0 where
  pub names : IsSome grant ↔ Names rows code
  pub all : (grant ≡ Some All) ↔ SaysAll rows code
  pub holds : (number : List ℕ) → GrantHolds grant number ↔ Grants rows code number

-- the text is a table, and this is what it grants
pub record TableOf (text : List ℕ) (table : List (List ℕ × Held)) : Type 0 where
  pub rows : List Row
  pub read : table_rows text ≡ Ok rows
  pub grants : (code : List ℕ) → GrantOf rows code (grant_in table code)

-- the line of a fault other than `Memory`
abbrev pub line_of : TableFault → Option ℕ
line_of (Line number) = Some number
line_of Memory = None

-- the fault names the first bad line
abbrev pub FaultOf : List ℕ → TableFault → Type 0
FaultOf text fault = IsFaultOf (line_of fault) (table_rows text)

abbrev pub grant_view : Grant → Option Held
grant_view Nothing = None
grant_view GrantsAll = Some All
grant_view (GrantsThese set) = Some (These set.now)
