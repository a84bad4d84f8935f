-- How `within` decides: by the codes of both lists, and by the sets of their numbers.
use Rattle.std.specs.Prelude.{ℕ, Bool, true, false, List, [], ◌∷◌, ◌++◌, Option, Some, None}
use Rattle.std.specs.List.{list_all, list_any}
use Rattle.std.specs.Str.{bytes_eq}
use Rattle.tn_values.specs.NumberSet.{SetView, set_of}
use Rattle.tn_auth_list.specs.declared.table_groups.Held.{Held}
use Rattle.tn_auth_list.specs.declared.table_groups.Held.TheVariants.{All, These}
use Rattle.tn_auth_list.specs.declared.entries.Entry.{Entry}
use Rattle.tn_auth_list.specs.declared.entries.Entry.TheVariants.{Code, Range, Single}
use Rattle.tn_auth_list.specs.Grant.{grant_in}
use Rattle.delegation.specs.Coverage.{Table}

-- ---- codes

abbrev pub is_code : List ℕ → Entry → Bool
is_code code (Code own) = bytes_eq own code
is_code code (Range span) = false
is_code code (Single number) = false

abbrev pub names_code : List Entry → List ℕ → Bool
names_code entries code = list_any (is_code code) entries

-- a code has to be named
abbrev pub has_code_of : List Entry → Entry → Bool
has_code_of entries (Code code) = names_code entries code
has_code_of entries (Range span) = true
has_code_of entries (Single number) = true

abbrev pub has_codes_of : List Entry → List Entry → Bool
has_codes_of parent child = list_all (has_code_of parent) child

-- ---- what covers every number

abbrev pub is_all : Option Held → Bool
is_all None = false
is_all (Some All) = true
is_all (Some (These set)) = false

abbrev pub stands_for_all : Table → Entry → Bool
stands_for_all table (Code code) = is_all (grant_in table code)
stands_for_all table (Range span) = false
stands_for_all table (Single number) = false

-- ---- sets

abbrev pub no_numbers : SetView
no_numbers = set_of [] []

-- and the numbers that the entry itself holds
abbrev pub with_own : SetView → Entry → SetView
with_own set (Code code) = set
with_own set (Range span) = set_of (set.spans ++ span ∷ []) set.singles
with_own set (Single number) = set_of set.spans (set.singles ++ number ∷ [])

-- and the numbers of another set
abbrev pub with_set : SetView → SetView → SetView
with_set set more = set_of (set.spans ++ more.spans) (set.singles ++ more.singles)

-- and the numbers of a code, unless it has all
abbrev pub with_held : SetView → Option Held → SetView
with_held set None = set
with_held set (Some All) = set
with_held set (Some (These more)) = with_set set more

abbrev pub with_code : Table → SetView → List ℕ → SetView
with_code table set code = with_held set (grant_in table code)

-- the code that an entry is
abbrev pub code_in : Entry → Option (List ℕ)
code_in (Code code) = Some code
code_in (Range span) = None
code_in (Single number) = None
