-- Whether one authority lies within another, as a test: `Within`, but what it says of every number is tested at each of
-- the list of all numbers. Nothing computes it.
use Rattle.std.specs.Prelude.{ℕ, Bool, true, false, ◌&&◌, List, [], ◌∷◌, Option, Some, None, if◌then◌else◌}
use Rattle.std.specs.List.{list_all, list_any}
use Rattle.std.specs.Str.{bytes_eq}
use Rattle.tn_values.specs.Every.{every_number}
use Rattle.tn_values.specs.Place.{set_has, spans_have}
use Rattle.tn_auth_list.specs.declared.table_groups.Held.{Held}
use Rattle.tn_auth_list.specs.declared.table_groups.Held.TheVariants.{All, These}
use Rattle.tn_auth_list.specs.declared.entries.Entry.{Entry}
use Rattle.tn_auth_list.specs.declared.entries.Entry.TheVariants.{Code, Range, Single}
use Rattle.tn_auth_list.specs.Grant.{grant_in}
use Rattle.delegation.specs.Coverage.{Table}
use Rattle.delegation.specs.Gathered.{has_codes_of}

-- ---- one number

-- the entry holds the number itself, as a single or by a range
abbrev pub is_owned : List ℕ → Entry → Bool
is_owned number (Code code) = false
is_owned number (Range span) = spans_have (span ∷ []) number
is_owned number (Single own) = bytes_eq own number

-- the number is among those of a grant: all, those of a set, or none
abbrev pub is_granted : Option Held → List ℕ → Bool
is_granted None number = false
is_granted (Some All) number = true
is_granted (Some (These set)) number = set_has set number

-- the entry holds the number: it is this number, or a range of it, or a code for which the table has it
abbrev pub is_in : Table → List ℕ → Entry → Bool
is_in table number (Code code) = is_granted (grant_in table code) number
is_in table number (Range span) = is_owned number (Range span)
is_in table number (Single own) = is_owned number (Single own)

-- some entry holds the number itself
abbrev pub owns_number : List Entry → List ℕ → Bool
owns_number entries number = list_any (is_owned number) entries

-- some entry holds the number
abbrev pub covers_number : List Entry → Table → List ℕ → Bool
covers_number entries table number = list_any (is_in table number) entries

-- the parent covers the number, if a single or a range of the child holds it
abbrev pub keeps_number : List Entry → List Entry → Table → List ℕ → Bool
keeps_number child parent table number = if owns_number child number then covers_number parent table number else true

-- ---- every number

-- each code of the child is one of the parent, and the parent covers every number that a single or a range of the child
-- holds
unfoldable pub is_list_within : List Entry → List Entry → Table → Bool
is_list_within child parent table = has_codes_of parent child && list_all (keeps_number child parent table) every_number

-- everything lies within all numbers, and all numbers within no list
abbrev pub is_within : Option (List Entry) → Option (List Entry) → Table → Bool
is_within child None table = true
is_within None (Some parent) table = false
is_within (Some child) (Some parent) table = is_list_within child parent table
