-- The entries of an authority list: `TNEntry` of RFC 8226, section 9, of which there is one at least. That there are at
-- most 1,000, and no range of a single number, is this project's own rule.
use Rattle.std.specs.Prelude.{◌^◌, Bool, false, not, ◌&&◌, ◌==◌, nat_le, nat_lt, List, length, Option, Some, None}
use Rattle.std.specs.Prelude.{if◌then◌else◌}
use Rattle.std.specs.List.{list_all}
use Rattle.tn_values.specs.Digit.{are_digits}
use Rattle.tn_values.specs.Number.{is_number}
use Rattle.tn_auth_list.specs.declared.entries.Entry.{Entry}
use Rattle.tn_auth_list.specs.declared.entries.Entry.TheVariants.{Code, Range, Single}
use Rattle.tn_auth_list.specs.Code.{is_code}

-- what an entry of a list is: a code, a range of two numbers at least, or a number
abbrev pub is_entry : Entry → Bool
is_entry (Code text) = is_code text
is_entry (Range span) = is_number span.start && are_digits span.start && nat_le 2 span.size && nat_lt span.size (2 ^ 64)
is_entry (Single number) = is_number number

-- what the type of an entry makes sure of: a range may be of a single number
abbrev pub is_typed : Entry → Bool
is_typed (Code text) = is_code text
is_typed (Range span) = is_number span.start && are_digits span.start && nat_le 1 span.size && nat_lt span.size (2 ^ 64)
is_typed (Single number) = is_number number

-- a range of a single number, which isn't an entry of any list
abbrev pub is_range_of_one : Entry → Bool
is_range_of_one (Code text) = false
is_range_of_one (Range span) = span.size == 1
is_range_of_one (Single number) = false

-- 1 to 1,000 entries, none of them a range of a single number
unfoldable pub is_list : List Entry → Bool
is_list entries =
    nat_le 1 (length entries) && nat_le (length entries) 1000 && list_all (λ entry. not (is_range_of_one entry)) entries

-- the list of these entries, if there is one
abbrev pub list_of : List Entry → Option (List Entry)
list_of entries = if is_list entries then Some entries else None
