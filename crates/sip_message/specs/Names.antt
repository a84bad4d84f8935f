-- The names of the header fields that have a meaning here, compared without case (RFC 3261, sections 7.3.1 and 7.3.3;
-- RFC 8224, section 4; RFC 3325, section 9.1).
use Rattle.std.specs.Prelude.{ℕ, Bool, ◌||◌, List, codes}
use Rattle.std.specs.Str.{str_eq_ignore_ascii_case}

-- the name or its short form
abbrev pub is_either : List ℕ → List ℕ → List ℕ → Bool
is_either name long short = str_eq_ignore_ascii_case name long || str_eq_ignore_ascii_case name short

abbrev pub is_from : List ℕ → Bool
is_from name = is_either name (codes "from") (codes "f")

abbrev pub is_to : List ℕ → Bool
is_to name = is_either name (codes "to") (codes "t")

abbrev pub is_identity : List ℕ → Bool
is_identity name = is_either name (codes "identity") (codes "y")

-- Date, which has no short form (RFC 3261, section 20.17)
abbrev pub is_date : List ℕ → Bool
is_date name = str_eq_ignore_ascii_case name (codes "date")

-- P-Asserted-Identity, which has no short form
abbrev pub is_asserted : List ℕ → Bool
is_asserted name = str_eq_ignore_ascii_case name (codes "p-asserted-identity")
