-- Which file is listed for which x5u.
use Rattle.std.specs.Prelude.{ℕ, List, map, Vec}
use Rattle.std.specs.Vec.{vec_items}
use Rattle.std.specs.declared.string.String.{String}
use Rattle.std.specs.String.{string_bytes}

-- each x5u and its file, in no order that a contract names
abbrev pub Files : Type 0
Files = List (List ℕ × List ℕ)

-- the same of a hash map's entries
abbrev pub files_in : {Y Z : Type 0} → List (Vec ℕ Y × String Z) → Files
files_in entries = map (λ entry. (vec_items entry.0, string_bytes entry.1)) entries
