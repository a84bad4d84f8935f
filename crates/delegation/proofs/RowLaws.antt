-- The rows of the table's text say what a list covers.
use Rattle.std.proofs.Common.{ℕ, inl, inr, List, [], ◌∷◌}
use Rattle.tn_auth_list.specs.Grant.{TableOf}
use Rattle.tn_auth_list.specs.declared.entries.Entry.{Entry}
use Rattle.tn_auth_list.specs.declared.entries.Entry.TheVariants.{Code, Range, Single}
use Rattle.delegation.specs.Coverage.{Table, In, InByRows, Covers, CoversByRows}

in_rows : (text : List ℕ) (table : Table) (read : TableOf text table) (number : List ℕ) (entry : Entry) → In table number entry → InByRows read number entry
in_rows text table read number (Code code) h = let meant = (read.grants code).holds number in meant.0 h
in_rows text table read number (Range span) h = h
in_rows text table read number (Single own) h = h

rows_in : (text : List ℕ) (table : Table) (read : TableOf text table) (number : List ℕ) (entry : Entry) → InByRows read number entry → In table number entry
rows_in text table read number (Code code) h = let meant = (read.grants code).holds number in meant.1 h
rows_in text table read number (Range span) h = h
rows_in text table read number (Single own) h = h

pub by_rows : (entries : List Entry) (text : List ℕ) (table : Table) (read : TableOf text table) (number : List ℕ) → Covers entries table number
    → CoversByRows entries read number
by_rows [] text table read number h = h
by_rows (entry ∷ entries) text table read number (inl h) = inl (in_rows text table read number entry h)
by_rows (entry ∷ entries) text table read number (inr more) = inr (by_rows entries text table read number more)

pub from_rows : (entries : List Entry) (text : List ℕ) (table : Table) (read : TableOf text table) (number : List ℕ) → CoversByRows entries read number
    → Covers entries table number
from_rows [] text table read number h = h
from_rows (entry ∷ entries) text table read number (inl h) = inl (rows_in text table read number entry h)
from_rows (entry ∷ entries) text table read number (inr more) = inr (from_rows entries text table read number more)
