-- Which telephone numbers an authority covers (RFC 8226, section 9), and which authority lies within another (RFC
-- 9060). What a code stands for, and that a code lies within an authority only if this names the code, is this
-- project's own rule.
use Rattle.std.specs.Prelude.{◌≡◌, ℕ, true, List, Option, Some, None}
use Rattle.tn_values.specs.Number.{is_number}
use Rattle.tn_values.specs.Span.{SpanHolds}
use Rattle.tn_auth_list.specs.declared.table_groups.Held.{Held}
use Rattle.tn_auth_list.specs.declared.entries.Entry.{Entry}
use Rattle.tn_auth_list.specs.declared.entries.Entry.TheVariants.{Code, Range, Single}
use Rattle.tn_auth_list.specs.CodeTable.{SomeOf, Grants}
use Rattle.tn_auth_list.specs.Grant.{TableOf, GrantHolds, grant_in}
use Rattle.delegation.specs.declared.authority.Authority.{Authority}
use Rattle.delegation.specs.declared.authority.Authority.TheVariants.{All, List as Listed}

-- a code table, as what each code holds
abbrev pub Table : Type 0
Table = List (List ℕ × Held)

-- ---- coverage

-- the entry holds the number: it is this number, or a range of it, or a code for which the table has it
abbrev pub In : Table → List ℕ → Entry → Type 0
In table number (Code code) = GrantHolds (grant_in table code) number
In table number (Range span) = SpanHolds span number
In table number (Single own) = own ≡ number

-- some entry holds the number
abbrev pub Covers : List Entry → Table → List ℕ → Type 0
Covers entries table number = SomeOf (In table number) entries

-- the same by the rows of the table's text: some row gives the code this number
abbrev pub InByRows : {text : List ℕ} {table : Table} → TableOf text table → List ℕ → Entry → Type 0
InByRows read number (Code code) = Grants read.rows code number
InByRows read number (Range span) = SpanHolds span number
InByRows read number (Single own) = own ≡ number

abbrev pub CoversByRows : {text : List ℕ} {table : Table} → List Entry → TableOf text table → List ℕ → Type 0
CoversByRows entries read number = SomeOf (InByRows read number) entries

-- ---- one authority within another

-- the entry holds the number itself, as a single or by a range
abbrev pub Owns : List ℕ → Entry → Type 0
Owns number (Code code) = ⊥
Owns number (Range span) = SpanHolds span number
Owns number (Single own) = own ≡ number

-- some entry names the code
abbrev pub NamesCode : List Entry → List ℕ → Type 0
NamesCode entries code = SomeOf (λ entry. entry ≡ Code code) entries

-- each code of the child is one of the parent, and every number that a single or a range of the child holds is covered
-- by the parent
pub record ListWithin (child parent : List Entry) (table : Table) : Type 0 where
  pub codes : (code : List ℕ) → NamesCode child code → NamesCode parent code
  pub numbers : (number : List ℕ) → is_number number ≡ true → SomeOf (Owns number) child → Covers parent table number

-- the entries of an authority's list, or none for all numbers
abbrev pub entries_of : Authority → Option (List Entry)
entries_of All = None
entries_of (Listed list) = Some list.now

-- everything lies within all numbers, and all numbers within no list
abbrev pub Within : Option (List Entry) → Option (List Entry) → Table → Type 0
Within child None table = Unit {0}
Within None (Some parent) table = ⊥
Within (Some child) (Some parent) table = ListWithin child parent table

-- every number is one of all numbers
abbrev pub CoveredBy : Option (List Entry) → Table → List ℕ → Type 0
CoveredBy None table number = Unit {0}
CoveredBy (Some entries) table number = Covers entries table number
