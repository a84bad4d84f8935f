-- Which list lies within another, and the laws of it.
use Rattle.std.proofs.Common.{◌≡◌, ◌↔◌, ℕ, suc, true, false, Bool, ◌⊎◌, inl, inr, List, [], ◌∷◌, Contains, Option, Some, None, Result, Ok, Err, refl, sym, ap, ◌∙◌, subst, arith}
use Rattle.std.specs.Cmp.Derive.{both_true}
use Rattle.std.specs.List.{fold, list_any}
use Rattle.std.specs.Prelude.{IfOk}
use Rattle.lists.proofs.Bytes.{bytes_same, same_bytes}
use Rattle.std.proofs.lemmas.Bool.{and_parts, or_cases, or_left, or_right, or_parts}
use Rattle.tn_values.specs.Number.{is_number}
use Rattle.tn_values.specs.NumberSet.{SetView, SetHolds, IsWithin, Outside}
use Rattle.tn_auth_list.specs.CodeTable.{SomeOf}
use Rattle.tn_auth_list.specs.Grant.{GrantHolds, grant_in}
use Rattle.tn_auth_list.specs.declared.table_groups.Held.{Held}
use Rattle.tn_auth_list.specs.declared.table_groups.Held.TheVariants.{All, These}
use Rattle.tn_auth_list.specs.declared.entries.Entry.{Entry}
use Rattle.tn_auth_list.specs.declared.entries.Entry.TheVariants.{Code, Range, Single}
use Rattle.delegation.specs.Coverage.{Table, In, Owns, Covers, CoveredBy, NamesCode, ListWithin, Within}
use Rattle.delegation.specs.Gathered.{is_code, names_code, has_code_of, has_codes_of, is_all, stands_for_all, no_numbers, with_own, with_code}
use Rattle.delegation.proofs.SetLaws.{Grants, owns_found, owns_added, codes_found, codes_kept, codes_added}

-- ---- codes

code_is : (entry : Entry) (code : List ℕ) → is_code code entry ≡ true → entry ≡ Code code
code_is (Code own) code h = ap Code (bytes_same own code h)
code_is (Range span) code h = absurd cc
code_is (Single number) code h = absurd cc

is_the_code : (entry : Entry) (code : List ℕ) → entry ≡ Code code → is_code code entry ≡ true
is_the_code entry code h = ap (is_code code) h ∙ same_bytes code

names : (entries : List Entry) (code : List ℕ) → names_code entries code ≡ true → NamesCode entries code
names [] code h = absurd cc
names (entry ∷ entries) code h =
    elim (or_cases (is_code code entry) (names_code entries code) h)
    [ inl here ↦ inl (code_is entry code here) | inr more ↦ inr (names entries code more) ]

named : (entries : List Entry) (code : List ℕ) → NamesCode entries code → names_code entries code ≡ true
named [] code h = absurd h
named (entry ∷ entries) code (inl same) = or_left (is_code code entry) (names_code entries code) (is_the_code entry code same)
named (entry ∷ entries) code (inr more) = or_right (is_code code entry) (names_code entries code) (named entries code more)

pub codes_had : (parent child : List Entry) → has_codes_of parent child ≡ true → (code : List ℕ) → NamesCode child code → NamesCode parent code
codes_had parent [] h code p = absurd p
codes_had parent (entry ∷ child) h code (inl same) =
    let each = and_parts (has_code_of parent entry) (has_codes_of parent child) h in
    names parent code (sym (ap (has_code_of parent) same) ∙ each.0)
codes_had parent (entry ∷ child) h code (inr more) =
    let each = and_parts (has_code_of parent entry) (has_codes_of parent child) h in
    codes_had parent child each.1 code more

had_by : (parent : List Entry) (entry : Entry) → ((code : List ℕ) → entry ≡ Code code → NamesCode parent code) → has_code_of parent entry ≡ true
had_by parent (Code code) f = named parent code (f code refl)
had_by parent (Range span) f = refl
had_by parent (Single number) f = refl

has_codes : (parent child : List Entry) → ((code : List ℕ) → NamesCode child code → NamesCode parent code) → has_codes_of parent child ≡ true
has_codes parent [] f = refl
has_codes parent (entry ∷ child) f =
    both_true (had_by parent entry (λ code same. f code (inl same))) (has_codes parent child (λ code more. f code (inr more)))

-- ---- a code that stands for all

held_all : (held : Option Held) (number : List ℕ) → is_all held ≡ true → GrantHolds held number
held_all None number h = absurd cc
held_all (Some All) number h = tt
held_all (Some (These set)) number h = absurd cc

stands : (table : Table) (entry : Entry) (number : List ℕ) → stands_for_all table entry ≡ true → In table number entry
stands table (Code code) number h = held_all (grant_in table code) number h
stands table (Range span) number h = absurd cc
stands table (Single own) number h = absurd cc

all_covered : (table : Table) (entries : List Entry) (number : List ℕ) → list_any (stands_for_all table) entries ≡ true → Covers entries table number
all_covered table [] number h = absurd cc
all_covered table (entry ∷ entries) number h =
    elim (or_cases (stands_for_all table entry) (list_any (stands_for_all table) entries) h)
    [ inl here ↦ inl (stands table entry number here) | inr more ↦ inr (all_covered table entries number more) ]

-- ---- lists

pub without_code : (child parent : List Entry) (table : Table) → has_codes_of parent child ≡ false → ListWithin child parent table → ⊥
without_code child parent table h w = let had = has_codes parent child w.codes in absurd cc

pub within_all : (child parent : List Entry) (table : Table) → has_codes_of parent child ≡ true → list_any (stands_for_all table) parent ≡ true
    → ListWithin child parent table
within_all child parent table had all = record { codes = codes_had parent child had; numbers = λ number is owned. all_covered table parent number all }

empty : (number : List ℕ) → SetHolds no_numbers number → ⊥
empty number (inl (k, x, inside, is, p)) = omega (arith, inside)
empty number (inr (k, inside, is)) = omega (arith, inside)

-- the numbers that the entries hold themselves
pub own_held : (entries : List Entry) (number : List ℕ) → SetHolds (fold with_own no_numbers entries) number → SomeOf (Owns number) entries
own_held entries number h = elim (owns_found entries no_numbers number h) [ inl nothing ↦ absurd (empty number nothing) | inr owned ↦ owned ]

pub held_own : (entries : List Entry) (number : List ℕ) → SomeOf (Owns number) entries → SetHolds (fold with_own no_numbers entries) number
held_own entries number owned = owns_added entries no_numbers number owned

-- ---- what a list covers, by itself or by a code that it names

own_is_in : (table : Table) (number : List ℕ) (entry : Entry) → Owns number entry → In table number entry
own_is_in table number (Code code) h = absurd h
own_is_in table number (Range span) h = h
own_is_in table number (Single own) h = h

owned_covers : (entries : List Entry) (table : Table) (number : List ℕ) → SomeOf (Owns number) entries → Covers entries table number
owned_covers [] table number h = h
owned_covers (entry ∷ entries) table number (inl o) = inl (own_is_in table number entry o)
owned_covers (entry ∷ entries) table number (inr more) = inr (owned_covers entries table number more)

covers_by : (parent : List Entry) (table : Table) (number code : List ℕ) → NamesCode parent code → GrantHolds (grant_in table code) number → Covers parent table number
covers_by [] table number code h g = absurd h
covers_by (entry ∷ entries) table number code (inl same) g = inl (subst (In table number) (sym same) g)
covers_by (entry ∷ entries) table number code (inr more) g = inr (covers_by entries table number code more g)

-- a code by which a list covers a number
record ByCode (entries : List Entry) (table : Table) (number : List ℕ) : Type 0 where
  code : List ℕ
  named : NamesCode entries code
  some : is_all (grant_in table code) ≡ false
  granted : GrantHolds (grant_in table code) number

by_entry : (entry : Entry) (entries : List Entry) (table : Table) (number : List ℕ) → stands_for_all table entry ≡ false → In table number entry
    → SomeOf (Owns number) (entry ∷ entries) ⊎ ByCode (entry ∷ entries) table number
by_entry (Code code) entries table number some h = inr (record { code = code; named = inl refl; some = some; granted = h })
by_entry (Range span) entries table number some h = inl (inl h)
by_entry (Single own) entries table number some h = inl (inl h)

own_or_code : (entries : List Entry) (table : Table) (number : List ℕ) → list_any (stands_for_all table) entries ≡ false → Covers entries table number
    → SomeOf (Owns number) entries ⊎ ByCode entries table number
own_or_code [] table number some h = absurd h
own_or_code (entry ∷ entries) table number some (inl here) =
    by_entry entry entries table number (or_parts (stands_for_all table entry) (list_any (stands_for_all table) entries) some).0 here
own_or_code (entry ∷ entries) table number some (inr more) =
    elim (own_or_code entries table number (or_parts (stands_for_all table entry) (list_any (stands_for_all table) entries) some).1 more) [
      | inl owned ↦ inl (inr owned)
      | inr code ↦ inr (record { code = code.code; named = inr code.named; some = code.some; granted = code.granted })
    ]

granted_cover : (entries : List Entry) (table : Table) (codes : List (List ℕ)) (number : List ℕ)
    → ((code : List ℕ) → Contains codes code → NamesCode entries code) → SomeOf (Grants table number) codes → Covers entries table number
granted_cover entries table [] number named h = absurd h
granted_cover entries table (code ∷ codes) number named (inl granted) = covers_by entries table number code (named code (0, omega arith, refl)) granted
granted_cover entries table (code ∷ codes) number named (inr more) =
    granted_cover entries table codes number (λ other c. named other (suc c.0, omega (arith, c.1), c.2)) more

-- what the entries hold themselves, with the numbers of their codes, is what they cover
pub gathered_covers : (entries : List Entry) (table : Table) (codes : List (List ℕ)) (number : List ℕ)
    → ((code : List ℕ) → Contains codes code → NamesCode entries code)
    → SetHolds (fold (with_code table) (fold with_own no_numbers entries) codes) number → Covers entries table number
gathered_covers entries table codes number named h =
    elim (codes_found table codes (fold with_own no_numbers entries) number h)
    [ inl own ↦ owned_covers entries table number (own_held entries number own) | inr granted ↦ granted_cover entries table codes number named granted ]

pub covers_gathered : (entries : List Entry) (table : Table) (codes : List (List ℕ)) (number : List ℕ)
    → list_any (stands_for_all table) entries ≡ false → ((code : List ℕ) → NamesCode entries code → Contains codes code)
    → Covers entries table number → SetHolds (fold (with_code table) (fold with_own no_numbers entries) codes) number
covers_gathered entries table codes number some listed h =
    elim (own_or_code entries table number some h) [
      | inl owned ↦ codes_kept table codes (fold with_own no_numbers entries) number (held_own entries number owned)
      | inr by ↦ codes_added table codes (fold with_own no_numbers entries) number by.code by.some by.granted (listed by.code by.named)
    ]

-- ---- the sets that are built

pub own_set : {E : Type 0} (r : Result SetView E) (gathered : SetView) (entries : List Entry) → gathered ≡ fold with_own no_numbers entries
    → IfOk r (λ set. (number : List ℕ) → SetHolds set number ↔ SetHolds gathered number)
    → IfOk r (λ set. (number : List ℕ) → SetHolds set number ↔ SomeOf (Owns number) entries)
own_set (Err e) gathered entries is h = tt
own_set (Ok set) gathered entries is h = λ number.
    let same = subst (λ (g : SetView). SetHolds set number ↔ SetHolds g number) is (h number) in
    (λ held. own_held entries number (same.0 held), λ owned. same.1 (held_own entries number owned))

pub covered_set : {E : Type 0} (r : Result SetView E) (gathered own : SetView) (codes : List (List ℕ)) (entries : List Entry) (table : Table)
    → own ≡ fold with_own no_numbers entries → gathered ≡ fold (with_code table) own codes
    → ((code : List ℕ) → Contains codes code ↔ NamesCode entries code)
    → IfOk r (λ set. (number : List ℕ) → SetHolds set number ↔ SetHolds gathered number)
    → IfOk r (λ set. list_any (stands_for_all table) entries ≡ false → (number : List ℕ) → SetHolds set number ↔ Covers entries table number)
covered_set (Err e) gathered own codes entries table is all named h = tt
covered_set (Ok set) gathered own codes entries table is all named h = λ some number.
    let whole : gathered ≡ fold (with_code table) (fold with_own no_numbers entries) codes
    = all ∙ ap (λ (g : SetView). fold (with_code table) g codes) is in
    let same = subst (λ (g : SetView). SetHolds set number ↔ SetHolds g number) whole (h number) in (
      λ held. gathered_covers entries table codes number (λ code c. (named code).0 c) (same.0 held),
      λ covered. same.1 (covers_gathered entries table codes number some (λ code n. (named code).1 n) covered),
    )

-- ---- laws

-- what an entry holds it holds itself, or by its code
held_here : (entry : Entry) (parent : List Entry) (table : Table) (number : List ℕ) → ((code : List ℕ) → entry ≡ Code code → NamesCode parent code)
    → (Owns number entry → Covers parent table number) → In table number entry → Covers parent table number
held_here (Code code) parent table number codes owned h = covers_by parent table number code (codes code refl) h
held_here (Range span) parent table number codes owned h = owned h
held_here (Single own) parent table number codes owned h = owned h

by_own_or_code : (entries parent : List Entry) (table : Table) (number : List ℕ) → ((code : List ℕ) → NamesCode entries code → NamesCode parent code)
    → (SomeOf (Owns number) entries → Covers parent table number) → Covers entries table number → Covers parent table number
by_own_or_code [] parent table number codes owned h = absurd h
by_own_or_code (entry ∷ entries) parent table number codes owned (inl h) =
    held_here entry parent table number (λ code same. codes code (inl same)) (λ o. owned (inl o)) h
by_own_or_code (entry ∷ entries) parent table number codes owned (inr more) =
    by_own_or_code entries parent table number (λ code named. codes code (inr named)) (λ o. owned (inr o)) more

list_kept : (child parent : List Entry) (table : Table) → ListWithin child parent table → (number : List ℕ) → is_number number ≡ true
    → Covers child table number → Covers parent table number
list_kept child parent table w number is h = by_own_or_code child parent table number w.codes (w.numbers number is) h

pub kept : (child parent : Option (List Entry)) (table : Table) → Within child parent table → (number : List ℕ) → is_number number ≡ true
    → CoveredBy child table number → CoveredBy parent table number
kept child None table w number is h = tt
kept None (Some parent) table w number is h = absurd w
kept (Some child) (Some parent) table w number is h = list_kept child parent table w number is h

pub itself : (child : Option (List Entry)) (table : Table) → Within child child table
itself None table = tt
itself (Some entries) table = record { codes = λ code named. named; numbers = λ number is owned. owned_covers entries table number owned }

pub chained : (child parent above : Option (List Entry)) (table : Table) → Within child parent table → Within parent above table → Within child above table
chained child parent None table a b = tt
chained None None (Some above) table a b = b
chained None (Some parent) (Some above) table a b = absurd a
chained (Some child) None (Some above) table a b = absurd b
chained (Some child) (Some parent) (Some above) table a b = record {
  codes = λ code named. b.codes code (a.codes code named);
  numbers = λ number is owned. list_kept parent above table b number is (a.numbers number is owned);
}

-- ---- what the tests and sets decide

pub decided : (child parent : List Entry) (table : Table) (own covered : SetView) (answer : Bool) → has_codes_of parent child ≡ true
    → ((number : List ℕ) → SetHolds own number ↔ SomeOf (Owns number) child)
    → ((number : List ℕ) → SetHolds covered number ↔ Covers parent table number)
    → (answer ≡ true → IsWithin own covered) → (answer ≡ false → Outside own covered)
    → (answer ≡ true → ListWithin child parent table) × (ListWithin child parent table → answer ≡ true)
decided child parent table own covered true codes owns covers all outside = (
  λ _. record {
    codes = codes_had parent child codes;
    numbers = λ number is owned. (covers number).0 (all refl number ((owns number).1 owned));
  },
  λ _. refl,
)
decided child parent table own covered false codes owns covers all outside =
    let o = outside refl in
    (λ h. absurd cc, λ w. absurd (o.not_held ((covers o.number).1 (w.numbers o.number o.is ((owns o.number).0 o.held)))))
