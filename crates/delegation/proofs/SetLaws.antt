-- The gathered sets hold what the entries hold.
use Rattle.std.proofs.Common.{◌≡◌, ℕ, zero, suc, ◌<◌, false, ◌⊎◌, inl, inr, ◌+◌, List, [], ◌∷◌, ◌++◌, length, take, Option, Some, None, Contains, arith, ap, sym, ◌∙◌, subst}
use Rattle.std.proofs.lemmas.List.{take_more}
use Rattle.std.proofs.lemmas.List.Elements.{filter_map-append, Contains-append_left, Contains-append_right, Contains-append_cases, Contains-push, Contains-push_cases}
use Rattle.std.proofs.lemmas.List.Quantifiers.{Any-push}
use Rattle.std.specs.List.{cons_option, filter_map, fold, slice_index_or}
use Rattle.tn_values.specs.Span.{SpanView, SpanHolds}
use Rattle.tn_values.specs.NumberSet.{SetView, SetHolds}
use Rattle.tn_auth_list.specs.CodeTable.{SomeOf}
use Rattle.tn_auth_list.specs.Grant.{GrantHolds, grant_in}
use Rattle.tn_auth_list.specs.declared.table_groups.Held.{Held}
use Rattle.tn_auth_list.specs.declared.table_groups.Held.TheVariants.{All, These}
use Rattle.tn_auth_list.specs.declared.entries.Entry.{Entry}
use Rattle.tn_auth_list.specs.declared.entries.Entry.TheVariants.{Code, Range, Single}
use Rattle.delegation.specs.Coverage.{Table, NamesCode, Owns}
use Rattle.delegation.specs.Gathered.{code_in, is_all, with_code, with_held, with_own, with_set}
use Rattle.delegation.proofs.Lists.{any_left, any_right, any_cases, any_push_cases}

abbrev Holds : List ℕ → SpanView → Type 0
Holds number span = SpanHolds span number

-- ---- one entry's own numbers

own_cases : (set : SetView) (number : List ℕ) (entry : Entry) → SetHolds (with_own set entry) number → SetHolds set number ⊎ Owns number entry
own_cases set number (Code code) h = inl h
own_cases set number (Range span) (inl s) =
    elim (any_push_cases (Holds number) set.spans span s) [ inl a ↦ inl (inl a) | inr p ↦ inr p ]
own_cases set number (Range span) (inr c) = inl (inr c)
own_cases set number (Single own) (inl s) = inl (inl s)
own_cases set number (Single own) (inr c) =
    elim (Contains-push_cases set.singles own number c) [ inl d ↦ inl (inr d) | inr same ↦ inr same ]

own_kept : (set : SetView) (number : List ℕ) (entry : Entry) → SetHolds set number → SetHolds (with_own set entry) number
own_kept set number (Code code) h = h
own_kept set number (Range span) (inl s) = inl (any_left (Holds number) set.spans (span ∷ []) s)
own_kept set number (Range span) (inr c) = inr c
own_kept set number (Single own) (inl s) = inl s
own_kept set number (Single own) (inr c) = inr (Contains-append_left set.singles (own ∷ []) number c)

own_added : (set : SetView) (number : List ℕ) (entry : Entry) → Owns number entry → SetHolds (with_own set entry) number
own_added set number (Code code) h = absurd h
own_added set number (Range span) h = inl (Any-push (Holds number) set.spans span h)
own_added set number (Single own) h =
    let P : List ℕ → Type 0 = λ x. Contains (set.singles ++ x ∷ []) number in
    inr (subst P (sym h) (Contains-push set.singles number))

-- ---- all entries' own numbers

pub owns_found : (entries : List Entry) (set : SetView) (number : List ℕ) → SetHolds (fold with_own set entries) number
    → SetHolds set number ⊎ SomeOf (Owns number) entries
owns_found [] set number h = inl h
owns_found (entry ∷ entries) set number h =
    elim (owns_found entries (with_own set entry) number h) [
      | inl s ↦ elim (own_cases set number entry s) [ inl a ↦ inl a | inr o ↦ inr (inl o) ]
      | inr more ↦ inr (inr more)
    ]

owns_kept : (entries : List Entry) (set : SetView) (number : List ℕ) → SetHolds set number → SetHolds (fold with_own set entries) number
owns_kept [] set number h = h
owns_kept (entry ∷ entries) set number h = owns_kept entries (with_own set entry) number (own_kept set number entry h)

pub owns_added : (entries : List Entry) (set : SetView) (number : List ℕ) → SomeOf (Owns number) entries → SetHolds (fold with_own set entries) number
owns_added [] set number h = absurd h
owns_added (entry ∷ entries) set number (inl o) = owns_kept entries (with_own set entry) number (own_added set number entry o)
owns_added (entry ∷ entries) set number (inr more) = owns_added entries (with_own set entry) number more

-- ---- the numbers of one code

set_cases : (set more : SetView) (number : List ℕ) → SetHolds (with_set set more) number → SetHolds set number ⊎ SetHolds more number
set_cases set more number (inl s) =
    elim (any_cases (Holds number) set.spans more.spans s) [ inl a ↦ inl (inl a) | inr b ↦ inr (inl b) ]
set_cases set more number (inr c) =
    elim (Contains-append_cases set.singles more.singles number c) [ inl a ↦ inl (inr a) | inr b ↦ inr (inr b) ]

set_kept : (set more : SetView) (number : List ℕ) → SetHolds set number → SetHolds (with_set set more) number
set_kept set more number (inl s) = inl (any_left (Holds number) set.spans more.spans s)
set_kept set more number (inr c) = inr (Contains-append_left set.singles more.singles number c)

set_added : (set more : SetView) (number : List ℕ) → SetHolds more number → SetHolds (with_set set more) number
set_added set more number (inl s) = inl (any_right (Holds number) set.spans more.spans s)
set_added set more number (inr c) = inr (Contains-append_right set.singles more.singles number c)

held_cases : (set : SetView) (held : Option Held) (number : List ℕ) → SetHolds (with_held set held) number → SetHolds set number ⊎ GrantHolds held number
held_cases set None number h = inl h
held_cases set (Some All) number h = inl h
held_cases set (Some (These more)) number h = set_cases set more number h

held_kept : (set : SetView) (held : Option Held) (number : List ℕ) → SetHolds set number → SetHolds (with_held set held) number
held_kept set None number h = h
held_kept set (Some All) number h = h
held_kept set (Some (These more)) number h = set_kept set more number h

held_added : (set : SetView) (held : Option Held) (number : List ℕ) → is_all held ≡ false → GrantHolds held number → SetHolds (with_held set held) number
held_added set None number some h = absurd h
held_added set (Some All) number some h = absurd cc
held_added set (Some (These more)) number some h = set_added set more number h

-- ---- the numbers of codes

-- the table has the number for the code
abbrev pub Grants : Table → List ℕ → List ℕ → Type 0
Grants table number code = GrantHolds (grant_in table code) number

pub codes_found : (table : Table) (codes : List (List ℕ)) (set : SetView) (number : List ℕ) → SetHolds (fold (with_code table) set codes) number
    → SetHolds set number ⊎ SomeOf (Grants table number) codes
codes_found table [] set number h = inl h
codes_found table (code ∷ codes) set number h =
    elim (codes_found table codes (with_code table set code) number h) [
      | inl s ↦ elim (held_cases set (grant_in table code) number s) [ inl a ↦ inl a | inr o ↦ inr (inl o) ]
      | inr more ↦ inr (inr more)
    ]

pub codes_kept : (table : Table) (codes : List (List ℕ)) (set : SetView) (number : List ℕ) → SetHolds set number
    → SetHolds (fold (with_code table) set codes) number
codes_kept table [] set number h = h
codes_kept table (code ∷ codes) set number h =
    codes_kept table codes (with_code table set code) number (held_kept set (grant_in table code) number h)

pub codes_added : (table : Table) (codes : List (List ℕ)) (set : SetView) (number code : List ℕ) → is_all (grant_in table code) ≡ false
    → Grants table number code → Contains codes code → SetHolds (fold (with_code table) set codes) number
codes_added table [] set number code some h (k, inside, at) = absurd (omega (arith, inside))
codes_added table (first ∷ codes) set number code some h (zero, inside, at) =
    let same : grant_in table code ≡ grant_in table first = ap (grant_in table) (sym at) in
    codes_kept table codes (with_code table set first) number
    (subst (λ (held : Option Held). SetHolds (with_held set held) number) same (held_added set (grant_in table code) number some h))
codes_added table (first ∷ codes) set number code some h (suc k, inside, at) =
    codes_added table codes (with_code table set first) number code some h (k, omega (arith, inside), at)

-- ---- codes that are named

-- a code of the list is named
pub code_named : (entries : List Entry) (code : List ℕ) → Contains (filter_map code_in entries) code → NamesCode entries code
code_named [] code (k, inside, at) = absurd (omega (arith, inside))
code_named (Code own ∷ entries) code (zero, inside, at) = inl (ap Code at)
code_named (Code own ∷ entries) code (suc k, inside, at) = inr (code_named entries code (k, omega (arith, inside), at))
code_named (Range span ∷ entries) code h = inr (code_named entries code h)
code_named (Single own ∷ entries) code h = inr (code_named entries code h)

front_code : (entry : Entry) (entries : List Entry) (code : List ℕ) → entry ≡ Code code → Contains (filter_map code_in (entry ∷ entries)) code
front_code (Code own) entries code same = let at : own ≡ code = cc in (0, omega arith, at)
front_code (Range span) entries code same = absurd cc
front_code (Single number) entries code same = absurd cc

later_code : (entry : Entry) (entries : List Entry) (code : List ℕ) → Contains (filter_map code_in entries) code
    → Contains (filter_map code_in (entry ∷ entries)) code
later_code (Code own) entries code (k, inside, at) = (suc k, omega (arith, inside), at)
later_code (Range span) entries code h = h
later_code (Single number) entries code h = h

-- a code that is named is in the list
pub named_code : (entries : List Entry) (code : List ℕ) → NamesCode entries code → Contains (filter_map code_in entries) code
named_code [] code h = absurd h
named_code (entry ∷ entries) code (inl same) = front_code entry entries code same
named_code (entry ∷ entries) code (inr more) = later_code entry entries code (named_code entries code more)

-- one entry more
pub codes_more : (entries : List Entry) (i : ℕ) (entry : Entry) → i < length entries → entry ≡ slice_index_or entries i entry
    → filter_map code_in (take (i + 1) entries) ≡ filter_map code_in (take i entries) ++ cons_option (code_in entry) []
codes_more entries i entry inside at =
    let last : take (i + 1) entries ≡ take i entries ++ entry ∷ []
    = take_more entries i entry inside ∙ ap (λ (e : Entry). take i entries ++ e ∷ []) (sym at) in
    ap (filter_map code_in) last ∙ filter_map-append code_in (take i entries) (entry ∷ [])
