-- The test of lying within decides it.
use Rattle.std.proofs.Common.{◌≡◌, ◌↔◌, ℕ, zero, suc, Bool, true, false, cond, ◌||◌, inl, inr, List, [], ◌∷◌, Option, Some, None, Result, Ok, Err, refl, sym, ap, ◌∙◌, subst, arith}
use Rattle.lists.proofs.Bytes.{bytes_same, same_bytes}
use Rattle.std.proofs.lemmas.Bool.{true_from_ne_false, and_parts, or_cases, or_left, or_right}
use Rattle.std.proofs.lemmas.Bool.Decides.{same_from_decides}
use Rattle.std.specs.Cmp.Derive.{both_true}
use Rattle.std.specs.List.{list_all, list_any}
use Rattle.std.specs.Prelude.{IfOk, IsTrue}
use Rattle.std.specs.Str.{bytes_eq}
use Rattle.tn_values.specs.NumberSet.{SetHolds, set_of}
use Rattle.tn_values.specs.Span.{SpanView, SpanHolds}
use Rattle.tn_values.specs.Place.{spans_have}
use Rattle.tn_values.specs.Every.{every_number}
use Rattle.tn_values.proofs.SetLaws.{has_means, means_has}
use Rattle.tn_values.proofs.EveryLaws.{all_tested, tested_all}
use Rattle.tn_auth_list.specs.CodeTable.{SomeOf}
use Rattle.tn_auth_list.specs.Grant.{GrantHolds, grant_in}
use Rattle.tn_auth_list.specs.declared.table_groups.Held.{Held}
use Rattle.tn_auth_list.specs.declared.table_groups.Held.TheVariants.{All, These}
use Rattle.tn_auth_list.specs.declared.entries.Entry.{Entry}
use Rattle.tn_auth_list.specs.declared.entries.Entry.TheVariants.{Code, Range, Single}
use Rattle.delegation.specs.Coverage.{Table, In, Owns, Covers, ListWithin, Within}
use Rattle.delegation.specs.Gathered.{has_codes_of, no_numbers}
use Rattle.delegation.specs.Decided.{is_owned, is_granted, is_in, owns_number, covers_number, keeps_number, is_list_within, is_within}
use Rattle.delegation.proofs.SetLaws.{owns_added}
use Rattle.delegation.proofs.AuthorityLaws.{codes_had, without_code}

-- ---- some entry

-- if some entry passes a test, some entry is what the test means
some_found : {X : Type 0} (P : X → Type 0) (test : X → Bool) → ((x : X) → test x ≡ true → P x) → (xs : List X) → list_any test xs ≡ true → SomeOf P xs
some_found P test means [] h = absurd cc
some_found P test means (x ∷ xs) h =
    elim (or_cases (test x) (list_any test xs) h) [ inl here ↦ inl (means x here) | inr more ↦ inr (some_found P test means xs more) ]

-- if some entry is what a test means, some entry passes it
some_tested : {X : Type 0} (P : X → Type 0) (test : X → Bool) → ((x : X) → P x → test x ≡ true) → (xs : List X) → SomeOf P xs → list_any test xs ≡ true
some_tested P test tests [] p = absurd p
some_tested P test tests (x ∷ xs) (inl p) = or_left (test x) (list_any test xs) (tests x p)
some_tested P test tests (x ∷ xs) (inr more) = or_right (test x) (list_any test xs) (some_tested P test tests xs more)

-- ---- one number

-- a test beside one that never passes
alone : (t : Bool) → (t || false) ≡ true → t ≡ true
alone true h = refl
alone false h = h

-- what a range alone holds
one_span : (span : SpanView) (number : List ℕ) → SetHolds (set_of (span ∷ []) []) number → SpanHolds span number
one_span span number (inl (zero, held, inside, is, h)) = subst (λ s. SpanHolds s number) (sym is) h
one_span span number (inl (suc k, held, inside, is, h)) = absurd (omega (arith, inside))
one_span span number (inr (k, inside, is)) = absurd (omega (arith, inside))

-- what an entry holds itself
owned_means : (number : List ℕ) (entry : Entry) → is_owned number entry ≡ true → Owns number entry
owned_means number (Code code) h = absurd cc
owned_means number (Range span) h =
    one_span span number (has_means (set_of (span ∷ []) []) number (or_left (spans_have (span ∷ []) number) false h))
owned_means number (Single own) h = bytes_same own number h

means_owned : (number : List ℕ) (entry : Entry) → Owns number entry → is_owned number entry ≡ true
means_owned number (Code code) h = absurd h
means_owned number (Range span) h =
    alone (spans_have (span ∷ []) number) (means_has (set_of (span ∷ []) []) number (owns_added (Range span ∷ []) no_numbers number (inl h)))
means_owned number (Single own) h = ap (bytes_eq own) (sym h) ∙ same_bytes own

-- what a grant holds
granted_means : (held : Option Held) (number : List ℕ) → is_granted held number ≡ true → GrantHolds held number
granted_means None number h = absurd cc
granted_means (Some All) number h = tt
granted_means (Some (These set)) number h = has_means set number h

means_granted : (held : Option Held) (number : List ℕ) → GrantHolds held number → is_granted held number ≡ true
means_granted None number h = absurd h
means_granted (Some All) number h = refl
means_granted (Some (These set)) number h = means_has set number h

-- what an entry holds
in_means : (table : Table) (number : List ℕ) (entry : Entry) → is_in table number entry ≡ true → In table number entry
in_means table number (Code code) h = granted_means (grant_in table code) number h
in_means table number (Range span) h = owned_means number (Range span) h
in_means table number (Single own) h = owned_means number (Single own) h

means_in : (table : Table) (number : List ℕ) (entry : Entry) → In table number entry → is_in table number entry ≡ true
means_in table number (Code code) h = means_granted (grant_in table code) number h
means_in table number (Range span) h = means_owned number (Range span) h
means_in table number (Single own) h = means_owned number (Single own) h

-- the test of coverage decides it
pub coverage_decided : (entries : List Entry) (table : Table) (number : List ℕ) → IsTrue (covers_number entries table number) ↔ Covers entries table number
coverage_decided entries table number =
    (some_found (In table number) (is_in table number) (in_means table number) entries, some_tested (In table number) (is_in table number) (means_in table number) entries)

-- an answer that is true exactly if some entry holds the number is that of the test
pub same_coverage : (answer : Bool) (entries : List Entry) (table : Table) (number : List ℕ) → IsTrue answer ↔ Covers entries table number
    → answer ≡ covers_number entries table number
same_coverage answer entries table number h = same_from_decides answer (covers_number entries table number) h (coverage_decided entries table number)

-- ---- a number that the child holds

-- what is owned has to be covered
kept_if : (owned covered : Bool) → owned ≡ true → cond owned covered true ≡ true → covered ≡ true
kept_if true covered is h = h
kept_if false covered is h = absurd cc

if_kept : (owned covered : Bool) → (owned ≡ true → covered ≡ true) → cond owned covered true ≡ true
if_kept true covered f = f refl
if_kept false covered f = refl

-- the parent covers the number, if the child holds it
keeps_means : (child parent : List Entry) (table : Table) (number : List ℕ) → keeps_number child parent table number ≡ true
    → SomeOf (Owns number) child → Covers parent table number
keeps_means child parent table number h owned =
    some_found (In table number) (is_in table number) (in_means table number) parent
    (kept_if (owns_number child number) (covers_number parent table number) (some_tested (Owns number) (is_owned number) (means_owned number) child owned) h)

means_keeps : (child parent : List Entry) (table : Table) (number : List ℕ) → (SomeOf (Owns number) child → Covers parent table number)
    → keeps_number child parent table number ≡ true
means_keeps child parent table number covers =
    if_kept (owns_number child number) (covers_number parent table number)
    (λ h. some_tested (In table number) (is_in table number) (means_in table number) parent
    (covers (some_found (Owns number) (is_owned number) (owned_means number) child h)))

-- ---- lists

-- what the test of two lists means
list_means : (child parent : List Entry) (table : Table) → is_list_within child parent table ≡ true → ListWithin child parent table
unfolding is_list_within
list_means child parent table h =
    let each = and_parts (has_codes_of parent child) (list_all (keeps_number child parent table) every_number) h in
    record {
      codes = codes_had parent child each.0;
      numbers = λ number is owned. keeps_means child parent table number (all_tested (keeps_number child parent table) each.1 number is) owned;
    }

means_list : (child parent : List Entry) (table : Table) → ListWithin child parent table → is_list_within child parent table ≡ true
unfolding is_list_within
means_list child parent table w =
    both_true (true_from_ne_false (has_codes_of parent child) (λ lacks. without_code child parent table lacks w))
    (tested_all (keeps_number child parent table) (λ number is. means_keeps child parent table number (w.numbers number is)))

-- ---- authorities

-- the test decides lying within
pub decides : (child parent : Option (List Entry)) (table : Table) → IsTrue (is_within child parent table) ↔ Within child parent table
decides child None table = (λ _. tt, λ _. refl)
decides None (Some parent) table = (λ h. absurd cc, λ w. absurd w)
decides (Some child) (Some parent) table = (list_means child parent table, means_list child parent table)

-- an answer that is true exactly if the one lies within the other is that of the test
pub same_answer : {E : Type 0} (r : Result Bool E) (child parent : Option (List Entry)) (table : Table)
    → IfOk r (λ answer. IsTrue answer ↔ Within child parent table) → IfOk r (λ answer. answer ≡ is_within child parent table)
same_answer (Ok answer) child parent table h = same_from_decides answer (is_within child parent table) h (decides child parent table)
same_answer (Err e) child parent table h = tt
