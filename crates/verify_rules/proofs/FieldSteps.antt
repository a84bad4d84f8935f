-- The Identity fields read one by one.
use Rattle.std.proofs.Common.{◌≡◌, ℕ, suc, ◌+◌, ◌<◌, ◌≤◌, nat_lt, true, false, List, [], ◌∷◌, ◌++◌, length, drop, get_or, Some, None, Result, Ok, Err, refl, sym, ◌∙◌, ap, arith, append_assoc, append-nil, drop-cons}
use Rattle.std.proofs.lemmas.Bool.Decides.{nat_tests}
use Rattle.std.proofs.lemmas.List.{drop_all}
use Rattle.identity_header.specs.Parts.{Parts}
use Rattle.identity_header.specs.Read.{read}
use Rattle.identity_header.specs.declared.field.FieldFault.{FieldFault}
use Rattle.verify_rules.specs.Call.{IdentityField, numbered, with_field}
use Rattle.verify_rules.specs.Rules.{bad_field, bad_or_later, place}
use Rattle.verify_rules.specs.Seen.{SoFar}

pub fields_start : (values : List (List ℕ)) → SoFar values 0 []
fields_start values = record { good = refl; all = refl }

bad_step : (values : List (List ℕ)) (i : ℕ) (r : Result Parts FieldFault) → i < length values → i < 16 → read (get_or values i []) ≡ r
    → bad_field (i + 1) (drop i values) ≡ bad_or_later (i + 1) r (bad_field (suc (i + 1)) (drop (suc i) values))
bad_step values i r within few e = let low : nat_lt 16 (i + 1) ≡ false = grind (arith, nat_tests) in rw (drop-cons values i [], low, e) refl

numbered_step : (values : List (List ℕ)) (i : ℕ) (r : Result Parts FieldFault) → i < length values → read (get_or values i []) ≡ r
    → numbered (i + 1) (drop i values) ≡ with_field (i + 1) r (numbered (suc (i + 1)) (drop (suc i) values))
numbered_step values i r within e = rw (drop-cons values i [], e) refl

pub field_more : (values : List (List ℕ)) (i : ℕ) (parts : Parts) → read (get_or values i []) ≡ Ok parts → i < length values → i < 16
    → bad_field (i + 1) (drop i values) ≡ bad_field 1 values → bad_field (i + 1 + 1) (drop (i + 1) values) ≡ bad_field 1 values
field_more values i parts e within few good =
    let next : i + 1 + 1 ≡ suc (i + 1) = omega arith in
    let behind : i + 1 ≡ suc i = omega arith in
    ap (λ k. bad_field k (drop (i + 1) values)) next ∙ ap (λ k. bad_field (suc (i + 1)) (drop k values)) behind ∙ sym (bad_step values i (Ok parts) within few e) ∙ good

pub numbers_more : (values : List (List ℕ)) (i : ℕ) (fields now : List IdentityField) (parts : Parts) (field : IdentityField) → read (get_or values i []) ≡ Ok parts → i < length values
    → fields ++ numbered (i + 1) (drop i values) ≡ numbered 1 values → field ≡ record { number = i + 1; parts = parts } → now ≡ fields ++ field ∷ []
    → now ++ numbered (i + 1 + 1) (drop (i + 1) values) ≡ numbered 1 values
numbers_more values i fields now parts field e within all is n =
    let next : i + 1 + 1 ≡ suc (i + 1) = omega arith in
    let behind : i + 1 ≡ suc i = omega arith in
    ap (λ k. now ++ numbered k (drop (i + 1) values)) next ∙ ap (λ k. now ++ numbered (suc (i + 1)) (drop k values)) behind
    ∙ ap (λ x. x ++ numbered (suc (i + 1)) (drop (suc i) values)) n ∙ append_assoc fields (field ∷ []) (numbered (suc (i + 1)) (drop (suc i) values))
    ∙ ap (λ x. fields ++ x ∷ numbered (suc (i + 1)) (drop (suc i) values)) is
    ∙ ap (λ x. fields ++ x) (sym (numbered_step values i (Ok parts) within e)) ∙ all

pub field_bad : (values : List (List ℕ)) (i : ℕ) (stop : FieldFault) → read (get_or values i []) ≡ Err stop → i < length values → i < 16
    → bad_field (i + 1) (drop i values) ≡ bad_field 1 values → bad_field 1 values ≡ Some (place (i + 1) stop.place)
field_bad values i stop e within few good = sym good ∙ bad_step values i (Err stop) within few e

pub fields_many : (values : List (List ℕ)) (i : ℕ) → i < length values → 16 ≤ i → bad_field (i + 1) (drop i values) ≡ bad_field 1 values → bad_field 1 values ≡ Some (place 17 0)
fields_many values i within many good =
    let high : nat_lt 16 (i + 1) ≡ true = grind (arith, nat_tests) in
    let here : bad_field (i + 1) (drop i values) ≡ Some (place 17 0) = rw (drop-cons values i [], high) refl in sym good ∙ here

pub none_bad : (values : List (List ℕ)) (i : ℕ) → length values ≤ i → bad_field (i + 1) (drop i values) ≡ bad_field 1 values → bad_field 1 values ≡ None
none_bad values i end good = sym good ∙ ap (bad_field (i + 1)) (drop_all i values end)

pub all_numbered : (values : List (List ℕ)) (i : ℕ) (fields : List IdentityField) → length values ≤ i → fields ++ numbered (i + 1) (drop i values) ≡ numbered 1 values → fields ≡ numbered 1 values
all_numbered values i fields end all =
    let none : fields ++ numbered (i + 1) (drop i values) ≡ fields = ap (λ x. fields ++ numbered (i + 1) x) (drop_all i values end) ∙ append-nil fields in sym none ∙ all
