-- One field more or less: from a place on there is the field there, and what comes after it.
use Rattle.std.proofs.Common.{◌≡◌, ℕ, suc, ◌+◌, ◌<◌, ◌≤◌, Bool, true, false, List, [], ◌∷◌, length, drop, get_or, map, refl, sym, ap, ◌∙◌, drop-cons, if◌then◌else◌, arith}
use Rattle.std.proofs.Math.ListN.{drop_of_length-le}
use Rattle.sip_message.specs.declared.field.Field.{Field}
use Rattle.sip_message.specs.Accessors.{values}
use Rattle.sip_message.specs.Reading.{placed_named}
use Rattle.sip_message.specs.Seen.{field_seen, placed_seen, value_seen}

drop_at : (xs : List Field) (i : ℕ) (x : Field) → i < length xs → x ≡ get_or xs i x → drop i xs ≡ x ∷ drop (i + 1) xs
drop_at xs i x below is =
    let one : i + 1 ≡ suc i = omega arith in
    rw one (drop-cons xs i x below ∙ ap (λ (y : Field). y ∷ drop (suc i) xs) (sym is))

values_of : (test : List ℕ → Bool) (field : Field) (fields : List Field) (t : Bool) → test field.name ≡ t
    → values test (map field_seen (field ∷ fields)) ≡ (if t then value_seen field.value ∷ values test (map field_seen fields) else values test (map field_seen fields))
values_of test field fields true e = rw e refl
values_of test field fields false e = rw e refl

pub values_step : (test : List ℕ → Bool) (fields : List Field) (i : ℕ) (field : Field) → i < length fields → field ≡ get_or fields i field
    → values test (map field_seen (drop i fields))
    ≡ (if test field.name then value_seen field.value ∷ values test (map field_seen (drop (i + 1) fields)) else values test (map field_seen (drop (i + 1) fields)))
values_step test fields i field below is =
    ap (λ (xs : List Field). values test (map field_seen xs)) (drop_at fields i field below is) ∙ values_of test field (drop (i + 1) fields) (test field.name) refl

pub values_end : (test : List ℕ → Bool) (fields : List Field) (i : ℕ) → length fields ≤ i → values test (map field_seen (drop i fields)) ≡ []
values_end test fields i past = ap (λ (xs : List Field). values test (map field_seen xs)) (drop_of_length-le fields past)

placed_of : (test : List ℕ → Bool) (field : Field) (fields : List Field) (t : Bool) → test field.name ≡ t
    → placed_named test (map placed_seen (field ∷ fields)) ≡ (if t then placed_seen field ∷ placed_named test (map placed_seen fields) else placed_named test (map placed_seen fields))
placed_of test field fields true e = rw e refl
placed_of test field fields false e = rw e refl

pub placed_step : (test : List ℕ → Bool) (fields : List Field) (i : ℕ) (field : Field) → i < length fields → field ≡ get_or fields i field
    → placed_named test (map placed_seen (drop i fields))
    ≡ (if test field.name then placed_seen field ∷ placed_named test (map placed_seen (drop (i + 1) fields)) else placed_named test (map placed_seen (drop (i + 1) fields)))
placed_step test fields i field below is =
    ap (λ (xs : List Field). placed_named test (map placed_seen xs)) (drop_at fields i field below is) ∙ placed_of test field (drop (i + 1) fields) (test field.name) refl

pub placed_end : (test : List ℕ → Bool) (fields : List Field) (i : ℕ) → length fields ≤ i → placed_named test (map placed_seen (drop i fields)) ≡ []
placed_end test fields i past = ap (λ (xs : List Field). placed_named test (map placed_seen xs)) (drop_of_length-le fields past)
