-- The value that is found by a name is that of the field with so many of the name before it, and is no longer than the bytes that are read.
use Rattle.std.proofs.Common.{◌≡◌, ℕ, zero, suc, ◌≤◌, Bool, true, false, List, [], ◌∷◌, ◌++◌, length, filter, Bor, Option, Some, None, IfSome, refl, ap, sym, subst, ◌∙◌}
use Rattle.std.specs.List.{slice_get}
use Rattle.std.specs.Option.{option_copied}
use Rattle.std.proofs.lemmas.Option.{same_Some}
use Rattle.sip_message.specs.FieldValue.{IsFieldValue, is_one_field, values_named}
use Rattle.sip_message.specs.Message.{FieldView}
use Rattle.sip_message.specs.Short.{AreShort}

-- ---- what is found is the value of such a field

-- one field more before it
after_one : (name : List ℕ) (field : FieldView) (others : List FieldView) (i now : ℕ) (value : List ℕ) → (found : IsFieldValue name others i value)
    → length (filter (λ (f : FieldView). is_one_field name f.name) (field ∷ found.earlier)) ≡ now → IsFieldValue name (field ∷ others) now value
after_one name field others i now value found before = record {
  earlier = field ∷ found.earlier;
  own = found.own;
  later = found.later;
  parts = ap (λ (x : List FieldView). field ∷ x) found.parts;
  named = found.named;
  before = before;
  value_is = found.value_is;
}

found_by : (name : List ℕ) (field : FieldView) (others : List FieldView) (i : ℕ) (value : List ℕ) (t : Bool) → is_one_field name field.name ≡ t
    → ((k : ℕ) → slice_get (values_named name others) k ≡ Some value → IsFieldValue name others k value)
    → slice_get (values_named name (field ∷ others)) i ≡ Some value → IsFieldValue name (field ∷ others) i value
found_by name field others zero value true e below h =
    let k : Some field.value ≡ Some value = rw e at h in
    record { earlier = []; own = field; later = others; parts = refl; named = e; before = refl; value_is = sym (same_Some field.value value k) }
found_by name field others (suc i) value true e below h =
    let k : slice_get (values_named name others) i ≡ Some value = rw e at h in
    let found = below i k in
    after_one name field others i (suc i) value found (rw e (ap suc found.before))
found_by name field others i value false e below h =
    let k : slice_get (values_named name others) i ≡ Some value = rw e at h in
    let found = below i k in
    after_one name field others i i value found (rw e found.before)

pub value_found : (name : List ℕ) (fields : List FieldView) (i : ℕ) (value : List ℕ) → slice_get (values_named name fields) i ≡ Some value
    → IsFieldValue name fields i value
value_found name [] i value h = absurd cc
value_found name (field ∷ others) i value h = found_by name field others i value (is_one_field name field.name) refl (λ k. value_found name others k value) h

-- ---- and the value of such a field is found

abbrev before : List ℕ → List FieldView → ℕ
before name fields = length (filter (λ (field : FieldView). is_one_field name field.name) fields)

behind_by : (name : List ℕ) (field : FieldView) (others : List FieldView) (own : FieldView) (later : List FieldView) (t : Bool) → is_one_field name field.name ≡ t
    → slice_get (values_named name (others ++ own ∷ later)) (before name others) ≡ Some own.value
    → slice_get (values_named name (field ∷ (others ++ own ∷ later))) (before name (field ∷ others)) ≡ Some own.value
behind_by name field others own later true e below = rw e below
behind_by name field others own later false e below = rw e below

behind : (name : List ℕ) (earlier : List FieldView) (own : FieldView) (later : List FieldView) → is_one_field name own.name ≡ true
    → slice_get (values_named name (earlier ++ own ∷ later)) (before name earlier) ≡ Some own.value
behind name [] own later named = rw named refl
behind name (field ∷ others) own later named = behind_by name field others own later (is_one_field name field.name) refl (behind name others own later named)

pub value_read : (name : List ℕ) (fields : List FieldView) (i : ℕ) (value : List ℕ) → IsFieldValue name fields i value → slice_get (values_named name fields) i ≡ Some value
value_read name fields i value v =
    ap (λ (x : List FieldView). slice_get (values_named name x) i) v.parts
    ∙ ap (λ k. slice_get (values_named name (v.earlier ++ v.own ∷ v.later)) k) (sym v.before)
    ∙ behind name v.earlier v.own v.later v.named
    ∙ ap Some (sym v.value_is)

-- ---- it is short

short_by : (name : List ℕ) (field : FieldView) (others : List FieldView) (i : ℕ) (value : List ℕ) (t : Bool) → is_one_field name field.name ≡ t
    → length field.value ≤ 65535 → ((k : ℕ) → slice_get (values_named name others) k ≡ Some value → length value ≤ 65535)
    → slice_get (values_named name (field ∷ others)) i ≡ Some value → length value ≤ 65535
short_by name field others zero value true e here below h =
    let k : Some field.value ≡ Some value = rw e at h in
    subst (λ v. length v ≤ 65535) (same_Some field.value value k) here
short_by name field others (suc i) value true e here below h =
    let k : slice_get (values_named name others) i ≡ Some value = rw e at h in
    below i k
short_by name field others i value false e here below h =
    let k : slice_get (values_named name others) i ≡ Some value = rw e at h in
    below i k

pub value_short : (name : List ℕ) (fields : List FieldView) (i : ℕ) (value : List ℕ) → AreShort fields → slice_get (values_named name fields) i ≡ Some value
    → length value ≤ 65535
value_short name [] i value s h = absurd cc
value_short name (field ∷ others) i value s h =
    short_by name field others i value (is_one_field name field.name) refl s.0 (λ k. value_short name others k value s.1) h

-- ---- handed out as a view

pub if_copied : {X : Type 0} (P : X → Type 0) (result : Option (Bor X)) (read : Option X) → option_copied result ≡ read → ((x : X) → read ≡ Some x → P x)
    → IfSome result (λ value. P value.now)
if_copied P None read e all = tt
if_copied P (Some x) read e all = all x.now (sym e)
