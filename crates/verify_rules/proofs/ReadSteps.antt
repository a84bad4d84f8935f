-- The PASSporTs of the judged fields, read one by one.
use Rattle.std.proofs.Common.{◌≡◌, ℕ, suc, ◌+◌, ◌<◌, ◌≤◌, true, false, List, [], ◌∷◌, ◌++◌, length, map, drop, get_or, codes, Some, None, Result, Ok, Err, refl, sym, ◌∙◌, ap, subst, arith, append_assoc, append-nil, drop-cons, length-append}
use Rattle.std.specs.Option.{option_or}
use Rattle.std.specs.Prelude.{OnOk, is_err}
use Rattle.std.proofs.lemmas.List.{drop_all}
use Rattle.passport_claims.specs.Kind.{ppt_of}
use Rattle.passport_claims.specs.Links.{IsLink}
use Rattle.verify_rules.specs.Call.{IdentityField, Reading, has_ppt, links, read_field, readings_of}
use Rattle.verify_rules.specs.Rules.{each, place, unreadable, unreadable_at}
use Rattle.verify_rules.specs.Seen.{AreLinks, AreReadings, GivesReading, IsChainable, ReadSoFar, field_seen}
use Rattle.verify_rules.specs.declared.facts.Facts.{Facts}
use Rattle.verify_rules.specs.declared.identity_field.NumberedField.{NumberedField}
use Rattle.verify_rules.specs.declared.refusal.Stop.{Stop}
use Rattle.verify_rules.specs.declared.refusal.Stop.TheVariants.{Broken, Memory}
use Rattle.verify_rules.proofs.Known.{text_by}

-- ---- one field

pub read_one : (said : Facts) (field : IdentityField) (one : Reading) → read_field said field ≡ Ok one → unreadable said field ≡ None
unfolding unreadable
read_one said field one e = ap (unreadable_at field.number) e

pub unreadable_one : (said : Facts) (field : IdentityField) (part : ℕ) → read_field said field ≡ Err part → unreadable said field ≡ Some (place field.number part)
unfolding unreadable
unreadable_one said field part e = ap (unreadable_at field.number) e

pub readings_one : (said : Facts) (field : IdentityField) (others : List IdentityField) (one : Reading) → read_field said field ≡ Ok one
    → readings_of said (field ∷ others) ≡ one ∷ readings_of said others
readings_one said field others one e = rw e refl

-- ---- the list

add_link : (readings : List Reading) (one : Reading) → AreLinks readings → IsLink one.passport → AreLinks (readings ++ one ∷ [])
add_link [] one all here = (here, tt)
add_link (first ∷ others) one all here = (all.0, add_link others one all.1 here)

add_chainable : (readings : List Reading) (one : Reading) → 1 ≤ length readings → IsChainable readings → IsLink one.passport → IsChainable (readings ++ one ∷ [])
add_chainable [] one some all here = absurd (omega arith)
add_chainable (first ∷ others) one some all here = add_link others one all here

links_here : (fields : List NumberedField) (i : ℕ) (field : NumberedField) → i < length fields → field ≡ get_or fields i field → has_ppt (codes "div") (field_seen field) ≡ true
    → links (map field_seen (drop i fields)) ≡ field_seen field ∷ links (map field_seen (drop (suc i) fields))
links_here fields i field within is link =
    ap (λ x. links (map field_seen x)) (drop-cons fields i field within) ∙ ap (λ x. links (field_seen x ∷ map field_seen (drop (suc i) fields))) (sym is) ∙ rw link refl

links_past : (fields : List NumberedField) (i : ℕ) (field : NumberedField) → i < length fields → field ≡ get_or fields i field → has_ppt (codes "div") (field_seen field) ≡ false
    → links (map field_seen (drop i fields)) ≡ links (map field_seen (drop (suc i) fields))
links_past fields i field within is other =
    ap (λ x. links (map field_seen x)) (drop-cons fields i field within) ∙ ap (λ x. links (field_seen x ∷ map field_seen (drop (suc i) fields))) (sym is) ∙ rw other refl

-- ---- the loop

pub read_start : (said : Facts) (origin : IdentityField) (fields : List NumberedField) (one : Reading) (now : List Reading) → read_field said origin ≡ Ok one → now ≡ one ∷ []
    → ReadSoFar said origin fields 0 now
read_start said origin fields one now e n =
    subst (ReadSoFar said origin fields 0) (sym n)
    (record { first = read_one said origin one e; good = refl; all = sym (readings_one said origin (links (map field_seen fields)) one e); kept = tt; some = omega arith })

pub read_more : (said : Facts) (origin : IdentityField) (fields : List NumberedField) (i : ℕ) (field : NumberedField) (one : Reading) (readings now : List Reading)
    → ReadSoFar said origin fields i readings → i < length fields → field ≡ get_or fields i field → has_ppt (codes "div") (field_seen field) ≡ true → read_field said (field_seen field) ≡ Ok one
    → ppt_of one.passport.kind ≡ field.parts.ppt → now ≡ readings ++ one ∷ [] → ReadSoFar said origin fields (i + 1) now
read_more said origin fields i field one readings now so within is link e kind n =
    let behind : suc i ≡ i + 1 = omega arith in
    let here = links_here fields i field within is link in
    let left : List IdentityField = links (map field_seen (drop (suc i) fields)) in
    let past : each (unreadable said) (links (map field_seen (drop i fields))) ≡ each (unreadable said) left =
    ap (each (unreadable said)) here ∙ ap (λ x. option_or x (each (unreadable said) left)) (read_one said (field_seen field) one e) in
    let more : readings_of said (links (map field_seen (drop i fields))) ≡ one ∷ readings_of said left =
    ap (readings_of said) here ∙ readings_one said (field_seen field) left one e in
    subst (λ k. ReadSoFar said origin fields k now) behind (subst (ReadSoFar said origin fields (suc i)) (sym n)
    (record {
      first = so.first;
      good = sym past ∙ so.good;
      all = append_assoc readings (one ∷ []) (readings_of said left) ∙ ap (λ x. readings ++ x) (sym more) ∙ so.all;
      kept = add_chainable readings one so.some so.kept (kind ∙ text_by (codes "div") field.parts.ppt link);
      some = omega (arith, length-append readings (one ∷ []), so.some);
    }))

pub read_past : (said : Facts) (origin : IdentityField) (fields : List NumberedField) (i : ℕ) (field : NumberedField) (readings : List Reading)
    → ReadSoFar said origin fields i readings → i < length fields → field ≡ get_or fields i field → has_ppt (codes "div") (field_seen field) ≡ false → ReadSoFar said origin fields (i + 1) readings
read_past said origin fields i field readings so within is other =
    let behind : suc i ≡ i + 1 = omega arith in
    let here = links_past fields i field within is other in
    subst (λ k. ReadSoFar said origin fields k readings) behind
    (record {
      first = so.first;
      good = sym (ap (each (unreadable said)) here) ∙ so.good;
      all = ap (λ x. readings ++ readings_of said x) (sym here) ∙ so.all;
      kept = so.kept;
      some = so.some;
    })

-- ---- the ends

pub first_bad : (said : Facts) (origin : IdentityField) (others : List IdentityField) (stop : Stop) → GivesReading origin.number (Err stop) (read_field said origin)
    → AreReadings said (origin ∷ others) (Err stop)
first_bad said origin others (Broken bad) h =
    ap (λ x. option_or x (each (unreadable said) others)) (unreadable_one said origin h.0 h.1) ∙ ap (λ x. Some x) (sym h.2)
first_bad said origin others Memory h = tt

bad_link : (said : Facts) (origin : IdentityField) (fields : List NumberedField) (i : ℕ) (field : NumberedField) (stop : Stop)
    → each (unreadable said) (origin ∷ links (map field_seen fields)) ≡ each (unreadable said) (field_seen field ∷ links (map field_seen (drop (suc i) fields)))
    → AreReadings said (field_seen field ∷ links (map field_seen (drop (suc i) fields))) (Err stop) → AreReadings said (origin ∷ links (map field_seen fields)) (Err stop)
bad_link said origin fields i field (Broken bad) same h = same ∙ h
bad_link said origin fields i field Memory same h = tt

pub read_bad : (said : Facts) (origin : IdentityField) (fields : List NumberedField) (i : ℕ) (field : NumberedField) (stop : Stop) (readings : List Reading)
    → ReadSoFar said origin fields i readings → i < length fields → field ≡ get_or fields i field → has_ppt (codes "div") (field_seen field) ≡ true
    → GivesReading field.number (Err stop) (read_field said (field_seen field)) → AreReadings said (origin ∷ links (map field_seen fields)) (Err stop)
read_bad said origin fields i field stop readings so within is link h =
    bad_link said origin fields i field stop
    (ap (λ x. option_or x (each (unreadable said) (links (map field_seen fields)))) so.first ∙ sym so.good ∙ ap (each (unreadable said)) (links_here fields i field within is link))
    (first_bad said (field_seen field) (links (map field_seen (drop (suc i) fields))) stop h)

pub all_good : (said : Facts) (origin : IdentityField) (fields : List NumberedField) (i : ℕ) (readings : List Reading) → ReadSoFar said origin fields i readings → length fields ≤ i
    → each (unreadable said) (origin ∷ links (map field_seen fields)) ≡ None
all_good said origin fields i readings so end =
    ap (λ x. option_or x (each (unreadable said) (links (map field_seen fields)))) so.first ∙ sym so.good ∙ ap (λ x. each (unreadable said) (links (map field_seen x))) (drop_all i fields end)

pub all_read : (said : Facts) (origin : IdentityField) (fields : List NumberedField) (i : ℕ) (readings : List Reading) → ReadSoFar said origin fields i readings → length fields ≤ i
    → readings ≡ readings_of said (origin ∷ links (map field_seen fields))
all_read said origin fields i readings so end =
    let none : readings ++ readings_of said (links (map field_seen (drop i fields))) ≡ readings =
    ap (λ x. readings ++ readings_of said (links (map field_seen x))) (drop_all i fields end) ∙ append-nil readings in
    sym none ∙ so.all

-- ---- what was pushed

pub pushed : {X E : Type 0} (r : Result X E) (P : Type 0) → OnOk r P → is_err r ≡ false → P
pushed (Ok x) P h e = h
pushed (Err x) P h e = absurd cc
