-- The Date serves tokens in their compact form alone.
use Rattle.std.proofs.Common.{◌≡◌, ℕ, Bool, true, false, List, [], ◌∷◌, refl, sym, ◌∙◌, ap, subst, codes}
use Rattle.std.specs.Prelude.{nat_eq}
use Rattle.std.specs.List.{list_any, starts_with}
use Rattle.std.specs.Option.{option_or}
use Rattle.std.proofs.lemmas.Bool.{or_parts}
use Rattle.passport_claims.specs.OrderReading.{order_of}
use Rattle.passport_json.specs.Compact.{CallView}
use Rattle.passport_json.specs.Token.{read_token}
use Rattle.verify_rules.specs.Call.{IdentityField, Reading, called_by, given_to_compact, passports_of, read_field, reading_by, readings_of, turn_of}
use Rattle.verify_rules.specs.Rules.{each, unreadable, unreadable_at}
use Rattle.verify_rules.specs.Seen.{Serves, facts_asked, is_compact}
use Rattle.verify_rules.specs.declared.facts.Facts.{Facts}

same_token : (one other : CallView) (text : List ℕ) → starts_with nat_eq text (codes "..") ≡ false → read_token one text ≡ read_token other text
unfolding read_token
same_token one other text e = rw e refl

same_field : (said full : Facts) (field : IdentityField) → is_compact field ≡ false → read_field said field ≡ read_field full field
unfolding read_field
same_field said full field e = ap (reading_by field) (same_token (given_to_compact said field.parts) (given_to_compact full field.parts) field.parts.token e)

same_unreadable_one : (said full : Facts) (field : IdentityField) → is_compact field ≡ false → unreadable said field ≡ unreadable full field
unfolding unreadable
same_unreadable_one said full field e = ap (unreadable_at field.number) (same_field said full field e)

same_unreadable : (said full : Facts) (fields : List IdentityField) → list_any is_compact fields ≡ false → each (unreadable said) fields ≡ each (unreadable full) fields
same_unreadable said full [] h = refl
same_unreadable said full (field ∷ fields) h =
    let k = or_parts (is_compact field) (list_any is_compact fields) h in
    ap (λ x. option_or x (each (unreadable said) fields)) (same_unreadable_one said full field k.0) ∙ ap (option_or (unreadable full field)) (same_unreadable said full fields k.1)

same_readings : (said full : Facts) (fields : List IdentityField) → list_any is_compact fields ≡ false → readings_of said fields ≡ readings_of full fields
same_readings said full [] h = refl
same_readings said full (field ∷ fields) h =
    let k = or_parts (is_compact field) (list_any is_compact fields) h in
    let one = same_field said full field k.0 in
    let rest = same_readings said full fields k.1 in
    rw (one, rest) refl

serves_by : (full : Facts) (fields : List IdentityField) (asked : Bool) → asked ≡ list_any is_compact fields → Serves (facts_asked asked full) full fields
serves_by full fields true e = record { calling = refl; to = refl; target = refl; unreadable = refl; readings = refl }
serves_by full fields false e =
    record {
      calling = refl;
      to = refl;
      target = refl;
      unreadable = same_unreadable (facts_asked false full) full fields (sym e);
      readings = same_readings (facts_asked false full) full fields (sym e);
    }

pub serves : (full said : Facts) (fields : List IdentityField) (asked : Bool) → asked ≡ list_any is_compact fields → said ≡ facts_asked asked full → Serves said full fields
serves full said fields asked e is = subst (λ x. Serves x full fields) (sym is) (serves_by full fields asked e)

-- ---- the called number

called_same : (said full : Facts) (others : List Reading) → said.to ≡ full.to → said.target ≡ full.target → called_by said others ≡ called_by full others
called_same said full [] t g = t
called_same said full (one ∷ others) t g = g

pub turn_same : (said full : Facts) (readings : List Reading) → said.to ≡ full.to → said.target ≡ full.target → turn_of said readings ≡ turn_of full readings
turn_same said full [] t g = refl
turn_same said full (origin ∷ others) t g = ap (order_of origin.passport (passports_of others)) (called_same said full others t g)
