-- One Identity field more, that of a diversion: it is numbered, judged and read after all others, which stay what they were.
use Rattle.std.proofs.Common.{◌≡◌, ℕ, suc, ◌+◌, ◌≤◌, nat_lt, Bool, false, true, cond, List, [], ◌∷◌, ◌++◌, length, codes, Option, Some, None, Result, Ok, Err, refl, sym, ap, ◌∙◌, arith, append_assoc, option_to_list}
use Rattle.std.specs.Prelude.{find, if◌then◌else◌}
use Rattle.std.specs.List.{cons_option}
use Rattle.std.specs.Option.{option_or}
use Rattle.std.specs.Result.{result_ok}
use Rattle.std.proofs.lemmas.Bool.{le-ltb}
use Rattle.std.proofs.lemmas.List.{length-map, map-append}
use Rattle.std.proofs.lemmas.List.Elements.{filter-append, filter_map-append}
use Rattle.tn_values.specs.Local.{LocalView}
use Rattle.identity_header.specs.Parts.{Parts}
use Rattle.identity_header.specs.Read.{read as read_parts}
use Rattle.identity_header.specs.declared.field.FieldFault.{FieldFault}
use Rattle.passport_claims.specs.GoesOn.{GoesOn}
use Rattle.passport_claims.specs.Links.{dest_of}
use Rattle.passport_claims.specs.OrderReading.{order_of}
use Rattle.passport_claims.specs.Passport.{ClaimsView, is_text}
use Rattle.passport_claims.specs.declared.order.ChainFault.{ChainFault}
use Rattle.sip_message.specs.Accessors.{target_number}
use Rattle.sip_message.specs.Message.{MessageView}
use Rattle.verify_rules.specs.Call.{IdentityField, Reading, called_by, facts_of, has_ppt, is_absent, is_read, judged_fields, lacks_ppt, links, numbered, originating, passport_in, passports_of, read_field, readings_of, turn_of, with_field}
use Rattle.verify_rules.specs.Rules.{bad_field, bad_or_later, each, foreign_alg, is_es256, no_identity, place}
use Rattle.verify_rules.specs.declared.refusal.Place.{Place}
use Rattle.auth_service.specs.Diverted.{GoOn}

-- ---- its value after the others

abbrev pub field_at : ℕ → Parts → IdentityField
field_at number parts = record { number = number; parts = parts }

with_more : (number : ℕ) (r : Result Parts FieldFault) (fields more : List IdentityField) → with_field number r (fields ++ more) ≡ with_field number r fields ++ more
with_more number (Ok parts) fields more = refl
with_more number (Err fault) fields more = refl

pub numbered_more : (number : ℕ) (values : List (List ℕ)) (value : List ℕ) (parts : Parts) → read_parts value ≡ Ok parts
    → numbered number (values ++ value ∷ []) ≡ numbered number values ++ field_at (number + length values) parts ∷ []
numbered_more number [] value parts e =
    let none : number ≡ number + 0 = omega arith in
    ap (λ r. with_field number r []) e ∙ ap (λ n. field_at n parts ∷ []) none
numbered_more number (one ∷ values) value parts e =
    let next : suc number + length values ≡ number + suc (length values) = omega arith in
    ap (with_field number (read_parts one)) (numbered_more (suc number) values value parts e ∙ ap (λ n. numbered (suc number) values ++ field_at n parts ∷ []) next)
    ∙ with_more number (read_parts one) (numbered (suc number) values) (field_at (number + suc (length values)) parts ∷ [])

pub identity_there : (values : List (List ℕ)) (value : List ℕ) → ◌≡◌ {A = Option Place} (no_identity (values ++ value ∷ [])) None
identity_there [] value = refl
identity_there (one ∷ values) value = refl

pub bad_more : (number : ℕ) (values : List (List ℕ)) (value : List ℕ) (parts : Parts) → read_parts value ≡ Ok parts → number + length values ≤ 16
    → bad_field number (values ++ value ∷ []) ≡ bad_field number values
bad_more number [] value parts e few =
    let within : nat_lt 16 number ≡ false = le-ltb 16 number (omega (arith, few)) in
    rw (within, e) refl
bad_more number (one ∷ values) value parts e few =
    ap (λ (later : Option Place). if nat_lt 16 number then Some (place 17 0) else bad_or_later number (read_parts one) later)
    (bad_more (suc number) values value parts e (omega (arith, few)))

-- ---- of type `div`

find_still : {X : Type 0} (test : X → Bool) (items : List X) (one : X) → test one ≡ false → find test (items ++ one ∷ []) ≡ find test items
find_still test [] one e = ap (λ (t : Bool). cond t (Some one) None) e
find_still test (item ∷ items) one e = ap (cond (test item) (Some item)) (find_still test items one e)

pub originating_more : (fields : List IdentityField) (field : IdentityField) → field.parts.ppt ≡ Some (codes "div") → originating (fields ++ field ∷ []) ≡ originating fields
originating_more fields field e =
    let other : has_ppt (codes "shaken") field ≡ false = ap (is_text (codes "shaken")) e in
    let some : lacks_ppt field ≡ false = ap is_absent e in
    ap (λ (o : Option IdentityField). option_or o (find lacks_ppt (fields ++ field ∷ []))) (find_still (has_ppt (codes "shaken")) fields field other)
    ∙ ap (option_or (find (has_ppt (codes "shaken")) fields)) (find_still lacks_ppt fields field some)

links_more : (fields : List IdentityField) (field : IdentityField) → field.parts.ppt ≡ Some (codes "div") → links (fields ++ field ∷ []) ≡ links fields ++ field ∷ []
links_more fields field e =
    let is : has_ppt (codes "div") field ≡ true = ap (is_text (codes "div")) e in
    filter-append (has_ppt (codes "div")) fields (field ∷ []) ∙ ap (λ (t : Bool). links fields ++ cond t (field ∷ []) []) is

pub judged_more : (fields : List IdentityField) (field : IdentityField) → field.parts.ppt ≡ Some (codes "div") → judged_fields (fields ++ field ∷ []) ≡ judged_fields fields ++ field ∷ []
judged_more fields field e =
    ap (λ (o : Option IdentityField). option_to_list o ++ links (fields ++ field ∷ [])) (originating_more fields field e)
    ∙ ap (λ (x : List IdentityField). option_to_list (originating fields) ++ x) (links_more fields field e)
    ∙ sym (append_assoc (option_to_list (originating fields)) (links fields) (field ∷ []))

-- ---- what holds of each

pub each_more : {A : Type 0} (broken : A → Option Place) (items : List A) (one : A) → broken one ≡ None → each broken (items ++ one ∷ []) ≡ each broken items
each_more broken [] one none = ap (λ (o : Option Place). option_or o None) none
each_more broken (item ∷ items) one none = ap (option_or (broken item)) (each_more broken items one none)

pub good_alg : (field : IdentityField) → field.parts.alg ≡ Some (codes "ES256") → ◌≡◌ {A = Option Place} (foreign_alg field) None
good_alg field e = ap (λ (alg : Option (List ℕ)). if is_es256 alg then None else Some (place field.number 0)) e

pub readings_more : (local : LocalView) (message : MessageView) (fields : List IdentityField) (field : IdentityField) (r : Reading) → read_field (facts_of local message) field ≡ Ok r
    → readings_of (facts_of local message) (fields ++ field ∷ []) ≡ readings_of (facts_of local message) fields ++ r ∷ []
readings_more local message fields field r e =
    let is : is_read (facts_of local message) field ≡ Some r = ap result_ok e in
    filter_map-append (is_read (facts_of local message)) fields (field ∷ []) ∙ ap (λ (o : Option Reading). readings_of (facts_of local message) fields ++ cons_option o []) is

-- ---- the order

abbrev pub LinkLaw : Type 0
LinkLaw = (origin : ClaimsView) (links : List ClaimsView) (turn : List ℕ) (link : ClaimsView) → GoesOn origin links turn link
    → order_of origin (links ++ link ∷ []) (Some (dest_of link)) ≡ Ok (turn ++ (length links + 1) ∷ [])

called_more : (local : LocalView) (message : MessageView) (others : List Reading) (r : Reading)
    → called_by (facts_of local message) (others ++ r ∷ []) ≡ target_number message local
called_more local message [] r = refl
called_more local message (one ∷ others) r = refl

pub turn_more : LinkLaw → (local : LocalView) (message : MessageView) (readings : List Reading) (r : Reading) (turn : List ℕ) → GoOn readings turn r.passport
    → target_number message local ≡ Some (dest_of r.passport) → turn_of (facts_of local message) (readings ++ r ∷ []) ≡ Ok (turn ++ length readings ∷ [])
turn_more law local message [] r turn goes called = absurd goes
turn_more law local message (origin ∷ others) r turn goes called =
    let next : length others + 1 ≡ suc (length others) = omega arith in
    let many : length (passports_of others) + 1 ≡ suc (length others) = ap (λ n. n + 1) (length-map others passport_in) ∙ next in
    ap (order_of origin.passport (passports_of (others ++ r ∷ []))) (called_more local message others r ∙ called)
    ∙ ap (λ (xs : List ClaimsView). order_of origin.passport xs (Some (dest_of r.passport))) (map-append passport_in others (r ∷ []))
    ∙ law origin.passport (passports_of others) turn r.passport goes
    ∙ ap {B = Result (List ℕ) ChainFault} (λ n. Ok (turn ++ n ∷ [])) many
