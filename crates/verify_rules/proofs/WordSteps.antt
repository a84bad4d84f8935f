-- What the holding of each rule means.
use Rattle.std.proofs.Common.{◌≡◌, ◌↔◌, ◌⊎◌, inl, inr, ℕ, suc, ◌+◌, ◌≤◌, nat_lt, Bool, true, false, List, [], ◌∷◌, length, find, codes, cond, Option, Some, None, Result, Ok, Err, refl, sym, ◌∙◌, ap, arith}
use Rattle.std.specs.Option.{option_or}
use Rattle.std.proofs.lemmas.Bool.{or_parts}
use Rattle.std.proofs.lemmas.Bool.Decides.{nat_tests}
use Rattle.std.proofs.lemmas.Slice.Eq.{bytes_eq-Decides}
use Rattle.identity_header.specs.FieldText.{FieldText}
use Rattle.identity_header.specs.Parts.{Parts}
use Rattle.identity_header.specs.Read.{read as read_parts}
use Rattle.identity_header.specs.declared.field.FieldFault.{FieldFault}
use Rattle.sip_message.specs.Accessors.{is_invite}
use Rattle.sip_message.specs.Head.{Head}
use Rattle.sip_message.specs.Message.{MessageView}
use Rattle.sip_message.specs.Reading.{read}
use Rattle.sip_message.specs.declared.fault.FormFault.{FormFault}
use Rattle.passport_claims.specs.Passport.{is_text}
use Rattle.verify_rules.specs.Call.{IdentityField, Reading, has_ppt, is_absent, lacks_ppt, originating}
use Rattle.verify_rules.specs.Rules.{bad_field, bad_or_later, foreign_alg, other_calling, is_es256, is_stale, no_identity, no_invite, no_originating, place, stale}
use Rattle.verify_rules.specs.Words.{AreFewFields, Each, IsEs256, IsFieldText, IsFresh, IsFrom, IsInvite, MayOriginate, OfOne}
use Rattle.verify_rules.specs.declared.refusal.Place.{Place}
use Rattle.verify_rules.specs.declared.settings.Settings.{Settings}
use Rattle.verify_rules.proofs.Known.{absent_by, text_by}

-- a test that decides whether a rule is broken
none_if : (bad : Place) (t : Bool) → cond t None (Some bad) ≡ None → t ≡ true
none_if bad true h = refl
none_if bad false h = absurd cc

text_is : (text : List ℕ) (given : Option (List ℕ)) → given ≡ Some text → is_text text given ≡ true
text_is text given e = ap (is_text text) e ∙ (bytes_eq-Decides text text).1 refl

-- ---- rule 1

invite_by : (bytes : List ℕ) (r : Result MessageView FormFault) → ((message : MessageView) → r ≡ Ok message → Head bytes message) → no_invite r ≡ None → IsInvite bytes
invite_by bytes (Ok message) heads h =
    record { message = message; head = heads message refl; method = (bytes_eq-Decides message.method (codes "INVITE")).0 (none_if (place 0 0) (is_invite message) h) }
invite_by bytes (Err fault) heads h = absurd cc

pub invite_means : (bytes : List ℕ) → ((bytes : List ℕ) (message : MessageView) → (read bytes ≡ Ok message) ↔ Head bytes message) → (no_invite (read bytes) ≡ None) ↔ IsInvite bytes
invite_means bytes law = (
  invite_by bytes (read bytes) (λ message e. (law bytes message).0 e),
  (λ (h : IsInvite bytes).
      let is : is_invite h.message ≡ true = (bytes_eq-Decides h.message.method (codes "INVITE")).1 h.method in
      ap no_invite ((law bytes h.message).1 h.head) ∙ rw is refl),
)

-- ---- rule 2

pub identity_means : (values : List (List ℕ)) → (no_identity values ≡ None) ↔ (1 ≤ length values)
identity_means [] = ((λ h. absurd cc), (λ h. absurd (omega arith)))
identity_means (value ∷ others) = ((λ h. omega arith), (λ h. refl))

-- ---- rule 3

good_by : (number : ℕ) (others : List (List ℕ)) (t : Bool) (r : Result Parts FieldFault) → nat_lt 16 number ≡ t
    → cond t (Some (place 17 0)) (bad_or_later number r (bad_field (suc number) others)) ≡ None → (number ≤ 16) × ((parts : Parts) × (r ≡ Ok parts)) × (bad_field (suc number) others ≡ None)
good_by number others true r e h = absurd cc
good_by number others false (Ok parts) e h = (grind (arith, nat_tests), (parts, refl), h)
good_by number others false (Err fault) e h = absurd cc

few_by : (number : ℕ) (values : List (List ℕ)) → number ≤ 17 → bad_field number values ≡ None → number + length values ≤ 17
few_by number [] low h = omega arith
few_by number (value ∷ others) low h =
    let k = good_by number others (nat_lt 16 number) (read_parts value) refl h in
    let rest = few_by (suc number) others (omega (arith, k.0)) k.2 in omega (arith, rest)

texts_by : (law : (text : List ℕ) (f : Parts) → (read_parts text ≡ Ok f) ↔ FieldText f text) (number : ℕ) (values : List (List ℕ)) → bad_field number values ≡ None → Each IsFieldText values
texts_by law number [] h = tt
texts_by law number (value ∷ others) h =
    let k = good_by number others (nat_lt 16 number) (read_parts value) refl h in
    ((k.1.0, (law value k.1.0).0 k.1.1), texts_by law (suc number) others k.2)

good_again : (law : (text : List ℕ) (f : Parts) → (read_parts text ≡ Ok f) ↔ FieldText f text) (number : ℕ) (values : List (List ℕ)) → number + length values ≤ 17 → Each IsFieldText values
    → bad_field number values ≡ None
good_again law number [] few h = refl
good_again law number (value ∷ others) few h =
    let low : nat_lt 16 number ≡ false = grind (arith, nat_tests) in
    let e = (law value h.0.0).1 h.0.1 in
    let rest : bad_field (suc number) others ≡ None = good_again law (suc number) others (omega arith) h.1 in
    rw (low, e) rest

pub fields_mean : (values : List (List ℕ)) → ((text : List ℕ) (f : Parts) → (read_parts text ≡ Ok f) ↔ FieldText f text) → (bad_field 1 values ≡ None) ↔ AreFewFields values
fields_mean values law = (
  (λ h. let few = few_by 1 values (omega arith) h in record { few = omega (arith, few); texts = texts_by law 1 values h }),
  (λ (h : AreFewFields values). let few = h.few in good_again law 1 values (omega (arith, few)) h.texts),
)

-- ---- rule 4

found_at : (test : IdentityField → Bool) (P : IdentityField → Type 0) (field : IdentityField) (fields : List IdentityField) (o : IdentityField) (t : Bool) → (test field ≡ true → P field)
    → (find test fields ≡ Some o → OfOne P fields) → test field ≡ t → cond t (Some field) (find test fields) ≡ Some o → OfOne P (field ∷ fields)
found_at test P field fields o true one below e h = inl (one e)
found_at test P field fields o false one below e h = inr (below h)

found_by : (test : IdentityField → Bool) (P : IdentityField → Type 0) → ((field : IdentityField) → test field ≡ true → P field) → (fields : List IdentityField) (o : IdentityField)
    → find test fields ≡ Some o → OfOne P fields
found_by test P one [] o h = absurd cc
found_by test P one (field ∷ fields) o h = found_at test P field fields o (test field) (one field) (found_by test P one fields o) refl h

missed_at : (test : IdentityField → Bool) (P : IdentityField → Type 0) (field : IdentityField) (fields : List IdentityField) (t : Bool) → (P field → test field ≡ true)
    → (find test fields ≡ None → OfOne P fields → ⊥) → test field ≡ t → cond t (Some field) (find test fields) ≡ None → P field ⊎ OfOne P fields → ⊥
missed_at test P field fields true one below e h p = absurd cc
missed_at test P field fields false one below e h (inl p) = let is : false ≡ true = sym e ∙ one p in absurd cc
missed_at test P field fields false one below e h (inr p) = below h p

missed_by : (test : IdentityField → Bool) (P : IdentityField → Type 0) → ((field : IdentityField) → P field → test field ≡ true) → (fields : List IdentityField)
    → find test fields ≡ None → OfOne P fields → ⊥
missed_by test P one [] h p = p
missed_by test P one (field ∷ fields) h p = missed_at test P field fields (test field) (one field) (missed_by test P one fields) refl h p

abbrev IsShaken : IdentityField → Type 0
IsShaken field = field.parts.ppt ≡ Some (codes "shaken")

abbrev HasNoType : IdentityField → Type 0
HasNoType field = field.parts.ppt ≡ None

either : (fields : List IdentityField) → OfOne MayOriginate fields → OfOne IsShaken fields ⊎ OfOne HasNoType fields
either [] p = absurd p
either (field ∷ fields) (inl (inl e)) = inl (inl e)
either (field ∷ fields) (inl (inr e)) = inr (inl e)
either (field ∷ fields) (inr p) = elim (either fields p) [ inl q ↦ inl (inr q) | inr q ↦ inr (inr q) ]

origin_by : (fields : List IdentityField) (a b : Option IdentityField) → find (has_ppt (codes "shaken")) fields ≡ a → find lacks_ppt fields ≡ b → no_originating (option_or a b) ≡ None → OfOne MayOriginate fields
origin_by fields (Some o) b e f h = found_by (has_ppt (codes "shaken")) MayOriginate (λ field is. inl (text_by (codes "shaken") field.parts.ppt is)) fields o e
origin_by fields None (Some o) e f h = found_by lacks_ppt MayOriginate (λ field is. inr (absent_by field.parts.ppt is)) fields o f
origin_by fields None None e f h = absurd cc

origin_again : (fields : List IdentityField) (a b : Option IdentityField) → find (has_ppt (codes "shaken")) fields ≡ a → find lacks_ppt fields ≡ b → OfOne IsShaken fields ⊎ OfOne HasNoType fields
    → no_originating (option_or a b) ≡ None
origin_again fields (Some o) b e f p = refl
origin_again fields None (Some o) e f p = refl
origin_again fields None None e f (inl p) = absurd (missed_by (has_ppt (codes "shaken")) IsShaken (λ field is. text_is (codes "shaken") field.parts.ppt is) fields e p)
origin_again fields None None e f (inr p) = absurd (missed_by lacks_ppt HasNoType (λ field is. ap is_absent is) fields f p)

pub origin_means : (fields : List IdentityField) → (no_originating (originating fields) ≡ None) ↔ OfOne MayOriginate fields
origin_means fields = (
  origin_by fields (find (has_ppt (codes "shaken")) fields) (find lacks_ppt fields) refl refl,
  (λ p. origin_again fields (find (has_ppt (codes "shaken")) fields) (find lacks_ppt fields) refl refl (either fields p)),
)

-- ---- rule 5

alg_by : (alg : Option (List ℕ)) → is_es256 alg ≡ true → (alg ≡ None) ⊎ (alg ≡ Some (codes "ES256"))
alg_by None h = inl refl
alg_by (Some value) h = inr (text_by (codes "ES256") (Some value) h)

alg_again : (alg : Option (List ℕ)) → (alg ≡ None) ⊎ (alg ≡ Some (codes "ES256")) → is_es256 alg ≡ true
alg_again alg (inl e) = ap is_es256 e
alg_again alg (inr e) = ap is_es256 e

pub alg_means : (field : IdentityField) → (foreign_alg field ≡ None) ↔ IsEs256 field
alg_means field = (
  (λ h. alg_by field.parts.alg (none_if (place field.number 0) (is_es256 field.parts.alg) h)),
  (λ h. let is : is_es256 field.parts.alg ≡ true = alg_again field.parts.alg h in rw is refl),
)

-- ---- rule 7

pub orig_means : (calling : Option (List ℕ)) (one : Reading) → (other_calling calling one ≡ None) ↔ IsFrom calling one
unfolding other_calling
orig_means calling one = (
  (λ h. text_by one.passport.orig calling (none_if (place one.mark.field 0) (is_text one.passport.orig calling) h)),
  (λ h. let is : is_text one.passport.orig calling ≡ true = text_is one.passport.orig calling h in rw is refl),
)

-- ---- rule 9

fresh_by : (settings : Settings) (moment : ℕ) (one : Reading) (bad : Place) (t : Bool) → is_stale settings moment one.passport.iat ≡ t → cond t (Some bad) None ≡ None → IsFresh settings moment one
fresh_by settings moment one bad true e h = absurd cc
fresh_by settings moment one bad false e h =
    let o = or_parts (nat_lt (one.passport.iat + settings.past) moment) (nat_lt (moment + settings.future) one.passport.iat) e in
    record { not_old = grind (arith, nat_tests, o.0); not_early = grind (arith, nat_tests, o.1) }

pub fresh_means : (settings : Settings) (moment : ℕ) (one : Reading) → (stale settings moment one ≡ None) ↔ IsFresh settings moment one
unfolding stale
fresh_means settings moment one = (
  fresh_by settings moment one (place one.mark.field 0) (is_stale settings moment one.passport.iat) refl,
  (λ (h : IsFresh settings moment one).
      let old = h.not_old in let early = h.not_early in
      let low : nat_lt (one.passport.iat + settings.past) moment ≡ false = grind (arith, nat_tests) in
      let high : nat_lt (moment + settings.future) one.passport.iat ≡ false = grind (arith, nat_tests) in rw (low, high) refl),
)
