-- What the holding of rule 6 means: each judged field's text is a token whose claims are those of a PASSporT.
use Rattle.std.proofs.Common.{◌≡◌, ◌↔◌, ℕ, zero, suc, ◌<◌, Bool, true, false, List, [], ◌∷◌, ◌++◌, filter, find, codes, cond, Option, Some, None, Result, Ok, Err, refl, sym, ◌∙◌, ap, subst, arith, option_to_list}
use Rattle.std.specs.List.{list_all}
use Rattle.std.specs.Option.{option_or}
use Rattle.std.proofs.lemmas.Bool.{and_parts}
use Rattle.std.proofs.lemmas.Bool.Decides.{nat_tests}
use Rattle.base64.specs.GeneralPurpose.{IsBytes}
use Rattle.serde_json.specs.Data.{Data}
use Rattle.identity_header.specs.FieldText.{FieldText}
use Rattle.identity_header.specs.Parts.{Parts, is_digest_byte}
use Rattle.identity_header.specs.Read.{read as read_parts}
use Rattle.identity_header.specs.declared.field.FieldFault.{FieldFault}
use Rattle.passport_claims.specs.Claims.{Claims}
use Rattle.passport_claims.specs.Kind.{IsKnown}
use Rattle.passport_claims.specs.Passport.{ClaimsView}
use Rattle.passport_claims.specs.Read.{read_claims}
use Rattle.passport_claims.specs.declared.fault.ClaimFault.{ClaimFault}
use Rattle.passport_json.specs.Compact.{CallView}
use Rattle.passport_json.specs.Token.{TokenText, read_token}
use Rattle.passport_json.specs.View.{TokenView}
use Rattle.passport_json.specs.declared.fault.TokenFault.{TokenFault}
use Rattle.verify_rules.specs.Call.{IdentityField, Reading, has_ppt, judged_fields, lacks_ppt, given_to_compact, links, mark_of, marked_or_part, numbered, originating, read_field, reading, reading_by, readings_of, with_field}
use Rattle.verify_rules.specs.Rules.{each, unreadable}
use Rattle.verify_rules.specs.Words.{AreNumbered, AreRead, CanBeRead, Each, IsFieldText, IsRead}
use Rattle.verify_rules.specs.declared.facts.Facts.{Facts}
use Rattle.verify_rules.proofs.FreshLaws.{read_there}
use Rattle.verify_rules.proofs.Known.{known_link, known_with, known_without}
use Rattle.verify_rules.proofs.ReadSteps.{read_one, readings_one}
use Rattle.verify_rules.proofs.WordLaws.{each_means_of}

abbrev pub FieldLaw : Type 0
FieldLaw = (text : List ℕ) (f : Parts) → (read_parts text ≡ Ok f) ↔ FieldText f text

abbrev pub TokenLaw : Type 0
TokenLaw = (text : List ℕ) (call : CallView) (token : TokenView) → TokenText text call token → read_token call text ≡ Ok token

abbrev pub TokenFoundLaw : Type 0
TokenFoundLaw = (text : List ℕ) (call : CallView) (token : TokenView) → IsBytes text → read_token call text ≡ Ok token → TokenText text call token

abbrev pub ClaimsLaw : Type 0
ClaimsLaw = (header payload : Data) (ppt : Option (List ℕ)) (info : List ℕ) (claims : ClaimsView) → IsKnown ppt → (read_claims header payload ppt info ≡ Ok claims) ↔ Claims header payload ppt info claims

-- ---- the text of a field is bytes

digest_byte : (b : ℕ) → is_digest_byte b ≡ true → b < 256
digest_byte b h = grind (arith, nat_tests)

are_bytes : (text : List ℕ) → list_all is_digest_byte text ≡ true → IsBytes text
are_bytes [] h zero = omega arith
are_bytes [] h (suc i) = omega arith
are_bytes (b ∷ text) h zero = digest_byte b (and_parts (is_digest_byte b) (list_all is_digest_byte text) h).0
are_bytes (b ∷ text) h (suc i) = are_bytes text (and_parts (is_digest_byte b) (list_all is_digest_byte text) h).1 i

token_bytes : (value : List ℕ) (f : Parts) → FieldText f value → IsBytes f.token
unfolding FieldText
token_bytes value f h =
    subst IsBytes h.goes_on.goes_on.goes_on.goes_on.goes_on.goes_on.goes_on.goes_on.goes_on.goes_on.goes_on.token (are_bytes h.piece h.is_piece.each)

-- ---- what is known of each field

abbrev HasBytes : IdentityField → Type 0
HasBytes field = IsBytes field.parts.token

abbrev pub IsJudged : IdentityField → Type 0
IsJudged field = IsKnown field.parts.ppt × IsBytes field.parts.token

numbered_by : (number : ℕ) (value : List ℕ) (others : List IdentityField) (r : Result Parts FieldFault) → ((f : Parts) → r ≡ Ok f → FieldText f value) → Each HasBytes others
    → Each HasBytes (with_field number r others)
numbered_by number value others (Ok f) law all = (token_bytes value f (law f refl), all)
numbered_by number value others (Err fault) law all = all

numbered_bytes : FieldLaw → (number : ℕ) (values : List (List ℕ)) → Each HasBytes (numbered number values)
numbered_bytes law number [] = tt
numbered_bytes law number (value ∷ others) =
    numbered_by number value (numbered (suc number) others) (read_parts value) (λ f e. (law value f).0 e) (numbered_bytes law (suc number) others)

-- if each value is in the grammar, they are the fields of these values
pub are_numbered : FieldLaw → (number : ℕ) (values : List (List ℕ)) → Each IsFieldText values → AreNumbered number values (numbered number values)
are_numbered law number [] h = tt
are_numbered law number (value ∷ others) h =
    let read : read_parts value ≡ Ok h.0.0 = (law value h.0.0).1 h.0.1 in
    subst (λ (r : Result Parts FieldFault). AreNumbered number (value ∷ others) (with_field number r (numbered (suc number) others))) (sym read)
    (refl, h.0.1, are_numbered law (suc number) others h.1)

find_at : (test : IdentityField → Bool) (P : IdentityField → Type 0) (field : IdentityField) (fields : List IdentityField) (o : IdentityField) (t : Bool) → (test field ≡ true → P field)
    → (find test fields ≡ Some o → P o) → test field ≡ t → cond t (Some field) (find test fields) ≡ Some o → P o
find_at test P field fields o true one below e h = let same : field ≡ o = cc in subst P same (one e)
find_at test P field fields o false one below e h = below h

find_each : (test : IdentityField → Bool) (P : IdentityField → Type 0) → ((field : IdentityField) → test field ≡ true → HasBytes field → P field) → (fields : List IdentityField) → Each HasBytes fields
    → (o : IdentityField) → find test fields ≡ Some o → P o
find_each test P one [] all o h = absurd cc
find_each test P one (field ∷ fields) all o h = find_at test P field fields o (test field) (λ e. one field e all.0) (find_each test P one fields all.1 o) refl h

filter_at : (test : IdentityField → Bool) (P : IdentityField → Type 0) (field : IdentityField) (fields : List IdentityField) (t : Bool) → (test field ≡ true → P field) → Each P (filter test fields)
    → test field ≡ t → Each P (cond t (field ∷ filter test fields) (filter test fields))
filter_at test P field fields true one below e = (one e, below)
filter_at test P field fields false one below e = below

filter_each : (test : IdentityField → Bool) (P : IdentityField → Type 0) → ((field : IdentityField) → test field ≡ true → HasBytes field → P field) → (fields : List IdentityField) → Each HasBytes fields
    → Each P (filter test fields)
filter_each test P one [] all = tt
filter_each test P one (field ∷ fields) all = filter_at test P field fields (test field) (λ e. one field e all.0) (filter_each test P one fields all.1) refl

origin_judged : (fields : List IdentityField) → Each HasBytes fields → (a b : Option IdentityField) → find (has_ppt (codes "shaken")) fields ≡ a → find lacks_ppt fields ≡ b → (o : IdentityField)
    → option_or a b ≡ Some o → IsJudged o
origin_judged fields all (Some x) b e f o h =
    find_each (has_ppt (codes "shaken")) IsJudged (λ field is bytes. (known_with field is, bytes)) fields all o (e ∙ h)
origin_judged fields all None b e f o h = find_each lacks_ppt IsJudged (λ field is bytes. (known_without field is, bytes)) fields all o (f ∙ h)

with_origin : (o : Option IdentityField) (others : List IdentityField) → ((field : IdentityField) → o ≡ Some field → IsJudged field) → Each IsJudged others → Each IsJudged (option_to_list o ++ others)
with_origin None others one all = all
with_origin (Some field) others one all = (one field refl, all)

pub are_judged : FieldLaw → (number : ℕ) (values : List (List ℕ)) → Each IsJudged (judged_fields (numbered number values))
are_judged law number values =
    let fields = numbered number values in
    let all = numbered_bytes law number values in
    with_origin (originating fields) (links fields) (origin_judged fields all (find (has_ppt (codes "shaken")) fields) (find lacks_ppt fields) refl refl)
    (filter_each (has_ppt (codes "div")) IsJudged (λ field is bytes. (known_link field is, bytes)) fields all)

-- ---- what is read is what the text says

claims_by : (said : Facts) (field : IdentityField) (token : TokenView) (one : Reading) (r : Result ClaimsView ClaimFault) → TokenText field.parts.token (given_to_compact said field.parts) token
    → ((claims : ClaimsView) → r ≡ Ok claims → Claims token.header token.payload field.parts.ppt field.parts.info claims) → marked_or_part token.signing (mark_of field.number token) r ≡ Ok one → IsRead said field one
claims_by said field token one (Ok claims) text law h =
    let same : reading claims token.signing (mark_of field.number token) ≡ one = cc in
    subst (IsRead said field) same (record { token = token; text = text; claims = law claims refl; signing = refl; mark = refl; number = refl })
claims_by said field token one (Err fault) text law h = absurd cc

token_by : ClaimsLaw → (said : Facts) (field : IdentityField) (one : Reading) (r : Result TokenView TokenFault) → IsKnown field.parts.ppt
    → ((token : TokenView) → r ≡ Ok token → TokenText field.parts.token (given_to_compact said field.parts) token) → reading_by field r ≡ Ok one → IsRead said field one
token_by claims said field one (Ok token) known law h =
    claims_by said field token one (read_claims token.header token.payload field.parts.ppt field.parts.info) (law token refl)
    (λ x e. (claims token.header token.payload field.parts.ppt field.parts.info x known).0 e) h
token_by claims said field one (Err fault) known law h = absurd cc

is_read : TokenFoundLaw → ClaimsLaw → (said : Facts) (field : IdentityField) (one : Reading) → IsJudged field → read_field said field ≡ Ok one → IsRead said field one
unfolding read_field
is_read found claims said field one judged h =
    token_by claims said field one (read_token (given_to_compact said field.parts) field.parts.token) judged.0 (λ token e. found field.parts.token (given_to_compact said field.parts) token judged.1 e) h

read_again : TokenLaw → ClaimsLaw → (said : Facts) (field : IdentityField) (one : Reading) → IsJudged field → IsRead said field one → read_field said field ≡ Ok one
unfolding read_field
read_again tokens claims said field one judged h =
    ap (reading_by field) (tokens field.parts.token (given_to_compact said field.parts) h.token h.text)
    ∙ ap (marked_or_part h.token.signing (mark_of field.number h.token)) ((claims h.token.header h.token.payload field.parts.ppt field.parts.info one.passport judged.0).1 h.claims)
    ∙ ap (λ x. Ok (reading one.passport x (mark_of field.number h.token))) (sym h.signing) ∙ ap (λ x. Ok (reading one.passport one.signing x)) (sym h.mark)

-- ---- the rule

pub unreadable_means : TokenLaw → TokenFoundLaw → ClaimsLaw → (said : Facts) (field : IdentityField) → IsJudged field → (unreadable said field ≡ None) ↔ CanBeRead said field
unreadable_means tokens found claims said field judged = (
  (λ h. let r = read_there said field h in (r.0, is_read found claims said field r.0 judged r.1)),
  (λ (h : CanBeRead said field). read_one said field h.0 (read_again tokens claims said field h.0 judged h.1)),
)

pub tokens_mean : FieldLaw → TokenLaw → TokenFoundLaw → ClaimsLaw → (said : Facts) (values : List (List ℕ))
    → (each (unreadable said) (judged_fields (numbered 1 values)) ≡ None) ↔ Each (CanBeRead said) (judged_fields (numbered 1 values))
tokens_mean fields tokens found claims said values =
    each_means_of (unreadable said) IsJudged (CanBeRead said) (unreadable_means tokens found claims said) (judged_fields (numbered 1 values)) (are_judged fields 1 values)

all_read : TokenLaw → ClaimsLaw → (said : Facts) (fields : List IdentityField) → Each IsJudged fields → Each (CanBeRead said) fields → AreRead said fields (readings_of said fields)
all_read tokens claims said [] judged h = tt
all_read tokens claims said (field ∷ fields) judged h =
    let one = readings_one said field fields h.0.0 (read_again tokens claims said field h.0.0 judged.0 h.0.1) in
    subst (AreRead said (field ∷ fields)) (sym one) (h.0.1, all_read tokens claims said fields judged.1 h.1)

pub speaks_of_read : FieldLaw → TokenLaw → ClaimsLaw → (said : Facts) (values : List (List ℕ)) → Each (CanBeRead said) (judged_fields (numbered 1 values))
    → AreRead said (judged_fields (numbered 1 values)) (readings_of said (judged_fields (numbered 1 values)))
speaks_of_read fields tokens claims said values h = all_read tokens claims said (judged_fields (numbered 1 values)) (are_judged fields 1 values) h
