-- Each of the rules of the call is broken where its words say.
use Rattle.std.proofs.Common.{◌≡◌, ◌↔◌, ℕ, suc, ◌+◌, ◌<◌, ◌≤◌, nat_lt, Bool, true, false, cond, codes, List, [], ◌∷◌, ◌++◌, length, length-append, append_assoc, Option, Some, None, Result, Ok, Err, refl, sym, ◌∙◌, ap, arith}
use Rattle.std.specs.Prelude.{unwrap_or}
use Rattle.std.proofs.lemmas.Bool.Decides.{nat_tests}
use Rattle.std.proofs.lemmas.Slice.Eq.{bytes_eq-Decides}
use Rattle.identity_header.specs.Parts.{Parts}
use Rattle.identity_header.specs.Read.{read as read_parts}
use Rattle.identity_header.specs.declared.field.FieldFault.{FieldFault}
use Rattle.passport_claims.specs.Fault.{fault_number as claim_number}
use Rattle.passport_claims.specs.OrderReading.{order_of}
use Rattle.passport_claims.specs.Passport.{ClaimsView, is_text}
use Rattle.passport_claims.specs.Read.{read_claims}
use Rattle.passport_claims.specs.declared.fault.ClaimFault.{ClaimFault}
use Rattle.passport_claims.specs.declared.order.ChainFault.{ChainFault}
use Rattle.passport_json.specs.Fault.{fault_number as token_number}
use Rattle.passport_json.specs.Token.{read_token}
use Rattle.passport_json.specs.View.{TokenView}
use Rattle.passport_json.specs.declared.fault.TokenFault.{TokenFault}
use Rattle.sip_message.specs.Accessors.{is_invite}
use Rattle.sip_message.specs.Head.{Head}
use Rattle.sip_message.specs.Message.{MessageView}
use Rattle.sip_message.specs.Reading.{read}
use Rattle.sip_message.specs.declared.fault.FormFault.{FormFault}
use Rattle.verify_rules.specs.Call.{IdentityField, Mark, Reading, called_by, given_to_compact, judged_fields, mark_of, marked_or_part, numbered, passports_of, read_field, reading_by, turn_of}
use Rattle.verify_rules.specs.Places.{AtFirst, AtFirstField, BadFieldAt, IsFirstWrong, IsUnreadableAs, NoInviteAt, NoOrderAt, NoPart, bad_text, by_claims, by_token, no_message, other_method, too_many}
use Rattle.verify_rules.specs.Rules.{bad_field, bad_or_later, each, field_at, foreign_alg, is_es256, is_stale, no_invite, no_order, other_calling, place, stale, unreadable, unreadable_at}
use Rattle.verify_rules.specs.Words.{CanBeRead, Each, IsEs256, IsFieldText, IsFresh, IsFrom}
use Rattle.verify_rules.specs.declared.facts.Facts.{Facts}
use Rattle.verify_rules.specs.declared.refusal.Place.{Place}
use Rattle.verify_rules.specs.declared.settings.Settings.{Settings}
use Rattle.verify_rules.proofs.PlaceLaws.{each_wrong, each_wrong_of}
use Rattle.verify_rules.proofs.TokenWords.{ClaimsLaw, FieldLaw, IsJudged, TokenFoundLaw, TokenLaw, are_judged, unreadable_means}
use Rattle.verify_rules.proofs.TurnSteps.{field_there}
use Rattle.verify_rules.proofs.WentLaws.{called_of}
use Rattle.verify_rules.proofs.WordSteps.{alg_means, fresh_means, orig_means}

-- a test that decides whether there is a place
unless_at : (t : Bool) (here bad : Place) → cond t None (Some here) ≡ Some bad → bad ≡ here
unless_at true here bad h = absurd cc
unless_at false here bad h = cc

where_at : (t : Bool) (here bad : Place) → cond t (Some here) None ≡ Some bad → bad ≡ here
where_at true here bad h = cc
where_at false here bad h = absurd cc

-- ---- rule 1

invite_at : (bytes : List ℕ) (message : MessageView) (bad : Place) (t : Bool) → Head bytes message → is_invite message ≡ t → cond t None (Some (place 0 0)) ≡ Some bad → NoInviteAt bytes bad
invite_at bytes message bad true head e h = absurd cc
invite_at bytes message bad false head e h =
    other_method message head (λ is. let yes : is_invite message ≡ true = (bytes_eq-Decides message.method (codes "INVITE")).1 is in absurd cc) (unless_at false (place 0 0) bad h)

message_at : (bytes : List ℕ) (bad : Place) (r : Result MessageView FormFault) → ((message : MessageView) → r ≡ Ok message → Head bytes message) → read bytes ≡ r → no_invite r ≡ Some bad
    → NoInviteAt bytes bad
message_at bytes bad (Ok message) heads e h = invite_at bytes message bad (is_invite message) (heads message refl) refl h
message_at bytes bad (Err fault) heads e h = no_message fault e cc

pub invite_place : (bytes : List ℕ) → ((bytes : List ℕ) (message : MessageView) → (read bytes ≡ Ok message) ↔ Head bytes message) → (bad : Place) → no_invite (read bytes) ≡ Some bad
    → NoInviteAt bytes bad
invite_place bytes law bad h = message_at bytes bad (read bytes) (λ message e. (law bytes message).0 e) refl h

-- ---- rule 3

each_more : {A : Type 0} (P : A → Type 0) (items : List A) (one : A) → Each P items → P one → Each P (items ++ one ∷ [])
each_more P [] one all p = (p, tt)
each_more P (item ∷ items) one all p = (all.0, each_more P items one all.1 p)

text_at : FieldLaw → (whole before : List (List ℕ)) (value : List ℕ) (others : List (List ℕ)) (number : ℕ) (bad : Place) (r : Result Parts FieldFault) → whole ≡ before ++ value ∷ others
    → length before + 1 ≡ number → number ≤ 16 → Each IsFieldText before → read_parts value ≡ r → ((parts : Parts) → r ≡ Ok parts → bad_field (suc number) others ≡ Some bad → BadFieldAt whole bad)
    → bad_or_later number r (bad_field (suc number) others) ≡ Some bad → BadFieldAt whole bad
text_at law whole before value others number bad (Ok parts) split count few all e below h = below parts refl h
text_at law whole before value others number bad (Err fault) split count few all e below h =
    let w : IsFirstWrong IsFieldText whole value = record {
      before = before;
      behind = others;
      split = split;
      hold = all;
      fails = λ p. let is : Err fault ≡ Ok p.0 = sym e ∙ (law value p.0).1 p.1 in absurd cc;
    } in
    let at : bad ≡ place number fault.place = cc in
    bad_text value w (omega (arith, count, few)) fault e (at ∙ ap (λ n. place n fault.place) (sym count))

limit_at : (whole before : List (List ℕ)) (value : List ℕ) (others : List (List ℕ)) (number : ℕ) (bad : Place) (t : Bool) → whole ≡ before ++ value ∷ others → length before + 1 ≡ number
    → length before ≤ 16 → Each IsFieldText before → nat_lt 16 number ≡ t → (number ≤ 16 → bad_or_later number (read_parts value) (bad_field (suc number) others) ≡ Some bad → BadFieldAt whole bad)
    → cond t (Some (place 17 0)) (bad_or_later number (read_parts value) (bad_field (suc number) others)) ≡ Some bad → BadFieldAt whole bad
limit_at whole before value others number bad true split count few all e below h =
    let high : 16 < number = grind (arith, nat_tests) in too_many before value others split (omega (arith, count, few, high)) all cc
limit_at whole before value others number bad false split count few all e below h = below (grind (arith, nat_tests)) h

fields_at : FieldLaw → (whole before values : List (List ℕ)) (number : ℕ) (bad : Place) → whole ≡ before ++ values → length before + 1 ≡ number → length before ≤ 16 → Each IsFieldText before
    → bad_field number values ≡ Some bad → BadFieldAt whole bad
fields_at law whole before [] number bad split count few all h = absurd cc
fields_at law whole before (value ∷ others) number bad split count few all h =
    limit_at whole before value others number bad (nat_lt 16 number) split count few all refl
    (λ low rest.
    text_at law whole before value others number bad (read_parts value) split count low all refl
    (λ parts e more.
    let size : length (before ++ value ∷ []) ≡ length before + 1 = length-append before (value ∷ []) in
    fields_at law whole (before ++ value ∷ []) others (suc number) bad (split ∙ sym (append_assoc before (value ∷ []) others)) (omega (arith, size, count)) (omega (arith, size, count, low))
    (each_more IsFieldText before value all (parts, (law value parts).0 e)) more)
    rest)
    h

pub fields_place : FieldLaw → (values : List (List ℕ)) (bad : Place) → bad_field 1 values ≡ Some bad → BadFieldAt values bad
fields_place law values bad h = fields_at law values [] values 1 bad refl refl (omega arith) tt h

-- ---- rule 5

pub alg_place : (fields : List IdentityField) (bad : Place) → each foreign_alg fields ≡ Some bad → AtFirstField IsEs256 NoPart fields bad
alg_place fields bad h =
    let w = each_wrong foreign_alg IsEs256 alg_means fields bad h in
    record { field = w.wrong; first = w.is; part = 0; is_part = refl; stands = unless_at (is_es256 w.wrong.parts.alg) (place w.wrong.number 0) bad w.at }

-- ---- rule 6

claims_at : (said : Facts) (field : IdentityField) (token : TokenView) (mark : Mark) (part : ℕ) (r : Result ClaimsView ClaimFault) → read_token (given_to_compact said field.parts) field.parts.token ≡ Ok token
    → read_claims token.header token.payload field.parts.ppt field.parts.info ≡ r → marked_or_part token.signing mark r ≡ Err part → IsUnreadableAs said field part
claims_at said field token mark part (Ok claims) e f h = absurd cc
claims_at said field token mark part (Err fault) e f h =
    let is : 10 + unwrap_or (claim_number fault) 0 ≡ part = cc in
    by_claims token fault e f (λ number known. sym is ∙ ap (λ (x : Option ℕ). 10 + unwrap_or x 0) known)

token_at : (said : Facts) (field : IdentityField) (part : ℕ) (r : Result TokenView TokenFault) → read_token (given_to_compact said field.parts) field.parts.token ≡ r → reading_by field r ≡ Err part
    → IsUnreadableAs said field part
token_at said field part (Ok token) e h =
    claims_at said field token (mark_of field.number token) part (read_claims token.header token.payload field.parts.ppt field.parts.info) e refl h
token_at said field part (Err fault) e h =
    let is : unwrap_or (token_number fault) 0 ≡ part = cc in by_token fault e (λ number known. sym is ∙ ap (λ (x : Option ℕ). unwrap_or x 0) known)

read_at : (said : Facts) (field : IdentityField) (part : ℕ) → read_field said field ≡ Err part → IsUnreadableAs said field part
unfolding read_field
read_at said field part h = token_at said field part (read_token (given_to_compact said field.parts) field.parts.token) refl h

unread_by : (said : Facts) (field : IdentityField) (bad : Place) (r : Result Reading ℕ) → read_field said field ≡ r → unreadable_at field.number r ≡ Some bad
    → (part : ℕ) × IsUnreadableAs said field part × (bad ≡ place field.number part)
unread_by said field bad (Ok one) e h = absurd cc
unread_by said field bad (Err part) e h = (part, read_at said field part e, cc)

unread_at : (said : Facts) (field : IdentityField) (bad : Place) → unreadable said field ≡ Some bad → (part : ℕ) × IsUnreadableAs said field part × (bad ≡ place field.number part)
unfolding unreadable
unread_at said field bad h = unread_by said field bad (read_field said field) refl h

pub tokens_place : FieldLaw → TokenLaw → TokenFoundLaw → ClaimsLaw → (said : Facts) (values : List (List ℕ)) (bad : Place) → each (unreadable said) (judged_fields (numbered 1 values)) ≡ Some bad
    → AtFirstField (CanBeRead said) (IsUnreadableAs said) (judged_fields (numbered 1 values)) bad
tokens_place fields tokens found claims said values bad h =
    let w = each_wrong_of (unreadable said) IsJudged (CanBeRead said) (unreadable_means tokens found claims said) (judged_fields (numbered 1 values)) bad (are_judged fields 1 values) h in
    let u = unread_at said w.wrong bad w.at in
    record { field = w.wrong; first = w.is; part = u.0; is_part = u.1; stands = u.2 }

-- ---- rule 7

calling_at : (calling : Option (List ℕ)) (one : Reading) (bad : Place) → other_calling calling one ≡ Some bad → bad ≡ place one.mark.field 0
unfolding other_calling
calling_at calling one bad h = unless_at (is_text one.passport.orig calling) (place one.mark.field 0) bad h

pub calling_place : (calling : Option (List ℕ)) (readings : List Reading) (bad : Place) → each (other_calling calling) readings ≡ Some bad → AtFirst (IsFrom calling) NoPart readings bad
calling_place calling readings bad h =
    let w = each_wrong (other_calling calling) (IsFrom calling) (orig_means calling) readings bad h in
    record { one = w.wrong; first = w.is; part = 0; is_part = refl; stands = calling_at calling w.wrong bad w.at }

-- ---- rule 8

order_by : (said : Facts) (origin : Reading) (others : List Reading) (bad : Place) (r : Result (List ℕ) ChainFault) → order_of origin.passport (passports_of others) (called_by said others) ≡ r
    → no_order (origin ∷ others) r ≡ Some bad → NoOrderAt said (origin ∷ others) bad
order_by said origin others bad (Ok turn) e h = absurd cc
order_by said origin others bad (Err fault) e h =
    let at : bad ≡ place (field_at (origin ∷ others) fault.link) fault.kind = cc in
    record {
      of = called_of said origin others;
      fault = fault;
      is = e;
      field = λ one there. ap (λ (x : Place). x.field) at ∙ sym (field_there (origin ∷ others) fault.link one there);
      part = ap (λ (x : Place). x.part) at;
    }

pub order_place : (said : Facts) (readings : List Reading) (bad : Place) → no_order readings (turn_of said readings) ≡ Some bad → NoOrderAt said readings bad
order_place said [] bad h = absurd cc
order_place said (origin ∷ others) bad h = order_by said origin others bad (order_of origin.passport (passports_of others) (called_by said others)) refl h

-- ---- rule 9

stale_at : (settings : Settings) (moment : ℕ) (one : Reading) (bad : Place) → stale settings moment one ≡ Some bad → bad ≡ place one.mark.field 0
unfolding stale
stale_at settings moment one bad h = where_at (is_stale settings moment one.passport.iat) (place one.mark.field 0) bad h

pub fresh_place : (settings : Settings) (moment : ℕ) (readings : List Reading) (bad : Place) → each (stale settings moment) readings ≡ Some bad → AtFirst (IsFresh settings moment) NoPart readings bad
fresh_place settings moment readings bad h =
    let w = each_wrong (stale settings moment) (IsFresh settings moment) (fresh_means settings moment) readings bad h in
    record { one = w.wrong; first = w.is; part = 0; is_part = refl; stands = stale_at settings moment w.wrong bad w.at }
