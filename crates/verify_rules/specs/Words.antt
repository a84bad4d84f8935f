-- The rules in their own words: what holds of a message, its Identity fields and their PASSporTs if a rule holds, and
-- which rule is the first that doesn't.
use Rattle.std.specs.Prelude.{◌≡◌, ⊤, ◌⊎◌, ℕ, suc, ◌+◌, ◌<◌, ◌≤◌, List, [], ◌∷◌, length, codes, Option, Some, None}
use Rattle.std.specs.Prelude.{Result, Ok, Err}
use Rattle.identity_header.specs.FieldText.{FieldText}
use Rattle.identity_header.specs.Parts.{Parts}
use Rattle.passport_claims.specs.Claims.{Claims}
use Rattle.passport_claims.specs.Order.{IsOrder}
use Rattle.passport_json.specs.Token.{TokenText}
use Rattle.passport_json.specs.View.{TokenView}
use Rattle.sip_message.specs.Head.{Head}
use Rattle.sip_message.specs.Message.{MessageView}
use Rattle.verify_rules.specs.Call.{Call, IdentityField, Reading, called_by, facts, fields_of, in_call_order}
use Rattle.verify_rules.specs.Call.{in_message, judged_fields, given_to_compact, mark_of, passports_of, values_of}
use Rattle.verify_rules.specs.Screened.{ScreenedView}
use Rattle.verify_rules.specs.Went.{WentSo}
use Rattle.verify_rules.specs.declared.facts.Facts.{Facts}
use Rattle.verify_rules.specs.declared.refusal.ScreenFault.{ScreenFault}
use Rattle.verify_rules.specs.declared.refusal.ScreenFault.TheVariants.{Refused, Memory}
use Rattle.verify_rules.specs.declared.settings.Settings.{Settings}

-- it holds of each of these
abbrev pub Each : {A : Type 0} → (A → Type 0) → List A → Type 0
Each P [] = ⊤
Each P (one ∷ others) = P one × Each P others

-- it holds of one of these
abbrev pub OfOne : {A : Type 0} → (A → Type 0) → List A → Type 0
OfOne P [] = ⊥
OfOne P (one ∷ others) = P one ⊎ OfOne P others

-- ---- what each rule says

-- 1: the bytes are the head of a message whose method is INVITE (RFC 3261, section 7)
pub record IsInvite (bytes : List ℕ) : Type 0 where
  pub message : MessageView
  pub head : Head bytes message
  pub method : message.method ≡ codes "INVITE"

-- 3: there are at most 16 Identity fields, each in the grammar (RFC 8224, section 4.1)
abbrev pub IsFieldText : List ℕ → Type 0
IsFieldText value = (parts : Parts) × FieldText parts value

pub record AreFewFields (values : List (List ℕ)) : Type 0 where
  pub few : length values ≤ 16
  pub texts : Each IsFieldText values

-- the fields of these values, with numbers from this one on
abbrev pub AreNumbered : ℕ → List (List ℕ) → List IdentityField → Type 0
AreNumbered number [] [] = ⊤
AreNumbered number [] (field ∷ fields) = ⊥
AreNumbered number (value ∷ values) [] = ⊥
AreNumbered number (value ∷ values) (field ∷ fields) =
    (field.number ≡ number) × FieldText field.parts value × AreNumbered (suc number) values fields

-- 4: a field has the type `shaken` (RFC 8588), or none (RFC 8225)
abbrev pub MayOriginate : IdentityField → Type 0
MayOriginate field = (field.parts.ppt ≡ Some (codes "shaken")) ⊎ (field.parts.ppt ≡ None)

-- 5: the field's algorithm is ES256, which it is if none is given
abbrev pub IsEs256 : IdentityField → Type 0
IsEs256 field = (field.parts.alg ≡ None) ⊎ (field.parts.alg ≡ Some (codes "ES256"))

-- 6: the field's text is a token (RFC 8225, sections 3 and 7), with what the message and the field give for the compact
-- form, and header and payload say this; it is what was signed as the token, and the mark is the field's number, the
-- digest of that, and the signature
pub record IsRead (said : Facts) (field : IdentityField) (one : Reading) : Type 0 where
  pub token : TokenView
  pub text : TokenText field.parts.token (given_to_compact said field.parts) token
  pub claims : Claims token.header token.payload field.parts.ppt field.parts.info one.passport
  pub signing : one.signing ≡ token.signing
  pub mark : one.mark ≡ mark_of field.number token
  pub number : one.mark.field ≡ field.number

abbrev pub CanBeRead : Facts → IdentityField → Type 0
CanBeRead said field = (one : Reading) × IsRead said field one

-- these are the PASSporTs of these fields
abbrev pub AreRead : Facts → List IdentityField → List Reading → Type 0
AreRead said [] [] = ⊤
AreRead said [] (one ∷ readings) = ⊥
AreRead said (field ∷ fields) [] = ⊥
AreRead said (field ∷ fields) (one ∷ readings) = IsRead said field one × AreRead said fields readings

-- 7: the PASSporT is for the calling number
abbrev pub IsFrom : Option (List ℕ) → Reading → Type 0
IsFrom calling one = calling ≡ Some one.passport.orig

-- 8: the links have an order, from a number that the originating PASSporT calls to the called number (RFC 8946, section
-- 4.2)
abbrev pub HasOrder : Facts → List Reading → Type 0
HasOrder said [] = ⊤
HasOrder said (origin ∷ others) =
    (turn : List ℕ) × IsOrder origin.passport (passports_of others) (called_by said others) turn

abbrev pub CallHasOrder : Call → Type 0
CallHasOrder call = HasOrder (facts call) (in_message call)

-- 9: the PASSporT is not too old, and its iat not too far ahead
pub record IsFresh (settings : Settings) (moment : ℕ) (one : Reading) : Type 0 where
  pub not_old : moment ≤ one.passport.iat + settings.past
  pub not_early : one.passport.iat ≤ moment + settings.future

-- ---- what an answer says of a rule

-- a screened call meets it; a call that this rule refuses doesn't; one that a later rule refuses does
abbrev pub Means : ℕ → Type 0 → Result ScreenedView ScreenFault → Type 0
Means number P (Ok screened) = P
Means number P (Err (Refused refused)) = (refused.rule ≡ number → P → ⊥) × (number < refused.rule → P)
Means number P (Err Memory) = ⊤

-- the fields that are spoken of are the message's, counted from 1, if each is in the grammar
abbrev pub SpeaksOfFields : Call → Result ScreenedView ScreenFault → Type 0
SpeaksOfFields call (Ok screened) = AreNumbered 1 (values_of call) (fields_of call)
SpeaksOfFields call (Err (Refused refused)) = 3 < refused.rule → AreNumbered 1 (values_of call) (fields_of call)
SpeaksOfFields call (Err Memory) = ⊤

-- the PASSporTs that are spoken of are those of the judged fields, if they can be read
abbrev pub SpeaksOfRead : Call → Result ScreenedView ScreenFault → Type 0
SpeaksOfRead call (Ok screened) = AreRead (facts call) (judged_fields (fields_of call)) (in_message call)
SpeaksOfRead call (Err (Refused refused)) = 6 < refused.rule
    → AreRead (facts call) (judged_fields (fields_of call)) (in_message call)
SpeaksOfRead call (Err Memory) = ⊤

-- a screened call's PASSporTs come in the order in which it went; so do those of a call that a rule after the one on
-- their order refuses
abbrev pub SpeaksOfOrder : Call → Result ScreenedView ScreenFault → Type 0
SpeaksOfOrder call (Ok screened) = WentSo (facts call) (in_message call) screened.readings
SpeaksOfOrder call (Err (Refused refused)) = 8 < refused.rule
    → WentSo (facts call) (in_message call) (in_call_order call)
SpeaksOfOrder call (Err Memory) = ⊤

-- each of the nine rules
pub record SaysWords (bytes : List ℕ) (call : Call) (result : Result ScreenedView ScreenFault) : Type 0 where
  pub invite : Means 1 (IsInvite bytes) result
  pub identity : Means 2 (1 ≤ length (values_of call)) result
  pub fields : Means 3 (AreFewFields (values_of call)) result
  pub numbers : SpeaksOfFields call result
  pub originating : Means 4 (OfOne MayOriginate (fields_of call)) result
  pub algorithms : Means 5 (Each IsEs256 (judged_fields (fields_of call))) result
  pub tokens : Means 6 (Each (CanBeRead (facts call)) (judged_fields (fields_of call))) result
  pub read : SpeaksOfRead call result
  pub calling : Means 7 (Each (IsFrom (facts call).calling) (in_message call)) result
  pub order : Means 8 (CallHasOrder call) result
  pub went : SpeaksOfOrder call result
  pub fresh : Means 9 (Each (IsFresh call.settings call.moment) (in_call_order call)) result
