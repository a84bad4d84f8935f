-- Where the rules of the call are broken, in words. A place has the number of an Identity field, or 0 for a rule that
-- speaks of none, and a part, which is 0 if the rule gives it none.
use Rattle.std.specs.Prelude.{◌≡◌, ⊤, ℕ, ◌+◌, ◌<◌, List, ◌∷◌, ◌++◌, length, codes, Some, Result, Ok, Err}
use Rattle.std.specs.List.{slice_get}
use Rattle.identity_header.specs.Read.{read as read_parts}
use Rattle.identity_header.specs.declared.field.FieldFault.{FieldFault}
use Rattle.passport_claims.specs.Fault.{fault_number as claim_number}
use Rattle.passport_claims.specs.OrderReading.{order_of}
use Rattle.passport_claims.specs.Read.{read_claims}
use Rattle.passport_claims.specs.declared.fault.ClaimFault.{ClaimFault}
use Rattle.passport_claims.specs.declared.order.ChainFault.{ChainFault}
use Rattle.passport_json.specs.Fault.{fault_number as token_number}
use Rattle.passport_json.specs.Token.{read_token}
use Rattle.passport_json.specs.View.{TokenView}
use Rattle.passport_json.specs.declared.fault.TokenFault.{TokenFault}
use Rattle.sip_message.specs.Head.{Head}
use Rattle.sip_message.specs.Message.{MessageView}
use Rattle.sip_message.specs.Reading.{read}
use Rattle.sip_message.specs.declared.fault.FormFault.{FormFault}
use Rattle.verify_rules.specs.Call.{Call, IdentityField, Reading, facts, fields_of, given_to_compact, in_call_order}
use Rattle.verify_rules.specs.Call.{in_message, judged_fields, passports_of, values_of}
use Rattle.verify_rules.specs.Rules.{place}
use Rattle.verify_rules.specs.Screened.{ScreenedView}
use Rattle.verify_rules.specs.Went.{AreCalled}
use Rattle.verify_rules.specs.Words.{CanBeRead, Each, IsEs256, IsFieldText, IsFresh, IsFrom}
use Rattle.verify_rules.specs.declared.facts.Facts.{Facts}
use Rattle.verify_rules.specs.declared.refusal.Place.{Place}
use Rattle.verify_rules.specs.declared.refusal.Refusal.{Refusal}
use Rattle.verify_rules.specs.declared.refusal.ScreenFault.{ScreenFault}
use Rattle.verify_rules.specs.declared.refusal.ScreenFault.TheVariants.{Refused, Memory}

-- of these it doesn't hold of this one, and it holds of all before it
pub record IsFirstWrong {A : Type 0} (Holds : A → Type 0) (items : List A) (wrong : A) : Type 0 where
  pub before : List A
  pub behind : List A
  pub split : items ≡ before ++ wrong ∷ behind
  pub hold : Each Holds before
  pub fails : Holds wrong → ⊥

-- 1: the bytes are no message, at the place of its fault, or one whose method isn't INVITE
pub data NoInviteAt (bytes : List ℕ) (bad : Place) : Type 0 where
  no_message : (fault : FormFault) → read bytes ≡ Err fault → bad ≡ place 0 fault.place → NoInviteAt bytes bad
  other_method : (message : MessageView) → Head bytes message → (message.method ≡ codes "INVITE" → ⊥)
      → bad ≡ place 0 0 → NoInviteAt bytes bad

-- 3: the first value outside the grammar, which is one of the first 16, at the place of its fault; or these are in the
-- grammar, and there are more
pub data BadFieldAt (values : List (List ℕ)) (bad : Place) : Type 0 where
  bad_text : (value : List ℕ) (w : IsFirstWrong IsFieldText values value) → length w.before < 16 → (fault : FieldFault)
      → read_parts value ≡ Err fault → bad ≡ place (length w.before + 1) fault.place → BadFieldAt values bad
  too_many : (most : List (List ℕ)) (next : List ℕ) (behind : List (List ℕ)) → values ≡ most ++ next ∷ behind
      → length most ≡ 16 → Each IsFieldText most → bad ≡ place 17 0 → BadFieldAt values bad

-- 6: the number of the token's fault, 1 to 5, or 10 and that of the claims' fault, 1 to 10
pub data IsUnreadableAs (said : Facts) (field : IdentityField) (part : ℕ) : Type 0 where
  by_token : (fault : TokenFault) → read_token (given_to_compact said field.parts) field.parts.token ≡ Err fault
      → ((number : ℕ) → token_number fault ≡ Some number → part ≡ number) → IsUnreadableAs said field part
  by_claims : (token : TokenView) (fault : ClaimFault)
      → read_token (given_to_compact said field.parts) field.parts.token ≡ Ok token
      → read_claims token.header token.payload field.parts.ppt field.parts.info ≡ Err fault
      → ((number : ℕ) → claim_number fault ≡ Some number → part ≡ 10 + number) → IsUnreadableAs said field part

-- 8: the link that shows the fault, or the originating PASSporT, whose number is 0; and the fault's kind
pub record NoOrderAt (said : Facts) (readings : List Reading) (bad : Place) : Type 0 where
  pub of : AreCalled said readings
  pub fault : ChainFault
  pub is : order_of of.origin.passport (passports_of of.links) of.called ≡ Err fault
  pub field : (one : Reading) → slice_get readings fault.link ≡ Some one → bad.field ≡ one.mark.field
  pub part : bad.part ≡ fault.kind

-- it is at the first of these fields of which this doesn't hold, and there at this part
pub record AtFirstField (Holds : IdentityField → Type 0) (Part : IdentityField → ℕ → Type 0)
    (fields : List IdentityField) (bad : Place) : Type 0 where
  pub field : IdentityField
  pub first : IsFirstWrong Holds fields field
  pub part : ℕ
  pub is_part : Part field part
  pub stands : bad ≡ place field.number part

-- it is at the first of these PASSporTs of which this doesn't hold
pub record AtFirst (Holds : Reading → Type 0) (Part : Reading → ℕ → Type 0) (readings : List Reading)
    (bad : Place) : Type 0 where
  pub one : Reading
  pub first : IsFirstWrong Holds readings one
  pub part : ℕ
  pub is_part : Part one part
  pub stands : bad ≡ place one.mark.field part

-- it has no parts
abbrev pub NoPart : {A : Type 0} → A → ℕ → Type 0
NoPart one part = part ≡ 0

-- where each rule is broken, if it is the one that refuses the call
pub record IsPlaced (bytes : List ℕ) (call : Call) (refused : Refusal) : Type 0 where
  pub invite : refused.rule ≡ 1 → NoInviteAt bytes refused.place
  pub identity : refused.rule ≡ 2 → refused.place ≡ place 0 0
  pub fields : refused.rule ≡ 3 → BadFieldAt (values_of call) refused.place
  pub originating : refused.rule ≡ 4 → refused.place ≡ place 0 0
  pub algorithms : refused.rule ≡ 5 → AtFirstField IsEs256 NoPart (judged_fields (fields_of call)) refused.place
  pub tokens : refused.rule ≡ 6 → AtFirstField (CanBeRead (facts call)) (IsUnreadableAs (facts call))
      (judged_fields (fields_of call)) refused.place
  pub calling : refused.rule ≡ 7 → AtFirst (IsFrom (facts call).calling) NoPart (in_message call) refused.place
  pub order : refused.rule ≡ 8 → NoOrderAt (facts call) (in_message call) refused.place
  pub fresh : refused.rule ≡ 9 → AtFirst (IsFresh call.settings call.moment) NoPart (in_call_order call) refused.place

abbrev pub SpeaksOfPlace : List ℕ → Call → Result ScreenedView ScreenFault → Type 0
SpeaksOfPlace bytes call (Ok screened) = ⊤
SpeaksOfPlace bytes call (Err (Refused refused)) = IsPlaced bytes call refused
SpeaksOfPlace bytes call (Err Memory) = ⊤
