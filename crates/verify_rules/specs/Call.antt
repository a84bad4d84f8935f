-- What the rules see of a call: its moment, its message and the Identity fields of that (RFC 8224, section 4), and what
-- the PASSporTs of these say.
use Rattle.std.specs.Prelude.{ℕ, suc, ◌+◌, Bool, true, false, List, [], ◌∷◌, ◌++◌, map, filter, find, slice_index_or}
use Rattle.std.specs.Prelude.{codes, Option, Some, None, Result, Ok, Err, option_to_list, unwrap_or}
use Rattle.std.specs.List.{filter_map}
use Rattle.std.specs.Option.{option_or}
use Rattle.std.specs.Result.{result_ok}
use Rattle.identity_header.specs.Parts.{Parts}
use Rattle.identity_header.specs.Read.{read as read_parts}
use Rattle.identity_header.specs.declared.field.FieldFault.{FieldFault}
use Rattle.passport_claims.specs.Fault.{fault_number as claim_number}
use Rattle.passport_claims.specs.OrderReading.{order_of}
use Rattle.passport_claims.specs.Passport.{ClaimsView, is_text}
use Rattle.passport_claims.specs.Read.{read_claims}
use Rattle.passport_claims.specs.declared.fault.ClaimFault.{ClaimFault}
use Rattle.passport_claims.specs.declared.order.ChainFault.{ChainFault}
use Rattle.passport_json.specs.Compact.{CallView}
use Rattle.passport_json.specs.Fault.{fault_number as token_number}
use Rattle.passport_json.specs.Signed.{payload_in}
use Rattle.passport_json.specs.Signing.{Ticket}
use Rattle.passport_json.specs.Token.{read_token}
use Rattle.passport_json.specs.View.{TokenView}
use Rattle.passport_json.specs.declared.fault.TokenFault.{TokenFault}
use Rattle.serde_json.specs.Data.{Data}
use Rattle.sip_message.specs.Accessors.{calling_number, date, identities, target_number, to_number}
use Rattle.sip_message.specs.Message.{MessageView}
use Rattle.sip_message.specs.Reading.{read}
use Rattle.sip_message.specs.declared.fault.FormFault.{FormFault}
use Rattle.tn_values.specs.Local.{LocalView}
use Rattle.verify_rules.specs.declared.facts.Facts.{Facts}
use Rattle.verify_rules.specs.declared.settings.Settings.{Settings}

-- the settings, the moment at which the call came, in Unix seconds, and its message, or why the bytes are none
pub record Call : Type 0 where
  pub settings : Settings
  pub moment : ℕ
  pub message : Result MessageView FormFault

abbrev pub call_of : Settings → ℕ → List ℕ → Call
call_of settings moment bytes = record { settings = settings; moment = moment; message = read bytes }

-- a call whose message was read
abbrev pub read_call : Settings → ℕ → MessageView → Call
read_call settings moment message = record { settings = settings; moment = moment; message = Ok message }

-- ---- the Identity fields

-- an Identity field with its number, counted from 1 in message order
pub record IdentityField : Type 0 where
  pub number : ℕ
  pub parts : Parts

abbrev pub values_in : Result MessageView FormFault → List (List ℕ)
values_in (Ok message) = identities message
values_in (Err fault) = []

-- the values of the Identity fields in message order
abbrev pub values_of : Call → List (List ℕ)
values_of call = values_in call.message

abbrev pub with_field : ℕ → Result Parts FieldFault → List IdentityField → List IdentityField
with_field number (Ok parts) others = record { number = number; parts = parts } ∷ others
with_field number (Err fault) others = others

-- the fields whose value is in the grammar, numbered from this number on
abbrev pub numbered : ℕ → List (List ℕ) → List IdentityField
numbered number [] = []
numbered number (value ∷ others) = with_field number (read_parts value) (numbered (suc number) others)

abbrev pub fields_of : Call → List IdentityField
fields_of call = numbered 1 (values_of call)

abbrev pub is_absent : Option (List ℕ) → Bool
is_absent None = true
is_absent (Some value) = false

abbrev pub has_ppt : List ℕ → IdentityField → Bool
has_ppt ppt field = is_text ppt field.parts.ppt

abbrev pub lacks_ppt : IdentityField → Bool
lacks_ppt field = is_absent field.parts.ppt

-- the field of the PASSporT that the originating side signed: the first with ppt `shaken` (RFC 8588), or else the first
-- without a ppt
abbrev pub originating : List IdentityField → Option IdentityField
originating fields = option_or (find (has_ppt (codes "shaken")) fields) (find lacks_ppt fields)

-- the fields of diversions, in message order (RFC 8946)
abbrev pub links : List IdentityField → List IdentityField
links fields = filter (has_ppt (codes "div")) fields

-- the fields that are judged: the originating one and then the links
abbrev pub judged_fields : List IdentityField → List IdentityField
judged_fields fields = option_to_list (originating fields) ++ links fields

-- ---- the PASSporTs

-- what a message says beside its Identity fields: its Date, the number that calls, and the numbers of To and of the
-- request URI (RFC 8224, section 4.1)
abbrev pub facts_of : LocalView → MessageView → Facts
facts_of local message = record {
  date = date message;
  calling = calling_number message local;
  to = to_number message local;
  target = target_number message local;
}

abbrev pub facts_in : LocalView → Result MessageView FormFault → Facts
facts_in local (Ok message) = facts_of local message
facts_in local (Err fault) = record { date = None; calling = None; to = None; target = None }

abbrev pub facts : Call → Facts
facts call = facts_in call.settings.local call.message

-- what a PASSporT in its compact form leaves to the message and to its field (RFC 8225, section 7)
abbrev pub given_to_compact : Facts → Parts → CallView
given_to_compact said parts =
    record { iat = said.date; orig = said.calling; dest = said.to; info = parts.info; ppt = parts.ppt }

-- the mark of a PASSporT: the number of its Identity field, counted from 1, the digest of what was signed, and the
-- signature
pub record Mark : Type 0 where
  pub field : ℕ
  pub digest : List ℕ
  pub signature : List ℕ

-- a PASSporT as it is read: what it says, what was signed as it, and its mark, which is the number of its field, its
-- ticket and its signature
pub record Reading : Type 0 where
  pub passport : ClaimsView
  pub signing : List ℕ
  pub mark : Mark

abbrev pub reading : ClaimsView → List ℕ → Mark → Reading
reading passport signing mark = record { passport = passport; signing = signing; mark = mark }

-- the payload in what was signed (RFC 8225, section 5; RFC 7515, section 2)
abbrev pub payload_of : Reading → Option Data
payload_of one = payload_in one.signing

abbrev pub mark_of : ℕ → TokenView → Mark
mark_of number token = record { field = number; digest = Ticket token.signing; signature = token.signature }

-- claims are numbered from 11 on
abbrev pub marked_or_part : List ℕ → Mark → Result ClaimsView ClaimFault → Result Reading ℕ
marked_or_part signing mark (Ok claims) = Ok (reading claims signing mark)
marked_or_part signing mark (Err fault) = Err (10 + unwrap_or (claim_number fault) 0)

abbrev pub reading_by : IdentityField → Result TokenView TokenFault → Result Reading ℕ
reading_by field (Ok token) = marked_or_part token.signing (mark_of field.number token)
    (read_claims token.header token.payload field.parts.ppt field.parts.info)
reading_by field (Err fault) = Err (unwrap_or (token_number fault) 0)

-- the PASSporT of a field, or the number of the first check of its token or its claims that it breaks
unfoldable pub read_field : Facts → IdentityField → Result Reading ℕ
read_field said field = reading_by field (read_token (given_to_compact said field.parts) field.parts.token)

abbrev pub is_read : Facts → IdentityField → Option Reading
is_read said field = result_ok (read_field said field)

abbrev pub readings_of : Facts → List IdentityField → List Reading
readings_of said fields = filter_map (is_read said) fields

-- the judged PASSporTs in message order: the originating one and then the links
abbrev pub in_message : Call → List Reading
in_message call = readings_of (facts call) (judged_fields (fields_of call))

-- ---- the order of a diverted call (RFC 8946, section 4.2)

abbrev pub passport_in : Reading → ClaimsView
passport_in one = one.passport

abbrev pub passports_of : List Reading → List ClaimsView
passports_of readings = map passport_in readings

-- the called number: To's if there is no link, else that of the request URI
abbrev pub called_by : Facts → List Reading → Option (List ℕ)
called_by said [] = said.to
called_by said (link ∷ others) = said.target

-- the links in the order in which the call went, by their numbers in message order; or why there is none
abbrev pub turn_of : Facts → List Reading → Result (List ℕ) ChainFault
turn_of said [] = Ok []
turn_of said (origin ∷ others) = order_of origin.passport (passports_of others) (called_by said others)

-- the originating PASSporT, and the links in this order
abbrev pub in_turn : List Reading → List ℕ → List Reading
in_turn [] turn = []
in_turn (origin ∷ others) turn = origin ∷ map (λ link. slice_index_or (origin ∷ others) link origin) turn

abbrev pub or_none : Result (List ℕ) ChainFault → List ℕ
or_none (Ok turn) = turn
or_none (Err fault) = []

-- the judged PASSporTs in call order: the originating one and then the links as the call went
abbrev pub in_call_order : Call → List Reading
in_call_order call = in_turn (in_message call) (or_none (turn_of (facts call) (in_message call)))
