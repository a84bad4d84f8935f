-- What was signed as the last PASSporT of a call, in the order in which the call went: by it the call is known again,
-- and it says how long the call is fresh (RFC 7515, section 2: JWS Signing Input).
use Rattle.std.specs.Prelude.{◌≡◌, ℕ, ◌+◌, ◌≤◌, List, Some, Ok, unwrap_or, option_and_then}
use Rattle.std.specs.List.{slice_get}
use Rattle.passport_json.specs.IssuedAt.{issued_at}
use Rattle.passport_json.specs.Signed.{payload_in}
use Rattle.passport_json.specs.Signing.{Ticket}
use Rattle.passport_json.specs.Token.{read_token}
use Rattle.passport_json.specs.View.{TokenView}
use Rattle.verify_rules.specs.Call.{Call, IdentityField, Reading, facts, fields_of, given_to_compact, in_call_order}
use Rattle.verify_rules.specs.Call.{judged_fields, mark_of}
use Rattle.verify_rules.specs.Screened.{last_of, last_of_call, ticket_of}
use Rattle.verify_rules.specs.declared.settings.Settings.{Settings}

-- The last PASSporT is that of one of the judged fields, whose text is a token for the message; and this was signed as
-- it.
pub record IsSigned (call : Call) (signing : List ℕ) : Type 0 where
  pub one : Reading
  pub last : last_of (in_call_order call) ≡ Some one
  pub field : IdentityField
  pub at : ℕ
  pub judged : slice_get (judged_fields (fields_of call)) at ≡ Some field
  pub token : TokenView
  pub text : read_token (given_to_compact (facts call) field.parts) field.parts.token ≡ Ok token
  pub mark : one.mark ≡ mark_of field.number token
  pub input : signing ≡ token.signing

-- the last second at which what was signed is fresh: the `iat` of its payload, and for how long a PASSporT is fresh
unfoldable pub last_by : Settings → List ℕ → ℕ
last_by settings signing = unwrap_or (option_and_then issued_at (payload_in signing)) 0 + settings.past

-- The call has a last PASSporT; its ticket is the digest of what was signed as it, its last second is that which this
-- gives, and it is fresh at its moment.
pub record IsKnownAgain (call : Call) : Type 0 where
  pub signing : List ℕ
  pub signed : IsSigned call signing
  pub ticket : ticket_of call ≡ Some (Ticket signing)
  pub last : last_of_call call ≡ last_by call.settings signing
  pub fresh : call.moment ≤ last_of_call call
