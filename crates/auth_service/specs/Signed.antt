-- What is signed of a message and written into it, or why nothing is: a total function of the message, the order, the
-- holder's authority and what the provider signs (RFC 8224, section 4.1; RFC 8946, section 4.1; the faults and their
-- order are this project's own).
use Rattle.std.specs.Prelude.{ℕ, ◌==◌, nat_lt, Bool, true, false, not, List, [], ◌∷◌, length, replicate, Option, Some}
use Rattle.std.specs.Prelude.{None, Result, Ok, Err, if◌then◌else◌}
use Rattle.lists.specs.Steps.{◌>>=◌}
use Rattle.tn_values.specs.Local.{LocalView}
use Rattle.sip_message.specs.Accessors.{calling_number, date, is_invite, target_number, to_number}
use Rattle.sip_message.specs.Added.{with_line}
use Rattle.sip_message.specs.Message.{MessageView}
use Rattle.sip_message.specs.Reading.{read}
use Rattle.sip_message.specs.declared.fault.FormFault.{FormFault}
use Rattle.passport_json.specs.Signing.{Ticket}
use Rattle.passport_claims.specs.Kind.{div_in}
use Rattle.passport_claims.specs.Passport.{ClaimsView}
use Rattle.passport_claims.specs.Signed.{signing_of}
use Rattle.passport_claims.specs.declared.kind.Kind.{Kind}
use Rattle.verify_rules.specs.Late.{covers_kind}
use Rattle.auth_service.specs.declared.fault.SignFault.{SignFault}
use Rattle.auth_service.specs.declared.fault.SignFault.TheVariants as faults
use Rattle.auth_service.specs.declared.wanted.Shape.{Shape}
use Rattle.auth_service.specs.declared.wanted.Shape.TheVariants as shapes
use Rattle.auth_service.specs.Field.{field_name, value_of}
use Rattle.auth_service.specs.Order.{HolderView, OrderView, kind_of}

-- ---- the message

-- the message, if it is an INVITE
abbrev pub invite_in : Result MessageView FormFault → Result MessageView SignFault
invite_in (Err fault) = Err faults.Form
invite_in (Ok message) = if is_invite message then Ok message else Err faults.Form

abbrev pub is_second : ℕ → Option ℕ → Bool
is_second iat None = false
is_second iat (Some seconds) = seconds == iat

-- in the compact form the message's Date says when the PASSporT was issued (RFC 8225, section 7)
abbrev pub is_dated_as : Shape → ℕ → MessageView → Bool
is_dated_as (shapes.Full kind) iat message = true
is_dated_as shapes.Compact iat message = is_second iat (date message)

abbrev pub is_dated : OrderView → MessageView → Bool
is_dated order message = is_dated_as order.shape order.iat message

-- the number that is called: that of the request URI by a diversion (RFC 8946, section 4.1), and else that of To (RFC
-- 8224, section 4.1)
abbrev pub called_by_type : Option (List ℕ) → MessageView → LocalView → Option (List ℕ)
called_by_type None message local = to_number message local
called_by_type (Some earlier) message local = target_number message local

abbrev pub called_as : Kind → MessageView → LocalView → Option (List ℕ)
called_as kind message local = called_by_type (div_in kind) message local

abbrev pub called_number : OrderView → MessageView → Option (List ℕ)
called_number order message = called_as (kind_of order.shape) message order.local

-- ---- the PASSporT

-- from the calling number to the called one
abbrev pub claims_by : OrderView → List ℕ → List ℕ → ClaimsView
claims_by order orig dest =
    record { kind = kind_of order.shape; x5u = order.x5u; iat = order.iat; orig = orig; dest = dest ∷ [] }

abbrev pub claims_or_fault : OrderView → Option (List ℕ) → Option (List ℕ) → Result ClaimsView SignFault
claims_or_fault order (Some orig) (Some dest) = Ok (claims_by order orig dest)
claims_or_fault order (Some orig) None = Err faults.NoNumber
claims_or_fault order None dest = Err faults.NoNumber

-- if the compact form is dated: the number that calls, and the one that is called
unfoldable pub claims_of : OrderView → MessageView → Result ClaimsView SignFault
claims_of order message = if is_dated order message
    then claims_or_fault order (calling_number message order.local) (called_number order message) else Err faults.Form

-- of bytes that are an INVITE
unfoldable pub claims_in : OrderView → Result MessageView FormFault → Result ClaimsView SignFault
claims_in order message = invite_in message >>= claims_of order

-- ---- whether it may be written, and signed for

-- bytes in the place of a signature, of which each has as many
abbrev pub no_signature : List ℕ
no_signature = replicate 64 0

-- with its field the message is longer than a message may be, whatever the signature
abbrev pub is_too_long : List ℕ → Shape → ClaimsView → Bool
is_too_long bytes shape claims = nat_lt 65535 (length (with_line bytes field_name (value_of shape claims no_signature)))

-- the holder, if one is given, may speak for what the PASSporT vouches for: what rule 17 asks of a leaf
abbrev pub is_allowed : Option HolderView → ClaimsView → Bool
is_allowed None claims = true
is_allowed (Some holder) claims = covers_kind holder.table holder.entries claims.orig claims.kind

unfoldable pub allowed : List ℕ → OrderView → Option HolderView → ClaimsView → Result ClaimsView SignFault
allowed bytes order holder claims =
    if is_too_long bytes order.shape claims then Err faults.Form
    else if not (is_allowed holder claims) then Err faults.Authority
    else Ok claims

-- ---- the signature

abbrev pub signature_or : List ℕ → Option (List ℕ) → Result (List ℕ) SignFault
signature_or digest None = Err (faults.NoSignature digest)
signature_or digest (Some signature) = Ok signature

-- what the key signs of the digest of a text
abbrev pub signature_of : (List ℕ → List ℕ → Option (List ℕ)) → List ℕ → List ℕ → Result (List ℕ) SignFault
signature_of signs key signing = signature_or (Ticket signing) (signs key (Ticket signing))

-- ---- the whole

-- the PASSporT that is signed, or the first of the faults Form, NoNumber and Authority
unfoldable pub claims_for : List ℕ → OrderView → Option HolderView → Result ClaimsView SignFault
claims_for bytes order holder = claims_in order (read bytes) >>= allowed bytes order holder

-- the message with the field, or the first fault
unfoldable pub signed : List ℕ → OrderView → Option HolderView → (List ℕ → List ℕ → Option (List ℕ))
    → Result (List ℕ) SignFault
signed bytes order holder signs = do
  claims ← claims_for bytes order holder
  signature ← signature_of signs order.key (signing_of claims)
  Ok (with_line bytes field_name (value_of order.shape claims signature))
