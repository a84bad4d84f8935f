-- Why nothing was signed, in the words of the message, the order, the holder and the provider (this project's own
-- faults).
use Rattle.std.specs.Prelude.{◌≡◌, ⊤, ◌⊎◌, ℕ, ◌<◌, true, List, length, Option, Some, None}
use Rattle.sip_message.specs.Accessors.{calling_number, date, is_invite}
use Rattle.sip_message.specs.Added.{with_line}
use Rattle.sip_message.specs.Head.{Head}
use Rattle.sip_message.specs.Message.{MessageView}
use Rattle.passport_json.specs.Signing.{Ticket}
use Rattle.passport_json.specs.Spelled.{IsSignature}
use Rattle.passport_claims.specs.Passport.{ClaimsView}
use Rattle.passport_claims.specs.Signed.{signing_of}
use Rattle.verify_rules.specs.LateWords.{CoversKind}
use Rattle.auth_service.specs.declared.fault.SignFault.{SignFault}
use Rattle.auth_service.specs.declared.fault.SignFault.TheVariants as faults
use Rattle.auth_service.specs.declared.wanted.Shape.TheVariants as shapes
use Rattle.auth_service.specs.Field.{field_name, value_of}
use Rattle.auth_service.specs.Order.{HolderView, OrderView}
use Rattle.auth_service.specs.Signed.{called_number, claims_by}

-- the bytes are an INVITE, and if the PASSporT is compact, its Date is that of the order
pub record IsInvite (bytes : List ℕ) (order : OrderView) (message : MessageView) : Type 0 where
  pub head : Head bytes message
  pub method : is_invite message ≡ true
  pub dated : order.shape ≡ shapes.Compact → date message ≡ Some order.iat

-- such a message has both numbers, and this is the PASSporT that says so
pub record IsOrdered (bytes : List ℕ) (order : OrderView) (message : MessageView) (claims : ClaimsView) : Type 0 where
  pub invite : IsInvite bytes order message
  pub orig : List ℕ
  pub calling : calling_number message order.local ≡ Some orig
  pub dest : List ℕ
  pub called : called_number order message ≡ Some dest
  pub says : claims ≡ claims_by order orig dest

-- the message with the field for this signature is longer than a message may be
abbrev pub IsTooLong : List ℕ → OrderView → ClaimsView → List ℕ → Type 0
IsTooLong bytes order claims signature =
    65535 < length (with_line bytes field_name (value_of order.shape claims signature))

-- 1: no message, no INVITE, a Date that isn't that of a compact PASSporT, or a message that the field would make too
-- long
pub data IsMisformed (bytes : List ℕ) (order : OrderView) : Type 0 where
  no_message : ((message : MessageView) → Head bytes message → ⊥) → IsMisformed bytes order
  no_invite : (message : MessageView) → Head bytes message → (is_invite message ≡ true → ⊥) → IsMisformed bytes order
  other_date : (message : MessageView) → Head bytes message → is_invite message ≡ true → order.shape ≡ shapes.Compact
      → (date message ≡ Some order.iat → ⊥) → IsMisformed bytes order
  too_long : (message : MessageView) (claims : ClaimsView) → IsOrdered bytes order message claims
      → ((signature : List ℕ) → IsSignature signature → IsTooLong bytes order claims signature)
      → IsMisformed bytes order

-- 2: no calling number, or no called one
pub record IsUnnumbered (bytes : List ℕ) (order : OrderView) : Type 0 where
  pub message : MessageView
  pub invite : IsInvite bytes order message
  pub missing : (◌≡◌ {A = Option (List ℕ)} (calling_number message order.local) None)
      ⊎ (◌≡◌ {A = Option (List ℕ)} (called_number order message) None)

-- for each signature the message has room for the field
abbrev pub HasRoom : List ℕ → OrderView → ClaimsView → Type 0
HasRoom bytes order claims = (signature : List ℕ) → IsSignature signature → IsTooLong bytes order claims signature → ⊥

-- 3: the holder may not speak for what the PASSporT vouches for
pub record IsUnauthorized (bytes : List ℕ) (order : OrderView) (holder : Option HolderView) : Type 0 where
  pub message : MessageView
  pub claims : ClaimsView
  pub ordered : IsOrdered bytes order message claims
  pub room : HasRoom bytes order claims
  pub one : HolderView
  pub given : holder ≡ Some one
  pub lacks : CoversKind one.table one.entries claims.orig claims.kind → ⊥

-- nothing may be signed, whatever the provider does: one of these three faults is there
pub data IsWithheld (bytes : List ℕ) (order : OrderView) (holder : Option HolderView) : Type 0 where
  misformed : IsMisformed bytes order → IsWithheld bytes order holder
  unnumbered : IsUnnumbered bytes order → IsWithheld bytes order holder
  unauthorized : IsUnauthorized bytes order holder → IsWithheld bytes order holder

-- the holder, if one is given, may
abbrev pub MaySpeak : Option HolderView → ClaimsView → Type 0
MaySpeak None claims = ⊤
MaySpeak (Some holder) claims = CoversKind holder.table holder.entries claims.orig claims.kind

-- 4: the key signs nothing for this digest, which is that of what is to be signed
pub record IsUnsigned (bytes : List ℕ) (order : OrderView) (holder : Option HolderView)
    (signs : List ℕ → List ℕ → Option (List ℕ)) (digest : List ℕ) : Type 0 where
  pub message : MessageView
  pub claims : ClaimsView
  pub ordered : IsOrdered bytes order message claims
  pub room : HasRoom bytes order claims
  pub authority : MaySpeak holder claims
  pub carried : digest ≡ Ticket (signing_of claims)
  pub none : ◌≡◌ {A = Option (List ℕ)} (signs order.key digest) None

-- the cause of each; a failure of the provider has its own clause, and out of memory has none
abbrev pub IsCaused : List ℕ → OrderView → Option HolderView → (List ℕ → List ℕ → Option (List ℕ)) → SignFault → Type 0
IsCaused bytes order holder signs faults.Form = IsMisformed bytes order
IsCaused bytes order holder signs faults.NoNumber = IsUnnumbered bytes order
IsCaused bytes order holder signs faults.Authority = IsUnauthorized bytes order holder
IsCaused bytes order holder signs (faults.NoSignature digest) = IsUnsigned bytes order holder signs digest
IsCaused bytes order holder signs faults.Provider = ⊤
IsCaused bytes order holder signs faults.Memory = ⊤
