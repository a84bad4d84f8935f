-- What is promised of a message that was signed (RFC 8224, section 4.1; RFC 8946, section 4.1).
use Rattle.std.specs.Prelude.{◌≡◌, ℕ, true, List, Option, Some, Ok}
use Rattle.identity_header.specs.FieldText.{FieldText}
use Rattle.identity_header.specs.Read.{read as read_field}
use Rattle.sip_message.specs.Accessors.{calling_number, date, is_invite}
use Rattle.sip_message.specs.Added.{with_last, with_line_at}
use Rattle.sip_message.specs.Head.{Head}
use Rattle.sip_message.specs.Message.{MessageView}
use Rattle.passport_json.specs.Signing.{Ticket}
use Rattle.passport_json.specs.Spelled.{IsSignature}
use Rattle.passport_claims.specs.Signed.{IsTokenOf, signing_of}
use Rattle.verify_rules.specs.Call.{facts_of, given_to_compact}
use Rattle.auth_service.specs.declared.wanted.Shape.TheVariants as shapes
use Rattle.auth_service.specs.Causes.{MaySpeak}
use Rattle.auth_service.specs.Field.{field_name, field_of, token_by, value_of}
use Rattle.auth_service.specs.Order.{HolderView, OrderView}
use Rattle.auth_service.specs.Signed.{called_number, claims_by}

pub record IsSigned (bytes : List ℕ) (order : OrderView) (holder : Option HolderView)
    (signs : List ℕ → List ℕ → Option (List ℕ)) (out : List ℕ) : Type 0 where
  -- the message, an INVITE; in the compact form its Date says when the PASSporT was issued (RFC 8225, section 7)
  pub message : MessageView
  pub head : Head bytes message
  pub method : is_invite message ≡ true
  pub dated : order.shape ≡ shapes.Compact → date message ≡ Some order.iat
  -- its two numbers, and the signature
  pub orig : List ℕ
  pub calling : calling_number message order.local ≡ Some orig
  pub dest : List ℕ
  pub called : called_number order message ≡ Some dest
  pub signature : List ℕ
  pub is_signature : IsSignature signature
  -- the holder may speak for what the PASSporT vouches for, and the key signed the digest of what is signed of the
  -- PASSporT
  pub authority : MaySpeak holder (claims_by order orig dest)
  pub made : signs order.key (Ticket (signing_of (claims_by order orig dest))) ≡ Some signature
  -- the outcome is the message with the field's line before its empty one, which is the message with this field after
  -- all others
  pub placed : out
      ≡ with_line_at head.empty.place bytes field_name (value_of order.shape (claims_by order orig dest) signature)
  pub added : Head out (with_last message field_name (value_of order.shape (claims_by order orig dest) signature))
  -- the field is read as its parts, and the token in it, with what the message says, as this PASSporT with this
  -- signature
  pub field : FieldText (field_of order.shape (claims_by order orig dest) signature)
      (value_of order.shape (claims_by order orig dest) signature)
  pub field_read : read_field (value_of order.shape (claims_by order orig dest) signature)
      ≡ Ok (field_of order.shape (claims_by order orig dest) signature)
  pub token : IsTokenOf (token_by order.shape (signing_of (claims_by order orig dest)) signature)
      (given_to_compact (facts_of order.local message) (field_of order.shape (claims_by order orig dest) signature))
      (claims_by order orig dest) signature
