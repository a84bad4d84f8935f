-- What is told of a message that is signed by the key of a chain.
use Rattle.std.specs.Prelude.{◌≡◌, ◌≢◌, ◌⊎◌, ℕ, ◌<◌, List, ◌++◌, drop, length, Option, Some, None, Result, Ok, Err}
use Rattle.open_calls.specs.Key.{HasNoHolder, KeyView}
use Rattle.open_calls.specs.Order.{Given, origin}
use Rattle.open_calls.specs.Signing.{IsBadOrder, IsNumbered, IsRefusedBy, IsSignedBy}
use Rattle.open_calls.specs.declared.unsigned.Unread.{Unread}
use Rattle.open_calls.specs.declared.unsigned.Unread.TheVariants as unread
use Rattle.open_calls.specs.declared.unsigned.Unsigned.{Unsigned}
use Rattle.open_calls.specs.declared.unsigned.Unsigned.TheVariants as unsigned
use Rattle.stir_c.specs.Told.{no_ticket, said_by_input}
use Rattle.stir_c.specs.WrittenText.{ToldText}
use Rattle.stir_c.specs.declared.exports_signing.SigningOrder.{SigningOrder}
use Rattle.stir_c.specs.declared.said.Said.{Said}
use Rattle.stir_c.specs.declared.writing.Text.{Text}

-- what is handed in of where a call comes from
abbrev pub origin_given : SigningOrder → List ℕ → Given
origin_given order x5u = origin order.iat order.form order.origid x5u

-- ---- in the numbers that C sees

-- the number of an input; `Memory` has none
abbrev pub input_of : Unread → Option ℕ
input_of unread.Certificate = Some 7
input_of unread.Order = Some 8
input_of unread.Signature = Some 9
input_of unread.Memory = None

abbrev pub said_withheld : ℕ → Said
said_withheld number =
    record { kind = 1; input = 0; rule = number; code = 0; field = 0; part = 0; last = 0; size = 0; ticket = no_ticket }

abbrev pub said_digest : List ℕ → Said
said_digest digest =
    record { kind = 0; input = 0; rule = 0; code = 0; field = 0; part = 0; last = 0; size = 0; ticket = digest }

abbrev pub said_of_unsigned : Unsigned → Said
said_of_unsigned (unsigned.Input fault) = said_by_input (input_of fault)
said_of_unsigned (unsigned.Withheld number) = said_withheld number
said_of_unsigned (unsigned.Digest digest) = said_digest digest

-- no message comes out for this reason, and so it is told: nothing is said besides
pub record ToldUnsigned (Why : Unsigned → Type 0) (said : Said) : Type 0 where
  pub came : Unsigned
  pub why : Why came
  pub told_is : said ≡ said_of_unsigned came

-- ---- what is told

-- Nothing may be signed, for the cause of this number: 1 the message, 2 its numbers, 3 the holder's authority.
abbrev pub IsWithheld : Given → List ℕ → Option (List ℕ) → ℕ → KeyView → Type 0
IsWithheld order message made number key = IsNumbered (IsRefusedBy key order message made) number

-- An input of this number is at fault: 7 the first certificate, 8 the order. The certificate is looked at first.
pub record HasFault (order : Given) (input : ℕ) (key : KeyView) : Type 0 where
  pub which : (input ≡ 7) ⊎ (input ≡ 8)
  pub certificate : input ≡ 7 → HasNoHolder key
  pub order_is : input ≡ 8 → IsBadOrder key order

-- the signature hasn't 64 bytes, which is looked at first; or another input is at fault
abbrev pub HasFaultWith : Given → List ℕ → ℕ → KeyView → Type 0
HasFaultWith order signature input key =
    ((input ≡ 9) × (length signature ≢ 64)) ⊎ ((length signature ≡ 64) × HasFault order input key)

-- the signed message is in the room, and it is said how many bytes it has; what is after it is as it was
pub record SignedInto (order : Given) (message signature before now : List ℕ) (said : Said)
    (key : KeyView) : Type 0 where
  pub out : List ℕ
  pub signed : IsSignedBy key order message (Some signature) out
  pub size_is : said.size ≡ length out
  pub text : now ≡ out ++ drop (length out) before

-- it has more bytes than there is room for, and it is said how many
pub record HasNoRoomForMessage (order : Given) (message signature before : List ℕ) (said : Said)
    (key : KeyView) : Type 0 where
  pub out : List ℕ
  pub signed : IsSignedBy key order message (Some signature) out
  pub size_is : said.size ≡ length out
  pub more : length before < said.size

-- a message, written and told; or why there is none, and nothing is written
pub record ToldMessage (Is : List ℕ → Type 0) (before now : List ℕ) (said : Said) : Type 0 where
  pub out : List ℕ
  pub is : Is out
  pub told : ToldText out before now said

pub record ToldNone (Why : Unsigned → Type 0) (before now : List ℕ) (said : Said) : Type 0 where
  pub told : ToldUnsigned Why said
  pub as_was : now ≡ before

abbrev pub ToldSigned : (List ℕ → Type 0) → (Unsigned → Type 0) → List ℕ → List ℕ → Said → Type 0
ToldSigned Is Why before now said = ToldMessage Is before now said ⊎ ToldNone Why before now said

-- the same of what came
pub record ToldNothing (came : Unsigned) (before now : List ℕ) (said : Said) : Type 0 where
  pub told_is : said ≡ said_of_unsigned came
  pub as_was : now ≡ before

abbrev pub ToldCame : Result Text Unsigned → List ℕ → List ℕ → Said → Type 0
ToldCame (Ok text) before now said = ToldText text.bytes.items before now said
ToldCame (Err came) before now said = ToldNothing came before now said
