-- What is signed of a message, by a signature that is handed in, or by none.
use Rattle.std.specs.Prelude.{◌≡◌, ◌≢◌, ⊤, ◌⊎◌, ℕ, ◌≤◌, ◌==◌, List, length, Option, Some, None, Ok, Err, if◌then◌else◌}
use Rattle.auth_service.specs.Answer.{number_of}
use Rattle.auth_service.specs.Causes.{IsCaused}
use Rattle.auth_service.specs.Order.{HolderView, OrderView}
use Rattle.auth_service.specs.Outcome.{IsSigned}
use Rattle.auth_service.specs.Signed.{signed}
use Rattle.auth_service.specs.declared.fault.SignFault.{SignFault}
use Rattle.auth_service.specs.declared.fault.SignFault.TheVariants as refusals
use Rattle.open_calls.specs.Key.{HasNoHolder, IsHolderOf, KeyView}
use Rattle.open_calls.specs.Order.{Given, IsNoOrder, IsOrderOf}
use Rattle.open_calls.specs.declared.unsigned.Unread.{Unread}
use Rattle.open_calls.specs.declared.unsigned.Unread.TheVariants as unread
use Rattle.open_calls.specs.declared.unsigned.Unsigned.{Unsigned}
use Rattle.open_calls.specs.declared.unsigned.Unsigned.TheVariants as unsigned

-- ---- what the signer answers

-- this signature whatever it is asked to sign, or none
abbrev pub signs_of : Option (List ℕ) → List ℕ → List ℕ → Option (List ℕ)
signs_of made name digest = made

-- the message comes out with its field, and what is promised of it holds
pub record GivesMessage (bytes : List ℕ) (order : OrderView) (holder : HolderView) (made : Option (List ℕ))
    (out : List ℕ) : Type 0 where
  pub gives : signed bytes order (Some holder) (signs_of made) ≡ Ok out
  pub says : IsSigned bytes order (Some holder) (signs_of made) out

-- it is refused for this fault, and the fault has its cause
pub record GivesFault (bytes : List ℕ) (order : OrderView) (holder : HolderView) (made : Option (List ℕ))
    (fault : SignFault) : Type 0 where
  pub gives : signed bytes order (Some holder) (signs_of made) ≡ Err fault
  pub caused : IsCaused bytes order (Some holder) (signs_of made) fault

-- a fault that its number names
pub record IsNumbered (Comes : SignFault → Type 0) (number : ℕ) : Type 0 where
  pub fault : SignFault
  pub number_is : number_of fault ≡ Some number
  pub few : number ≤ 3
  pub comes : Comes fault

-- why no message comes out; the signer never fails
abbrev pub why_of : SignFault → Unsigned
why_of refusals.Form = unsigned.Withheld 1
why_of refusals.NoNumber = unsigned.Withheld 2
why_of refusals.Authority = unsigned.Withheld 3
why_of (refusals.NoSignature digest) = unsigned.Digest digest
why_of refusals.Provider = unsigned.Input unread.Memory
why_of refusals.Memory = unsigned.Input unread.Memory

abbrev pub IsUnsignedBy : List ℕ → OrderView → HolderView → Option (List ℕ) → Unsigned → Type 0
IsUnsignedBy bytes order holder made (unsigned.Input fault) = fault ≡ unread.Memory
IsUnsignedBy bytes order holder made (unsigned.Withheld number) = IsNumbered (GivesFault bytes order holder made) number
IsUnsignedBy bytes order holder made (unsigned.Digest digest) =
    GivesFault bytes order holder made (refusals.NoSignature digest)

-- ---- by what is handed in

-- the holder has an authority list, and what is handed in is this order
pub record IsRead (key : KeyView) (given : Given) (order : OrderView) (holder : HolderView) : Type 0 where
  pub holder_is : IsHolderOf key holder
  pub order_is : IsOrderOf given key.local order

-- the inputs are read so, and the message comes out
pub record IsSignedBy (key : KeyView) (given : Given) (message : List ℕ) (made : Option (List ℕ))
    (out : List ℕ) : Type 0 where
  pub order : OrderView
  pub holder : HolderView
  pub read : IsRead key given order holder
  pub gives : GivesMessage message order holder made out

-- the inputs are read so, and this fault comes
pub record IsRefusedBy (key : KeyView) (given : Given) (message : List ℕ) (made : Option (List ℕ))
    (fault : SignFault) : Type 0 where
  pub order : OrderView
  pub holder : HolderView
  pub read : IsRead key given order holder
  pub gives : GivesFault message order holder made fault

-- the chain has a holder, and what is handed in is no order
pub record IsBadOrder (key : KeyView) (given : Given) : Type 0 where
  pub holder : HolderView
  pub holder_is : IsHolderOf key holder
  pub none : IsNoOrder given key.local

-- Which input is at fault; memory may always run out.
abbrev pub IsUnread : KeyView → Given → Unread → Type 0
IsUnread key given unread.Certificate = HasNoHolder key
IsUnread key given unread.Order = IsBadOrder key given
IsUnread key given unread.Signature = ⊥
IsUnread key given unread.Memory = ⊤

abbrev pub IsUnsignedFor : KeyView → Given → List ℕ → Option (List ℕ) → Unsigned → Type 0
IsUnsignedFor key given message made (unsigned.Input fault) = IsUnread key given fault
IsUnsignedFor key given message made (unsigned.Withheld number) = IsNumbered (IsRefusedBy key given message made) number
IsUnsignedFor key given message made (unsigned.Digest digest) =
    IsRefusedBy key given message made (refusals.NoSignature digest)

-- Nothing is withheld, and what has to be signed is of this digest.
abbrev pub IsToSign : KeyView → Given → List ℕ → List ℕ → Type 0
IsToSign key given message digest = IsRefusedBy key given message None (refusals.NoSignature digest)

-- ---- with the bytes of a signature

-- r and s (RFC 7518, section 3.4)
abbrev pub signature_in : List ℕ → Option (List ℕ)
signature_in bytes = if length bytes == 64 then Some bytes else None

-- these aren't as many bytes as a signature has; or they are, and another input is at fault
abbrev pub IsUnreadWith : KeyView → Given → List ℕ → Unread → Type 0
IsUnreadWith key given signature fault =
    ((fault ≡ unread.Signature) × (length signature ≢ 64)) ⊎ ((length signature ≡ 64) × IsUnread key given fault)

abbrev pub IsUnsignedWith : KeyView → Given → List ℕ → List ℕ → Unsigned → Type 0
IsUnsignedWith key given message signature (unsigned.Input fault) = IsUnreadWith key given signature fault
IsUnsignedWith key given message signature (unsigned.Withheld number) =
    IsNumbered (IsRefusedBy key given message (Some signature)) number
IsUnsignedWith key given message signature (unsigned.Digest digest) = ⊥
