-- What the gateway writes: the message with another request URI and one more Identity field, or why it writes nothing.
use Rattle.std.specs.Prelude.{◌≡◌, ℕ, List, Option, Some, Result, Ok, Err}
use Rattle.sip_message.specs.Message.{MessageView}
use Rattle.sip_message.specs.Reading.{read}
use Rattle.sip_message.specs.Target.{HasOtherUri, targeted, to_uri}
use Rattle.sip_message.specs.declared.fault.FormFault.{FormFault}
use Rattle.auth_service.specs.Causes.{IsCaused, IsWithheld}
use Rattle.auth_service.specs.Order.{HolderView, divert_order_of}
use Rattle.auth_service.specs.Outcome.{IsSigned}
use Rattle.auth_service.specs.Signed.{signed}
use Rattle.auth_service.specs.declared.fault.SignFault.{SignFault}
use Rattle.auth_service.specs.declared.order.DivertOrder.{DivertOrder}
use Rattle.retarget.specs.Answer.{hop_fault}
use Rattle.retarget.specs.Hop.{HopView, diversion}
use Rattle.retarget.specs.Onward.{onward}
use Rattle.retarget.specs.declared.fault.HopFault.{HopFault}
use Rattle.retarget.specs.declared.fault.HopFault.TheVariants as faults
use Rattle.verify_rules.specs.Call.{Reading}

-- ---- exactly

-- what the signer gives, with its faults as they are named here
abbrev pub as_hop : Result (List ℕ) SignFault → Result (List ℕ) HopFault
as_hop (Ok out) = Ok out
as_hop (Err fault) = Err (hop_fault fault)

abbrev pub diverted : Result (List ℕ) FormFault → List ℕ → HopView → HolderView → (List ℕ → List ℕ → Option (List ℕ))
    → Result (List ℕ) HopFault
diverted (Err found) earlier hop holder signs = Err faults.Size
diverted (Ok moved) earlier hop holder signs = as_hop (signed moved (diversion hop earlier) (Some holder) signs)

-- of bytes that are an INVITE with its numbers
unfoldable pub written_to : List ℕ → List ℕ → HopView → HolderView → (List ℕ → List ℕ → Option (List ℕ))
    → Result (List ℕ) HopFault
written_to bytes earlier hop holder signs = diverted (targeted bytes hop.target) earlier hop holder signs

abbrev pub if_onward : Result (List ℕ) HopFault → Result (List ℕ) HopFault → Result (List ℕ) HopFault
if_onward (Ok number) written = written
if_onward (Err fault) written = Err fault

-- what goes on of a call that passed, or the first of the faults from Target to NoSignature
unfoldable pub retargeted : List ℕ → MessageView → List ℕ → List Reading → HopView → HolderView
    → (List ℕ → List ℕ → Option (List ℕ)) → Result (List ℕ) HopFault
retargeted bytes message earlier readings hop holder signs =
    if_onward (onward message earlier readings hop) (written_to bytes earlier hop holder signs)

-- ---- what it is

-- the message with the other request URI, and what the signer writes into this by its order
pub record IsWritten (bytes earlier : List ℕ) (hop : HopView) (holder : HolderView)
    (signs : List ℕ → List ℕ → Option (List ℕ)) (out : List ℕ) : Type 0 where
  pub moved : List ℕ
  pub is : targeted bytes hop.target ≡ Ok moved
  pub other_uri : HasOtherUri bytes hop.target moved
  pub same : (message : MessageView) → read bytes ≡ Ok message → read moved ≡ Ok (to_uri message hop.target)
  pub order : DivertOrder
  pub diverts : divert_order_of order ≡ diversion hop earlier
  pub is_signed : IsSigned moved (divert_order_of order) (Some holder) signs out

-- why nothing was written: with the other request URI alone the message is too long, or the signer refused it
pub record IsRefusedBy (bytes earlier : List ℕ) (hop : HopView) (holder : HolderView)
    (signs : List ℕ → List ℕ → Option (List ℕ)) (fault : SignFault) : Type 0 where
  pub moved : List ℕ
  pub is : targeted bytes hop.target ≡ Ok moved
  pub other_uri : HasOtherUri bytes hop.target moved
  pub same : (message : MessageView) → read bytes ≡ Ok message → read moved ≡ Ok (to_uri message hop.target)
  pub cause : IsCaused moved (diversion hop earlier) (Some holder) signs fault

pub data Why (bytes earlier : List ℕ) (hop : HopView) (holder : HolderView) (signs : List ℕ → List ℕ → Option (List ℕ))
    (fault : HopFault) : Type 0 where
  too_long : (found : FormFault) → fault ≡ faults.Size → targeted bytes hop.target ≡ Err found
      → Why bytes earlier hop holder signs fault
  refused : (sign_fault : SignFault) → fault ≡ hop_fault sign_fault
      → IsRefusedBy bytes earlier hop holder signs sign_fault → Why bytes earlier hop holder signs fault
  no_memory : fault ≡ faults.Memory → Why bytes earlier hop holder signs fault

-- nothing may be signed: with the other request URI alone the message is too long, or the signer holds back
pub data CannotSign (bytes earlier : List ℕ) (hop : HopView) (holder : HolderView) : Type 0 where
  too_long : (found : FormFault) → targeted bytes hop.target ≡ Err found → CannotSign bytes earlier hop holder
  withheld : (moved : List ℕ) → targeted bytes hop.target ≡ Ok moved
      → IsWithheld moved (diversion hop earlier) (Some holder) → CannotSign bytes earlier hop holder
