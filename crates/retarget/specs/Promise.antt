-- What is promised of what is answered to a call that passed.
use Rattle.std.specs.Prelude.{ℕ, List, Option, Result}
use Rattle.lists.specs.Given.{Gives}
use Rattle.sip_message.specs.Message.{MessageView}
use Rattle.verify_rules.specs.Call.{Reading}
use Rattle.auth_service.specs.Order.{HolderView}
use Rattle.retarget.specs.Answer.{decided}
use Rattle.retarget.specs.Causes.{IsCaused, IsWithheld}
use Rattle.retarget.specs.Hop.{HopView}
use Rattle.retarget.specs.Onward.{IsCalledBefore}
use Rattle.retarget.specs.Written.{retargeted}
use Rattle.retarget.specs.declared.fault.HopFault.{HopFault}

-- for the message that the bytes are, and the number that is called
abbrev pub OfCall : List ℕ → List Reading → HopView → (MessageView → List ℕ → Type 0) → Type 0
OfCall bytes readings hop P = (message : MessageView) (earlier : List ℕ)
    → IsCalledBefore bytes readings hop message earlier → P message earlier

-- the bytes that go on, or the first of the faults 21 to 26
abbrev pub GivesOnward : {X : Type 0} → (X → List ℕ) → List ℕ → List Reading → HopView → HolderView
    → (List ℕ → List ℕ → Option (List ℕ)) → Result X HopFault → Type 0
GivesOnward seen bytes readings hop holder signs result = OfCall bytes readings hop
    (λ message earlier. Gives decided seen result (retargeted bytes message earlier readings hop holder signs))

-- each fault has its cause
abbrev pub CausedOnward : List ℕ → List Reading → HopView → HolderView
    → (List ℕ → List ℕ → Option (List ℕ)) → HopFault → Type 0
CausedOnward bytes readings hop holder signs fault =
    OfCall bytes readings hop (λ message earlier. IsCaused bytes message earlier readings hop holder signs fault)

-- nothing may be signed: one of the faults 21 to 25 is there
abbrev pub MayNotSign : List ℕ → List Reading → HopView → HolderView → Type 0
MayNotSign bytes readings hop holder = (message : MessageView) × (earlier : List ℕ)
    × IsCalledBefore bytes readings hop message earlier × IsWithheld bytes message earlier readings hop holder
