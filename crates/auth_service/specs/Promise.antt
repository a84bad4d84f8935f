-- What is promised of the answer to an order, whichever of the two orders it comes from.
use Rattle.std.specs.Prelude.{ℕ, List, Option, Result, IfErr, IfOk}
use Rattle.lists.specs.Given.{Gives}
use Rattle.auth_service.specs.Answer.{decided}
use Rattle.auth_service.specs.Causes.{IsCaused}
use Rattle.auth_service.specs.Order.{HolderView, OrderView}
use Rattle.auth_service.specs.Outcome.{IsSigned}
use Rattle.auth_service.specs.Signed.{signed}
use Rattle.auth_service.specs.declared.fault.SignFault.{SignFault}

-- the bytes that come out or the first fault, what was signed, and the cause of each fault
pub record IsPromised {X : Type 0} (seen : X → List ℕ) (bytes : List ℕ) (order : OrderView) (holder : Option HolderView)
    (signs : List ℕ → List ℕ → Option (List ℕ)) (result : Result X SignFault) : Type 0 where
  pub exact : Gives decided seen result (signed bytes order holder signs)
  pub is_signed : IfOk result (λ out. IsSigned bytes order holder signs (seen out))
  pub causes : IfErr result (λ fault. IsCaused bytes order holder signs fault)
