-- What goes on: the message with the hop's request URI and one more Identity field.
use Rattle.std.specs.Prelude.{◌≡◌, ℕ, List, [], ◌∷◌, ◌++◌, Option, Some}
use Rattle.std.specs.List.{slice_get}
use Rattle.passport_claims.specs.declared.kind.Kind.TheVariants as kinds
use Rattle.sip_message.specs.Message.{MessageView}
use Rattle.verify_rules.specs.Call.{Call, Reading, call_of, in_call_order}
use Rattle.verify_rules.specs.Screened.{last_of}
use Rattle.verify_rules.specs.declared.settings.Settings.{Settings}
use Rattle.auth_service.specs.Order.{HolderView}
use Rattle.retarget.specs.Hop.{HopView}
use Rattle.retarget.specs.Onward.{GoesOnTo, IsCalledBefore}
use Rattle.retarget.specs.Written.{IsWritten}

pub record IsRetargeted (bytes : List ℕ) (readings : List Reading) (hop : HopView) (holder : HolderView)
    (signs : List ℕ → List ℕ → Option (List ℕ)) (out : List ℕ) : Type 0 where
  -- the message, and the number that is called before
  pub message : MessageView
  pub earlier : List ℕ
  pub before : IsCalledBefore bytes readings hop message earlier
  -- the number to which it goes on
  pub number : List ℕ
  pub onward : GoesOnTo message earlier readings hop number
  -- the other request URI, and what the signer wrote
  pub written : IsWritten bytes earlier hop holder signs out

-- The last PASSporT of a call has the orig of another call, which goes on, as its own; the number that was called there
-- as its div; and the hop's number as its one dest.
pub record EndsInDiversion (call : Call) (bytes : List ℕ) (readings : List Reading) (hop : HopView) : Type 0 where
  pub origin : Reading
  pub first : slice_get readings 0 ≡ Some origin
  pub message : MessageView
  pub earlier : List ℕ
  pub before : IsCalledBefore bytes readings hop message earlier
  pub number : List ℕ
  pub onward : GoesOnTo message earlier readings hop number
  pub link : Reading
  pub last : last_of (in_call_order call) ≡ Some link
  pub orig : link.passport.orig ≡ origin.passport.orig
  pub kind : link.passport.kind ≡ kinds.Div earlier
  pub dest : link.passport.dest ≡ number ∷ []

-- so it is with what was written, whoever judges it, if he numbers as the hop does: it is the last after the PASSporTs
-- that the call had
pub record AddsDiversion (bytes : List ℕ) (readings : List Reading) (hop : HopView) (out : List ℕ) (settings : Settings)
    (later : ℕ) : Type 0 where
  pub ends : EndsInDiversion (call_of settings later out) bytes readings hop
  pub all : in_call_order (call_of settings later out) ≡ readings ++ ends.link ∷ []

abbrev pub TellsOfDiversion : List ℕ → List Reading → HopView → List ℕ → Type 0
TellsOfDiversion bytes readings hop out = (settings : Settings) (later : ℕ) → settings.local ≡ hop.local
    → AddsDiversion bytes readings hop out settings later
