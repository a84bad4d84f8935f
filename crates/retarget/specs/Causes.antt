-- Why a call that passed doesn't go on, in the words of the message, the call, the hop, the holder and the provider
-- (this project's own faults). Each says that those before it don't apply.
use Rattle.std.specs.Prelude.{◌≡◌, ⊤, ℕ, ◌<◌, List, length, Option, Some, None}
use Rattle.sip_message.specs.Accessors.{calling_number}
use Rattle.sip_message.specs.Added.{with_line}
use Rattle.sip_message.specs.Message.{MessageView}
use Rattle.sip_message.specs.Target.{with_uri}
use Rattle.passport_json.specs.Signing.{Ticket}
use Rattle.passport_json.specs.Spelled.{IsSignature}
use Rattle.passport_claims.specs.Passport.{ClaimsView}
use Rattle.passport_claims.specs.Signed.{signing_of}
use Rattle.delegation.specs.Coverage.{Covers}
use Rattle.auth_service.specs.Field.{field_name, value_of}
use Rattle.auth_service.specs.Order.{HolderView}
use Rattle.auth_service.specs.Signed.{claims_by}
use Rattle.verify_rules.specs.Call.{Reading}
use Rattle.retarget.specs.Hop.{HopView, diversion}
use Rattle.retarget.specs.Onward.{GoesOnTo, HasBeenAt, IsFull, LeadsTo, links_of}
use Rattle.retarget.specs.declared.fault.HopFault.{HopFault}
use Rattle.retarget.specs.declared.fault.HopFault.TheVariants as faults

-- 21: the target can't be written in a start line, or gives no number
abbrev pub LeadsNowhere : HopView → Type 0
LeadsNowhere hop = (number : List ℕ) → LeadsTo hop number → ⊥

-- 22: the call has been at the number
pub record IsLoop (earlier : List ℕ) (readings : List Reading) (hop : HopView) : Type 0 where
  pub number : List ℕ
  pub leads : LeadsTo hop number
  pub been : HasBeenAt earlier number (links_of readings)

-- 23: there is no room for one field or one diversion more
pub record HasNoRoom (message : MessageView) (earlier : List ℕ) (readings : List Reading) (hop : HopView) : Type 0 where
  pub number : List ℕ
  pub leads : LeadsTo hop number
  pub new : HasBeenAt earlier number (links_of readings) → ⊥
  pub full : IsFull message readings

-- the call goes on to this number, and this is the PASSporT that says so
pub record IsToSign (message : MessageView) (earlier : List ℕ) (readings : List Reading) (hop : HopView)
    (claims : ClaimsView) : Type 0 where
  pub number : List ℕ
  pub onward : GoesOnTo message earlier readings hop number
  pub orig : List ℕ
  pub calling : calling_number message hop.local ≡ Some orig
  pub says : claims ≡ claims_by (diversion hop earlier) orig number

-- with this signature what goes on is longer than a message may be
abbrev pub IsTooLong : List ℕ → List ℕ → HopView → ClaimsView → List ℕ → Type 0
IsTooLong bytes earlier hop claims signature = 65535 < length (with_line (with_uri bytes hop.target) field_name
    (value_of (diversion hop earlier).shape claims signature))

-- 24: and so it is with each
pub record IsLong (bytes : List ℕ) (message : MessageView) (earlier : List ℕ) (readings : List Reading)
    (hop : HopView) : Type 0 where
  pub claims : ClaimsView
  pub to_sign : IsToSign message earlier readings hop claims
  pub long : (signature : List ℕ) → IsSignature signature → IsTooLong bytes earlier hop claims signature

-- it is so with none
abbrev pub HasRoom : List ℕ → List ℕ → HopView → ClaimsView → Type 0
HasRoom bytes earlier hop claims = (signature : List ℕ) → IsSignature signature
    → IsTooLong bytes earlier hop claims signature → ⊥

-- 25: the holder's list doesn't cover the number that was called before
pub record IsUnauthorized (bytes : List ℕ) (message : MessageView) (earlier : List ℕ) (readings : List Reading)
    (hop : HopView) (holder : HolderView) : Type 0 where
  pub claims : ClaimsView
  pub to_sign : IsToSign message earlier readings hop claims
  pub room : HasRoom bytes earlier hop claims
  pub lacks : Covers holder.entries holder.table earlier → ⊥

-- 26: the key signs nothing for this digest, which is that of what is to be signed
pub record IsUnsigned (bytes : List ℕ) (message : MessageView) (earlier : List ℕ) (readings : List Reading)
    (hop : HopView) (holder : HolderView) (signs : List ℕ → List ℕ → Option (List ℕ)) (digest : List ℕ) : Type 0 where
  pub claims : ClaimsView
  pub to_sign : IsToSign message earlier readings hop claims
  pub room : HasRoom bytes earlier hop claims
  pub covers : Covers holder.entries holder.table earlier
  pub carried : digest ≡ Ticket (signing_of claims)
  pub none : ◌≡◌ {A = Option (List ℕ)} (signs hop.key digest) None

-- nothing may be signed, whatever the provider does: one of the faults 21 to 25 is there
pub data IsWithheld (bytes : List ℕ) (message : MessageView) (earlier : List ℕ) (readings : List Reading)
    (hop : HopView) (holder : HolderView) : Type 0 where
  nowhere : LeadsNowhere hop → IsWithheld bytes message earlier readings hop holder
  looped : IsLoop earlier readings hop → IsWithheld bytes message earlier readings hop holder
  full : HasNoRoom message earlier readings hop → IsWithheld bytes message earlier readings hop holder
  long : IsLong bytes message earlier readings hop → IsWithheld bytes message earlier readings hop holder
  unauthorized : IsUnauthorized bytes message earlier readings hop holder
      → IsWithheld bytes message earlier readings hop holder

-- the cause of each; a verdict and a failure of the provider have their own clauses, and out of memory has none
abbrev pub IsCaused : List ℕ → MessageView → List ℕ → List Reading → HopView → HolderView
    → (List ℕ → List ℕ → Option (List ℕ)) → HopFault → Type 0
IsCaused bytes message earlier readings hop holder signs (faults.Verdict verdict) = ⊤
IsCaused bytes message earlier readings hop holder signs faults.Target = LeadsNowhere hop
IsCaused bytes message earlier readings hop holder signs faults.Loop = IsLoop earlier readings hop
IsCaused bytes message earlier readings hop holder signs faults.Full = HasNoRoom message earlier readings hop
IsCaused bytes message earlier readings hop holder signs faults.Size = IsLong bytes message earlier readings hop
IsCaused bytes message earlier readings hop holder signs faults.Authority =
    IsUnauthorized bytes message earlier readings hop holder
IsCaused bytes message earlier readings hop holder signs (faults.NoSignature digest) =
    IsUnsigned bytes message earlier readings hop holder signs digest
IsCaused bytes message earlier readings hop holder signs faults.Provider = ⊤
IsCaused bytes message earlier readings hop holder signs faults.Memory = ⊤
