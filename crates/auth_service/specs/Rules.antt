-- The call that a signed message is at its next hop, and what must be so for its signature to be confirmed there.
use Rattle.std.specs.Prelude.{◌≡◌, ℕ, ◌+◌, ◌≤◌, true, List, []}
use Rattle.std.specs.List.{slice_get}
use Rattle.cert_store.specs.Judged.{JudgedView}
use Rattle.passport_json.specs.View.{TokenView}
use Rattle.sip_message.specs.Accessors.{identities}
use Rattle.sip_message.specs.Message.{MessageView}
use Rattle.verify_rules.specs.Call.{Reading, mark_of, reading}
use Rattle.verify_rules.specs.Late.{is_signed_by}
use Rattle.verify_rules.specs.States.{have}
use Rattle.verify_rules.specs.World.{World, truth_for}
use Rattle.verify_rules.specs.declared.settings.Settings.{Settings}
use Rattle.auth_service.specs.Order.{OrderView}
use Rattle.auth_service.specs.Signed.{claims_by}

-- The message had no Identity field; who judges it numbers as the order did, and judges it when the PASSporT is not too
-- old, and its iat not too far ahead.
pub record IsFirstHop (message : MessageView) (order : OrderView) (settings : Settings) (moment : ℕ) : Type 0 where
  pub unsigned : identities message ≡ []
  pub numbering : settings.local ≡ order.local
  pub not_old : moment ≤ order.iat + settings.past
  pub not_early : order.iat ≤ moment + settings.future

-- the PASSporT as it is judged: the first Identity field, with what was signed and the signature as its token has them
abbrev pub judged_of : OrderView → List ℕ → List ℕ → TokenView → Reading
judged_of order orig dest token = reading (claims_by order orig dest) token.signing (mark_of 1 token)

-- the signature is good under the key of the leaf of the chain that is there for the PASSporT
abbrev pub IsConfirmed : World → Reading → Type 0
IsConfirmed world one = (judged : JudgedView) → truth_for world one ≡ have judged
    → is_signed_by world.says one (slice_get judged.certificates 0) ≡ true
