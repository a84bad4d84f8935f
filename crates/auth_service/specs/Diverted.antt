-- The call that is diverted, and what it is at its next hop (RFC 8946, section 4).
use Rattle.std.specs.Prelude.{◌≡◌, ℕ, ◌+◌, ◌≤◌, List, [], ◌∷◌, length, take}
use Rattle.tn_values.specs.Local.{LocalView}
use Rattle.passport_claims.specs.GoesOn.{GoesOn}
use Rattle.passport_claims.specs.Passport.{ClaimsView}
use Rattle.passport_json.specs.View.{TokenView}
use Rattle.sip_message.specs.Accessors.{identities}
use Rattle.sip_message.specs.Message.{MessageView}
use Rattle.verify_rules.specs.Call.{Call, Reading, in_message, mark_of, passports_of, reading, values_of}
use Rattle.verify_rules.specs.Rules.{HoldAll, early_rules}

-- the PASSporTs after the first, which is the originating one, are in this order, and the call goes on from there by
-- the link
abbrev pub GoOn : List Reading → List ℕ → ClaimsView → Type 0
GoOn [] turn link = ⊥
GoOn (origin ∷ others) turn link = GoesOn origin.passport (passports_of others) turn link

-- Whoever judges the call numbers as the order does. The call has at most 15 Identity fields, breaks none of rules 1 to
-- 7, and goes on by the link from the number that its own links lead to.
pub record IsDivertible (call : Call) (local : LocalView) (link : ClaimsView) : Type 0 where
  pub numbering : call.settings.local ≡ local
  pub few : length (values_of call) ≤ 15
  pub hold : HoldAll (take 7 early_rules) call
  pub turn : List ℕ
  pub goes_on : GoOn (in_message call) turn link

-- the link as it is judged: the last Identity field, with what was signed and the signature as its token has them
abbrev pub judged_last : MessageView → ClaimsView → TokenView → Reading
judged_last message link token = reading link token.signing (mark_of (1 + length (identities message)) token)
