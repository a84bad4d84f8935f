-- What the crates below promise of messages, links, rules and diversions, in one record.
use Rattle.std.specs.Prelude.{◌≡◌, ◌↔◌, ℕ, ◌∷◌, ◌++◌, [], List, length, take, Option, None, Ok, IsTrue}
use Rattle.std.specs.Option.{option_or}
use Rattle.tn_auth_list.specs.declared.entries.Entry.{Entry}
use Rattle.delegation.specs.Coverage.{Table}
use Rattle.sip_message.specs.Head.{Head}
use Rattle.sip_message.specs.Message.{MessageView}
use Rattle.sip_message.specs.Reading.{read}
use Rattle.sip_message.specs.Target.{TargetLaw}
use Rattle.passport_claims.specs.Order.{IsOrder}
use Rattle.passport_claims.specs.OrderReading.{order_of}
use Rattle.passport_claims.specs.Passport.{ClaimsView}
use Rattle.passport_claims.specs.declared.kind.Kind.{Kind}
use Rattle.verify_rules.specs.Call.{Call, call_of, facts, in_message, turn_of}
use Rattle.verify_rules.specs.Late.{covers_kind}
use Rattle.verify_rules.specs.LateWords.{CoversKind}
use Rattle.verify_rules.specs.More.{LinkMore}
use Rattle.verify_rules.specs.Moved.{HoldsMoved, SaysSame}
use Rattle.verify_rules.specs.Rules.{HoldAll, Rule, early_rules, first}
use Rattle.verify_rules.specs.declared.settings.Settings.{Settings}
use Rattle.auth_service.specs.Diverted.{IsDivertible, judged_last}
use Rattle.auth_service.specs.Order.{HolderView, divert_order_of}
use Rattle.auth_service.specs.Outcome.{IsSigned}
use Rattle.auth_service.specs.Signed.{claims_by}
use Rattle.auth_service.specs.declared.order.DivertOrder.{DivertOrder}

-- ---- what is written by an order of the signer

abbrev pub Signs : Type 0
Signs = List ℕ → List ℕ → Option (List ℕ)

-- of a call that can be diverted it breaks none of rules 1 to 8
abbrev pub DivertedHolds : Type 0
DivertedHolds = (bytes : List ℕ) (order : DivertOrder) (holder : Option HolderView) (signs : Signs) (out : List ℕ)
    (settings : Settings) (moment later : ℕ) → (s : IsSigned bytes (divert_order_of order) holder signs out)
    → IsDivertible (call_of settings moment bytes) order.local (claims_by (divert_order_of order) s.orig s.dest)
    → HoldAll (take 8 early_rules) (call_of settings later out)

-- its PASSporTs are those of the call, and the one that was signed
abbrev pub DivertedJudged : Type 0
DivertedJudged = (bytes : List ℕ) (order : DivertOrder) (holder : Option HolderView) (signs : Signs) (out : List ℕ)
    (settings : Settings) (moment later : ℕ) → (s : IsSigned bytes (divert_order_of order) holder signs out)
    → settings.local ≡ order.local
    → in_message (call_of settings later out) ≡ in_message (call_of settings moment bytes)
    ++ judged_last s.message (claims_by (divert_order_of order) s.orig s.dest) s.token.token ∷ []

-- they are in the call's order, and the new one comes after them
abbrev pub DivertedTurn : Type 0
DivertedTurn = (bytes : List ℕ) (order : DivertOrder) (holder : Option HolderView) (signs : Signs) (out : List ℕ)
    (settings : Settings) (moment later : ℕ) → (s : IsSigned bytes (divert_order_of order) holder signs out)
    → (h : IsDivertible (call_of settings moment bytes) order.local (claims_by (divert_order_of order) s.orig s.dest))
    → turn_of (facts (call_of settings later out)) (in_message (call_of settings later out))
    ≡ Ok (h.turn ++ length (in_message (call_of settings moment bytes)) ∷ [])

pub record Below : Type 0 where
  pub head : (bytes : List ℕ) (message : MessageView) → (read bytes ≡ Ok message) ↔ Head bytes message
  pub target : TargetLaw
  pub order : (origin : ClaimsView) (links : List ClaimsView) (called : Option (List ℕ)) (turn : List ℕ)
      → (order_of origin links called ≡ Ok turn) ↔ IsOrder origin links called turn
  pub covers : (table : Table) (entries : List Entry) (orig : List ℕ) (kind : Kind)
      → IsTrue (covers_kind table entries orig kind) ↔ CoversKind table entries orig kind
  pub append : (xs ys : List Rule) (call : Call) → first (xs ++ ys) call ≡ option_or (first xs call) (first ys call)
  pub none : (rules : List Rule) (call : Call) → HoldAll rules call → first rules call ≡ None
  pub same : SaysSame
  pub moved : HoldsMoved
  pub more : LinkMore
  pub diverted : DivertedHolds
  pub judged : DivertedJudged
  pub turn : DivertedTurn
