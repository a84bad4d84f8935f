-- A message that was diverted breaks none of rules 1 to 8 at its next hop.
use Rattle.std.proofs.Common.{◌≡◌, ℕ, ◌+◌, Bool, List, [], ◌∷◌, ◌++◌, length, take, codes, Option, Some, None, Result, Ok, refl, sym, ap, subst, ◌∙◌, arith}
use Rattle.std.specs.Prelude.{if◌then◌else◌}
use Rattle.tn_values.specs.Local.{LocalView}
use Rattle.identity_header.specs.Parts.{Parts}
use Rattle.identity_header.specs.Read.{read as read_parts}
use Rattle.sip_message.specs.Accessors.{calling_number, identities, target_number}
use Rattle.sip_message.specs.Added.{with_last}
use Rattle.sip_message.specs.Message.{MessageView}
use Rattle.sip_message.specs.Reading.{read}
use Rattle.sip_message.specs.declared.fault.FormFault.{FormFault}
use Rattle.passport_json.specs.Token.{read_token}
use Rattle.passport_json.specs.View.{TokenView}
use Rattle.passport_claims.specs.Links.{dest_of}
use Rattle.passport_claims.specs.Passport.{ClaimsView}
use Rattle.passport_claims.specs.Read.{read_claims}
use Rattle.passport_claims.specs.declared.order.ChainFault.{ChainFault}
use Rattle.verify_rules.specs.Call.{Call, IdentityField, Reading, call_of, facts, facts_of, fields_of, given_to_compact, in_message, judged_fields, numbered, originating, read_call, read_field, readings_of, turn_of}
use Rattle.verify_rules.specs.Rules.{HoldAll, Holds, bad_field, each, early_rules, foreign_alg, no_identity, no_order, no_originating, other_calling, place, rule_1, rule_2, rule_3, rule_4, rule_5, rule_6, rule_7, rule_8, unreadable}
use Rattle.verify_rules.specs.declared.settings.Settings.{Settings}
use Rattle.auth_service.specs.declared.order.DivertOrder.{DivertOrder}
use Rattle.auth_service.specs.Added.{AddedLaws}
use Rattle.auth_service.specs.Diverted.{GoOn, IsDivertible, judged_last}
use Rattle.auth_service.specs.Field.{field_name, field_of, value_of}
use Rattle.auth_service.specs.Order.{HolderView, divert_order_of}
use Rattle.auth_service.specs.Outcome.{IsSigned}
use Rattle.auth_service.specs.Signed.{claims_by}
use Rattle.auth_service.proofs.DivertedLists.{LinkLaw, bad_more, each_more, field_at, good_alg, identity_there, judged_more, numbered_more, originating_more, readings_more, turn_more}
use Rattle.auth_service.proofs.RuleLaws.{good_at, not_other, read_at, same_facts}
use Rattle.auth_service.proofs.SignedLaws.{HeadLaw}

-- ---- the field of a diversion

-- the value is a field of type `div`, whose token is for this message the PASSporT from its calling number to that of its request URI
record IsLinkFor (message : MessageView) (local : LocalView) (value : List ℕ) (parts : Parts) (link : ClaimsView) (token : TokenView) : Type 0 where
  field : read_parts value ≡ Ok parts
  alg : parts.alg ≡ Some (codes "ES256")
  ppt : parts.ppt ≡ Some (codes "div")
  calling : calling_number message local ≡ Some link.orig
  called : target_number message local ≡ Some (dest_of link)
  text : read_token (given_to_compact (facts_of local message) parts) parts.token ≡ Ok token
  said : read_claims token.header token.payload parts.ppt parts.info ≡ Ok link

-- ---- what the written message is

abbrev written : MessageView → List ℕ → MessageView
written message value = with_last message field_name value

abbrev last_field : MessageView → Parts → IdentityField
last_field message parts = field_at (1 + length (identities message)) parts

fields_now : AddedLaws → (settings : Settings) (moment later : ℕ) (message : MessageView) (value : List ℕ) (parts : Parts) → read_parts value ≡ Ok parts
    → fields_of (read_call settings later (written message value)) ≡ fields_of (read_call settings moment message) ++ last_field message parts ∷ []
fields_now laws settings moment later message value parts e =
    ap (numbered 1) (laws.identity message field_name value refl) ∙ numbered_more 1 (identities message) value parts e

judged_now : AddedLaws → (settings : Settings) (moment later : ℕ) (message : MessageView) (value : List ℕ) (parts : Parts) → read_parts value ≡ Ok parts
    → parts.ppt ≡ Some (codes "div")
    → judged_fields (fields_of (read_call settings later (written message value))) ≡ judged_fields (fields_of (read_call settings moment message)) ++ last_field message parts ∷ []
judged_now laws settings moment later message value parts e ppt =
    ap judged_fields (fields_now laws settings moment later message value parts e) ∙ judged_more (fields_of (read_call settings moment message)) (last_field message parts) ppt

read_last : (message : MessageView) (local : LocalView) (value : List ℕ) (parts : Parts) (link : ClaimsView) (token : TokenView) → IsLinkFor message local value parts link token
    → read_field (facts_of local message) (last_field message parts) ≡ Ok (judged_last message link token)
read_last message local value parts link token l = read_at local message (last_field message parts) link token l.text l.said

readings_now : AddedLaws → (settings : Settings) (moment later : ℕ) (message : MessageView) (value : List ℕ) (parts : Parts) (link : ClaimsView) (token : TokenView)
    → IsLinkFor message settings.local value parts link token
    → in_message (read_call settings later (written message value)) ≡ in_message (read_call settings moment message) ++ judged_last message link token ∷ []
readings_now laws settings moment later message value parts link token l =
    let now : Call = read_call settings later (written message value) in
    let before : List IdentityField = judged_fields (fields_of (read_call settings moment message)) in
    ap (readings_of (facts now)) (judged_now laws settings moment later message value parts l.field l.ppt)
    ∙ ap (λ said. readings_of said (before ++ last_field message parts ∷ [])) (same_facts laws message value settings.local)
    ∙ readings_more settings.local message before (last_field message parts) (judged_last message link token) (read_last message settings.local value parts link token l)

turn_now : AddedLaws → LinkLaw → (settings : Settings) (moment later : ℕ) (message : MessageView) (value : List ℕ) (parts : Parts) (link : ClaimsView) (token : TokenView) (turn : List ℕ)
    → IsLinkFor message settings.local value parts link token → GoOn (in_message (read_call settings moment message)) turn link
    → turn_of (facts (read_call settings later (written message value))) (in_message (read_call settings later (written message value)))
    ≡ Ok (turn ++ length (in_message (read_call settings moment message)) ∷ [])
turn_now laws law settings moment later message value parts link token turn l goes =
    let now : Call = read_call settings later (written message value) in
    let before : List Reading = in_message (read_call settings moment message) in
    ap (turn_of (facts now)) (readings_now laws settings moment later message value parts link token l)
    ∙ ap (λ said. turn_of said (before ++ judged_last message link token ∷ [])) (same_facts laws message value settings.local)
    ∙ turn_more law settings.local message before (judged_last message link token) turn goes l.called

-- ---- rule by rule

holds_now : AddedLaws → LinkLaw → (settings : Settings) (moment later : ℕ) (message : MessageView) (value : List ℕ) (parts : Parts) (link : ClaimsView) (token : TokenView) (local : LocalView)
    → IsLinkFor message settings.local value parts link token → IsDivertible (read_call settings moment message) local link
    → HoldAll (take 8 early_rules) (read_call settings later (written message value))
holds_now laws law settings moment later message value parts link token local l d =
    let now : Call = read_call settings later (written message value) in
    let call : Call = read_call settings moment message in
    let field : IdentityField = last_field message parts in
    let r : Reading = judged_last message link token in
    let values = laws.identity message field_name value refl in
    let fields = fields_now laws settings moment later message value parts l.field in
    let judged = judged_now laws settings moment later message value parts l.field l.ppt in
    let same = same_facts laws message value settings.local in
    let readings = readings_now laws settings moment later message value parts link token l in
    let few = d.few in
    let h = d.hold in
    let first_rule : Holds rule_1 now = ap (λ (t : Bool). if t then None else Some (place 0 0)) (laws.invite message field_name value) ∙ h.0 in
    let second_rule : Holds rule_2 now = ap no_identity values ∙ identity_there (identities message) value in
    let third_rule : Holds rule_3 now = ap (bad_field 1) values ∙ bad_more 1 (identities message) value parts l.field (omega (arith, few)) ∙ h.1.1.0 in
    let fourth_rule : Holds rule_4 now =
    ap (λ (x : List IdentityField). no_originating (originating x)) fields ∙ ap no_originating (originating_more (fields_of call) field l.ppt) ∙ h.1.1.1.0 in
    let fifth_rule : Holds rule_5 now = ap (each foreign_alg) judged ∙ each_more foreign_alg (judged_fields (fields_of call)) field (good_alg field l.alg) ∙ h.1.1.1.1.0 in
    let good = good_at settings.local message field r (read_last message settings.local value parts link token l) in
    let sixth_rule : Holds rule_6 now =
    ap (each (unreadable (facts now))) judged ∙ ap (λ f. each (unreadable f) (judged_fields (fields_of call) ++ field ∷ [])) same
    ∙ each_more (unreadable (facts_of settings.local message)) (judged_fields (fields_of call)) field good ∙ h.1.1.1.1.1.0 in
    let from = not_other (calling_number message settings.local) r l.calling in
    let seventh_rule : Holds rule_7 now =
    ap (each (other_calling (facts now).calling)) readings ∙ ap (λ f. each (other_calling f.calling) (in_message call ++ r ∷ [])) same
    ∙ each_more (other_calling (calling_number message settings.local)) (in_message call) r from ∙ h.1.1.1.1.1.1.0 in
    let eighth_rule : Holds rule_8 now =
    ap (no_order (in_message now)) (turn_now laws law settings moment later message value parts link token d.turn l d.goes_on) in
    (first_rule, (second_rule, (third_rule, (fourth_rule, (fifth_rule, (sixth_rule, (seventh_rule, (eighth_rule, tt))))))))

-- ---- what was signed is such a field

abbrev link_by : DivertOrder → List ℕ → List ℕ → ClaimsView
link_by order orig dest = claims_by (divert_order_of order) orig dest

abbrev value_by : DivertOrder → List ℕ → List ℕ → List ℕ → List ℕ
value_by order orig dest signature = value_of (divert_order_of order).shape (link_by order orig dest) signature

abbrev parts_by : DivertOrder → List ℕ → List ℕ → List ℕ → Parts
parts_by order orig dest signature = field_of (divert_order_of order).shape (link_by order orig dest) signature

is_link : (bytes : List ℕ) (order : DivertOrder) (holder : Option HolderView) (signs : List ℕ → List ℕ → Option (List ℕ)) (out : List ℕ) (local : LocalView)
    (s : IsSigned bytes (divert_order_of order) holder signs out) → local ≡ order.local
    → IsLinkFor s.message local (value_by order s.orig s.dest s.signature) (parts_by order s.orig s.dest s.signature) (link_by order s.orig s.dest) s.token.token
is_link bytes order holder signs out local s e =
    subst (λ (l : LocalView). IsLinkFor s.message l (value_by order s.orig s.dest s.signature) (parts_by order s.orig s.dest s.signature) (link_by order s.orig s.dest) s.token.token)
    (sym e) (record {
      field = s.field_read;
      alg = refl;
      ppt = refl;
      calling = s.calling;
      called = s.called;
      text = s.token.read_as;
      said = s.token.said;
    })

-- ---- the laws

abbrev call_with : Settings → ℕ → Result MessageView FormFault → Call
call_with settings moment message = record { settings = settings; moment = moment; message = message }

-- of what was read instead of the bytes
record Both (bytes : List ℕ) (order : DivertOrder) (holder : Option HolderView) (signs : List ℕ → List ℕ → Option (List ℕ)) (out : List ℕ)
    (s : IsSigned bytes (divert_order_of order) holder signs out) : Type 0 where
  was : read bytes ≡ Ok s.message
  is : read out ≡ Ok (written s.message (value_by order s.orig s.dest s.signature))

both : HeadLaw → (bytes : List ℕ) (order : DivertOrder) (holder : Option HolderView) (signs : List ℕ → List ℕ → Option (List ℕ)) (out : List ℕ)
    (s : IsSigned bytes (divert_order_of order) holder signs out) → Both bytes order holder signs out s
both head bytes order holder signs out s = record {
  was = (head bytes s.message).1 s.head;
  is = (head out (written s.message (value_by order s.orig s.dest s.signature))).1 s.added;
}

abbrev DivertibleBy : Settings → ℕ → DivertOrder → List ℕ → List ℕ → Result MessageView FormFault → Type 0
DivertibleBy settings moment order orig dest message = IsDivertible (call_with settings moment message) order.local (link_by order orig dest)

pub diverted_holds : HeadLaw → AddedLaws → LinkLaw → (bytes : List ℕ) (order : DivertOrder) (holder : Option HolderView) (signs : List ℕ → List ℕ → Option (List ℕ)) (out : List ℕ)
    (settings : Settings) (moment later : ℕ) (s : IsSigned bytes (divert_order_of order) holder signs out)
    → IsDivertible (call_of settings moment bytes) order.local (claims_by (divert_order_of order) s.orig s.dest) → HoldAll (take 8 early_rules) (call_of settings later out)
diverted_holds head laws law bytes order holder signs out settings moment later s d =
    let b = both head bytes order holder signs out s in
    subst (λ (m : Result MessageView FormFault). HoldAll (take 8 early_rules) (call_with settings later m)) (sym b.is)
    (holds_now laws law settings moment later s.message (value_by order s.orig s.dest s.signature) (parts_by order s.orig s.dest s.signature) (link_by order s.orig s.dest) s.token.token order.local
    (is_link bytes order holder signs out settings.local s d.numbering) (subst (DivertibleBy settings moment order s.orig s.dest) b.was d))

pub diverted_judged : HeadLaw → AddedLaws → (bytes : List ℕ) (order : DivertOrder) (holder : Option HolderView) (signs : List ℕ → List ℕ → Option (List ℕ)) (out : List ℕ)
    (settings : Settings) (moment later : ℕ) (s : IsSigned bytes (divert_order_of order) holder signs out) → settings.local ≡ order.local
    → in_message (call_of settings later out) ≡ in_message (call_of settings moment bytes) ++ judged_last s.message (claims_by (divert_order_of order) s.orig s.dest) s.token.token ∷ []
diverted_judged head laws bytes order holder signs out settings moment later s e =
    let b = both head bytes order holder signs out s in
    let r : Reading = judged_last s.message (link_by order s.orig s.dest) s.token.token in
    ap (λ (m : Result MessageView FormFault). in_message (call_with settings later m)) b.is
    ∙ readings_now laws settings moment later s.message (value_by order s.orig s.dest s.signature) (parts_by order s.orig s.dest s.signature) (link_by order s.orig s.dest) s.token.token (is_link bytes order holder signs out settings.local s e)
    ∙ ap (λ (m : Result MessageView FormFault). in_message (call_with settings moment m) ++ r ∷ []) (sym b.was)

pub diverted_turn : HeadLaw → AddedLaws → LinkLaw → (bytes : List ℕ) (order : DivertOrder) (holder : Option HolderView) (signs : List ℕ → List ℕ → Option (List ℕ)) (out : List ℕ)
    (settings : Settings) (moment later : ℕ) (s : IsSigned bytes (divert_order_of order) holder signs out)
    → (h : IsDivertible (call_of settings moment bytes) order.local (claims_by (divert_order_of order) s.orig s.dest))
    → turn_of (facts (call_of settings later out)) (in_message (call_of settings later out)) ≡ Ok (h.turn ++ length (in_message (call_of settings moment bytes)) ∷ [])
diverted_turn head laws law bytes order holder signs out settings moment later s h =
    let b = both head bytes order holder signs out s in
    let goes : GoOn (in_message (read_call settings moment s.message)) h.turn (link_by order s.orig s.dest) =
    subst (λ (m : Result MessageView FormFault). GoOn (in_message (call_with settings moment m)) h.turn (link_by order s.orig s.dest)) b.was h.goes_on in
    ap (λ (m : Result MessageView FormFault). turn_of (facts (call_with settings later m)) (in_message (call_with settings later m))) b.is
    ∙ turn_now laws law settings moment later s.message (value_by order s.orig s.dest s.signature) (parts_by order s.orig s.dest s.signature) (link_by order s.orig s.dest) s.token.token h.turn (is_link bytes order holder signs out settings.local s h.numbering) goes
    ∙ ap {B = Result (List ℕ) ChainFault} (λ (m : Result MessageView FormFault). Ok (h.turn ++ length (in_message (call_with settings moment m)) ∷ [])) (sym b.was)
