-- A message that was signed breaks none of the rules of the call at its next hop, and not rule 16 if its signature is confirmed.
use Rattle.std.proofs.Common.{◌≡◌, ℕ, ◌+◌, ◌≤◌, nat_lt, true, false, List, [], ◌∷◌, ◌++◌, codes, Option, Some, None, Ok, refl, sym, ap, subst, ◌∙◌, arith}
use Rattle.std.specs.Option.{option_or}
use Rattle.std.proofs.lemmas.Bool.Decides.{nat_tests}
use Rattle.lists.proofs.Bytes.{same_bytes}
use Rattle.tn_values.specs.Local.{LocalView}
use Rattle.identity_header.specs.Parts.{Parts, parts}
use Rattle.identity_header.specs.Read.{read as read_parts}
use Rattle.sip_message.specs.Accessors.{calling_number, is_invite, to_number}
use Rattle.sip_message.specs.Added.{with_last}
use Rattle.sip_message.specs.Message.{MessageView}
use Rattle.sip_message.specs.Reading.{read}
use Rattle.passport_json.specs.Token.{read_token}
use Rattle.passport_json.specs.View.{TokenView}
use Rattle.passport_claims.specs.Kind.{ppt_of}
use Rattle.passport_claims.specs.OrderReading.{first_from, order_of, undiverted}
use Rattle.passport_claims.specs.Passport.{ClaimsView}
use Rattle.passport_claims.specs.Read.{read_claims}
use Rattle.passport_claims.specs.Signed.{signing_of}
use Rattle.verify_rules.specs.Call.{Call, IdentityField, Reading, call_of, facts, facts_in, facts_of, fields_of, given_to_compact, in_call_order, in_message, in_turn, judged_fields, mark_of, marked_or_part, numbered, or_none, originating, read_field, reading, reading_by, readings_of, turn_of, values_in, values_of}
use Rattle.verify_rules.specs.Rules.{HoldAll, Holds, Rule, bad_field, each, early_rules, first, foreign_alg, no_identity, no_invite, no_order, no_originating, or_later, other_calling, rule_1, rule_2, rule_3, rule_4, rule_5, rule_6, rule_7, rule_8, rule_9, stale, unreadable, unreadable_at}
use Rattle.verify_rules.specs.States.{State, have, long, no_chain, unread as unread_state}
use Rattle.verify_rules.specs.World.{World, asking_rule, forged, forged_by, truth_for, unless_good}
use Rattle.verify_rules.specs.declared.refusal.Place.{Place}
use Rattle.verify_rules.specs.declared.settings.Settings.{Settings}
use Rattle.passport_claims.specs.declared.form.Form.{Form}
use Rattle.passport_claims.specs.declared.form.Form.TheVariants as forms
use Rattle.auth_service.specs.declared.order.SignOrder.{SignOrder}
use Rattle.auth_service.specs.Added.{AddedLaws}
use Rattle.auth_service.specs.Field.{field_name, token_by, value_of}
use Rattle.auth_service.specs.Order.{HolderView, kind_of, order_of as view_of, shape_of}
use Rattle.auth_service.specs.Outcome.{IsSigned}
use Rattle.auth_service.specs.Rules.{IsConfirmed, IsFirstHop, judged_of}
use Rattle.auth_service.specs.Signed.{called_as, claims_by}
use Rattle.auth_service.proofs.SignedLaws.{HeadLaw}

-- ---- the field, alone among those of the call

abbrev one : Parts → IdentityField
one field = record { number = 1; parts = field }

-- the parts of a field that is signed in a form
abbrev signed_parts : Form → List ℕ → List ℕ → Parts
signed_parts form token x5u = parts token x5u (Some (codes "ES256")) (ppt_of (kind_of (shape_of form)))

judged_by : (form : Form) (token x5u : List ℕ) → judged_fields (one (signed_parts form token x5u) ∷ []) ≡ one (signed_parts form token x5u) ∷ []
judged_by forms.Base token x5u = refl
judged_by forms.Compact token x5u = refl
judged_by (forms.Shaken level origid) token x5u = refl

originating_by : (form : Form) (token x5u : List ℕ) → originating (one (signed_parts form token x5u) ∷ []) ≡ Some (one (signed_parts form token x5u))
originating_by forms.Base token x5u = refl
originating_by forms.Compact token x5u = refl
originating_by (forms.Shaken level origid) token x5u = refl

-- the number that is called is that of To
to_is_called : (form : Form) (message : MessageView) (local : LocalView) → to_number message local ≡ called_as (kind_of (shape_of form)) message local
to_is_called forms.Base message local = refl
to_is_called forms.Compact message local = refl
to_is_called (forms.Shaken level origid) message local = refl

fields_is : (value : List ℕ) (field : Parts) → read_parts value ≡ Ok field → numbered 1 (value ∷ []) ≡ one field ∷ []
fields_is value field e = rw e refl

good_field : (value : List ℕ) (field : Parts) → read_parts value ≡ Ok field → ◌≡◌ {A = Option Place} (bad_field 1 (value ∷ [])) None
good_field value field e = rw e refl

-- ---- what the message says is said still

pub same_facts : AddedLaws → (message : MessageView) (value : List ℕ) (local : LocalView) → facts_of local (with_last message field_name value) ≡ facts_of local message
same_facts laws message value local =
    rw (
      laws.dated message field_name value refl,
      laws.calling message field_name value local refl refl,
      laws.called message field_name value local refl,
      laws.target message field_name value local,
    ) refl

-- ---- the PASSporT

pub read_at : (local : LocalView) (message : MessageView) (field : IdentityField) (claims : ClaimsView) (token : TokenView)
    → read_token (given_to_compact (facts_of local message) field.parts) field.parts.token ≡ Ok token
    → read_claims token.header token.payload field.parts.ppt field.parts.info ≡ Ok claims
    → read_field (facts_of local message) field ≡ Ok (reading claims token.signing (mark_of field.number token))
unfolding read_field
read_at local message field claims token t c = ap (reading_by field) t ∙ ap (marked_or_part token.signing (mark_of field.number token)) c

pub good_at : (local : LocalView) (message : MessageView) (field : IdentityField) (r : Reading) → read_field (facts_of local message) field ≡ Ok r
    → ◌≡◌ {A = Option Place} (unreadable (facts_of local message) field) None
unfolding unreadable
good_at local message field r e = ap (unreadable_at field.number) e

readings_one : (local : LocalView) (message : MessageView) (field : Parts) (r : Reading) → read_field (facts_of local message) (one field) ≡ Ok r
    → readings_of (facts_of local message) (one field ∷ []) ≡ r ∷ []
readings_one local message field r e = rw e refl

pub not_other : (calling : Option (List ℕ)) (r : Reading) → calling ≡ Some r.passport.orig → ◌≡◌ {A = Option Place} (other_calling calling r) None
unfolding other_calling
not_other calling r e = rw (e, same_bytes r.passport.orig) refl

-- a call that wasn't diverted goes to the one number that is called
no_links : (claims : ClaimsView) (dest : List ℕ) (called : Option (List ℕ)) → claims.dest ≡ dest ∷ [] → called ≡ Some dest → order_of claims [] called ≡ Ok []
unfolding order_of first_from undiverted
no_links claims dest called d c = rw (d, c, same_bytes dest) refl

is_fresh : (settings : Settings) (moment : ℕ) (r : Reading) → moment ≤ r.passport.iat + settings.past → r.passport.iat ≤ moment + settings.future
    → ◌≡◌ {A = Option Place} (stale settings moment r) None
unfolding stale
is_fresh settings moment r old early =
    let low : nat_lt (r.passport.iat + settings.past) moment ≡ false = grind (arith, nat_tests) in
    let high : nat_lt (moment + settings.future) r.passport.iat ≡ false = grind (arith, nat_tests) in rw (low, high) refl

-- ---- what the call is

record Hop (call : Call) (order : SignOrder) (message : MessageView) (value token_text orig dest : List ℕ) (r : Reading) : Type 0 where
  read_as : call.message ≡ Ok (with_last message field_name value)
  method : is_invite (with_last message field_name value) ≡ true
  values : values_of call ≡ value ∷ []
  field_read : read_parts value ≡ Ok (signed_parts order.form token_text order.x5u.now)
  fields : fields_of call ≡ one (signed_parts order.form token_text order.x5u.now) ∷ []
  judged : judged_fields (fields_of call) ≡ one (signed_parts order.form token_text order.x5u.now) ∷ []
  says : facts call ≡ facts_of order.local message
  calling : calling_number message order.local ≡ Some orig
  called : to_number message order.local ≡ Some dest
  read_field_as : read_field (facts_of order.local message) (one (signed_parts order.form token_text order.x5u.now)) ≡ Ok r
  readings : in_message call ≡ r ∷ []
  from : r.passport.orig ≡ orig
  to : r.passport.dest ≡ dest ∷ []
  issued : r.passport.iat ≡ order.iat
  turn : turn_of (facts call) (in_message call) ≡ Ok []
  chain : in_call_order call ≡ r ∷ []

hop : HeadLaw → AddedLaws → (bytes : List ℕ) (order : SignOrder) (holder : Option HolderView) (signs : List ℕ → List ℕ → Option (List ℕ)) (out : List ℕ) (settings : Settings) (moment : ℕ)
    (s : IsSigned bytes (view_of order) holder signs out) → IsFirstHop s.message (view_of order) settings moment
    → Hop (call_of settings moment out) order s.message (value_of (shape_of order.form) (claims_by (view_of order) s.orig s.dest) s.signature)
    (token_by (shape_of order.form) (signing_of (claims_by (view_of order) s.orig s.dest)) s.signature) s.orig s.dest (judged_of (view_of order) s.orig s.dest s.token.token)
hop head laws bytes order holder signs out settings moment s h =
    let claims : ClaimsView = claims_by (view_of order) s.orig s.dest in
    let value : List ℕ = value_of (shape_of order.form) claims s.signature in
    let text : List ℕ = token_by (shape_of order.form) (signing_of claims) s.signature in
    let field : Parts = signed_parts order.form text order.x5u.now in
    let call : Call = call_of settings moment out in
    let r : Reading = judged_of (view_of order) s.orig s.dest s.token.token in
    let e : read out ≡ Ok (with_last s.message field_name value) = (head out (with_last s.message field_name value)).1 s.added in
    let values : values_of call ≡ value ∷ [] = ap values_in e ∙ laws.identity s.message field_name value refl ∙ ap (λ (x : List (List ℕ)). x ++ value ∷ []) h.unsigned in
    let fields : fields_of call ≡ one field ∷ [] = ap (numbered 1) values ∙ fields_is value field s.field_read in
    let judged : judged_fields (fields_of call) ≡ one field ∷ [] = ap judged_fields fields ∙ judged_by order.form text order.x5u.now in
    let says : facts call ≡ facts_of order.local s.message =
    ap (facts_in settings.local) e ∙ ap (λ l. facts_of l (with_last s.message field_name value)) h.numbering ∙ same_facts laws s.message value order.local in
    let called : to_number s.message order.local ≡ Some s.dest = to_is_called order.form s.message order.local ∙ s.called in
    let reads : read_field (facts_of order.local s.message) (one field) ≡ Ok r = read_at order.local s.message (one field) claims s.token.token s.token.read_as s.token.said in
    let readings : in_message call ≡ r ∷ [] =
    ap (readings_of (facts call)) judged ∙ ap (λ f. readings_of f (one field ∷ [])) says ∙ readings_one order.local s.message field r reads in
    let turn : turn_of (facts call) (in_message call) ≡ Ok [] =
    ap (turn_of (facts call)) readings ∙ ap (λ f. turn_of f (r ∷ [])) says ∙ no_links claims s.dest (to_number s.message order.local) refl called in
    record {
      read_as = e;
      method = laws.invite s.message field_name value ∙ s.method;
      values = values;
      field_read = s.field_read;
      fields = fields;
      judged = judged;
      says = says;
      calling = s.calling;
      called = called;
      read_field_as = reads;
      readings = readings;
      from = refl;
      to = refl;
      issued = refl;
      turn = turn;
      chain = ap (λ x. in_turn x (or_none (turn_of (facts call) (in_message call)))) readings ∙ ap (λ t. in_turn (r ∷ []) (or_none t)) turn;
    }

-- ---- rule by rule

abbrev IsNone : Option Place → Type 0
IsNone found = found ≡ None

by_message : (message : MessageView) → is_invite message ≡ true → IsNone (no_invite (Ok message))
by_message message e = rw e refl

holds_all : (call : Call) (order : SignOrder) (message : MessageView) (value text orig dest : List ℕ) (r : Reading) → Hop call order message value text orig dest r
    → call.moment ≤ order.iat + call.settings.past → order.iat ≤ call.moment + call.settings.future → HoldAll early_rules call
holds_all call order message value text orig dest r h old early =
    let field : Parts = signed_parts order.form text order.x5u.now in
    let not_old : call.moment ≤ r.passport.iat + call.settings.past = subst (λ (n : ℕ). call.moment ≤ n + call.settings.past) (sym h.issued) old in
    let not_early : r.passport.iat ≤ call.moment + call.settings.future = subst (λ (n : ℕ). n ≤ call.moment + call.settings.future) (sym h.issued) early in
    let unread_none = good_at order.local message (one field) r h.read_field_as in
    let calls : (facts call).calling ≡ Some r.passport.orig = ap (λ f. f.calling) h.says ∙ h.calling ∙ ap (λ (x : List ℕ). Some x) (sym h.from) in
    let other_none = not_other (facts call).calling r calls in
    let stale_none = is_fresh call.settings call.moment r not_old not_early in
    let first_rule : Holds rule_1 call = ap no_invite h.read_as ∙ by_message (with_last message field_name value) h.method in
    let second_rule : Holds rule_2 call = ap no_identity h.values in
    let third_rule : Holds rule_3 call = ap (bad_field 1) h.values ∙ good_field value field h.field_read in
    let fourth_rule : Holds rule_4 call = ap (λ x. no_originating (originating x)) h.fields ∙ ap no_originating (originating_by order.form text order.x5u.now) in
    let fifth_rule : Holds rule_5 call = ap (each foreign_alg) h.judged in
    let sixth_rule : Holds rule_6 call =
    ap (each (unreadable (facts call))) h.judged ∙ ap (λ f. each (unreadable f) (one field ∷ [])) h.says ∙ ap (λ (x : Option Place). option_or x None) unread_none in
    let seventh_rule : Holds rule_7 call = ap (each (other_calling (facts call).calling)) h.readings ∙ ap (λ (x : Option Place). option_or x None) other_none in
    let eighth_rule : Holds rule_8 call = ap (no_order (in_message call)) h.turn in
    let ninth_rule : Holds rule_9 call = ap (each (stale call.settings call.moment)) h.chain ∙ ap (λ (x : Option Place). option_or x None) stale_none in
    (first_rule, (second_rule, (third_rule, (fourth_rule, (fifth_rule, (sixth_rule, (seventh_rule, (eighth_rule, (ninth_rule, tt)))))))))

pub first_none : (rules : List Rule) (call : Call) → HoldAll rules call → first rules call ≡ None
first_none [] call h = refl
first_none (rule ∷ others) call h = ap (λ (b : Option Place). or_later rule.number b (first others call)) h.0 ∙ first_none others call h.1

-- ---- rule 16

good_state : (world : World) (r : Reading) (state : State) → IsConfirmed world r → truth_for world r ≡ state → IsNone (forged_by world r state)
good_state world r (have judged) c e = ap (unless_good r.mark.field) (c judged e)
good_state world r no_chain c e = refl
good_state world r long c e = refl
good_state world r unread_state c e = refl

not_forged : (world : World) (r : Reading) → IsConfirmed world r → IsNone (forged world r)
unfolding forged
not_forged world r c = good_state world r (truth_for world r) c refl

-- ---- the laws

pub signed_holds : HeadLaw → AddedLaws → (bytes : List ℕ) (order : SignOrder) (holder : Option HolderView) (signs : List ℕ → List ℕ → Option (List ℕ)) (out : List ℕ) (settings : Settings)
    (moment : ℕ) (s : IsSigned bytes (view_of order) holder signs out) → IsFirstHop s.message (view_of order) settings moment → HoldAll early_rules (call_of settings moment out)
signed_holds head laws bytes order holder signs out settings moment s h =
    holds_all (call_of settings moment out) order s.message _ _ s.orig s.dest _ (hop head laws bytes order holder signs out settings moment s h) h.not_old h.not_early

pub signed_first : HeadLaw → AddedLaws → (bytes : List ℕ) (order : SignOrder) (holder : Option HolderView) (signs : List ℕ → List ℕ → Option (List ℕ)) (out : List ℕ) (settings : Settings)
    (moment : ℕ) (s : IsSigned bytes (view_of order) holder signs out) → IsFirstHop s.message (view_of order) settings moment → first early_rules (call_of settings moment out) ≡ None
signed_first head laws bytes order holder signs out settings moment s h =
    first_none early_rules (call_of settings moment out) (signed_holds head laws bytes order holder signs out settings moment s h)

pub signed_judged : HeadLaw → AddedLaws → (bytes : List ℕ) (order : SignOrder) (holder : Option HolderView) (signs : List ℕ → List ℕ → Option (List ℕ)) (out : List ℕ) (settings : Settings)
    (moment : ℕ) (s : IsSigned bytes (view_of order) holder signs out) → IsFirstHop s.message (view_of order) settings moment
    → in_call_order (call_of settings moment out) ≡ judged_of (view_of order) s.orig s.dest s.token.token ∷ []
signed_judged head laws bytes order holder signs out settings moment s h = (hop head laws bytes order holder signs out settings moment s h).chain

pub signed_asking : HeadLaw → AddedLaws → (bytes : List ℕ) (order : SignOrder) (holder : Option HolderView) (signs : List ℕ → List ℕ → Option (List ℕ)) (out : List ℕ) (settings : Settings)
    (moment : ℕ) (world : World) (s : IsSigned bytes (view_of order) holder signs out) → IsFirstHop s.message (view_of order) settings moment
    → IsConfirmed world (judged_of (view_of order) s.orig s.dest s.token.token) → Holds (asking_rule world) (call_of settings moment out)
signed_asking head laws bytes order holder signs out settings moment world s h c =
    ap (each (forged world)) (signed_judged head laws bytes order holder signs out settings moment s h)
    ∙ ap (λ (x : Option Place). option_or x None) (not_forged world (judged_of (view_of order) s.orig s.dest s.token.token) c)
