-- The rules by which a call is judged, and the first that it breaks. A rule is stated of a call only if all rules
-- before it hold; what its definition gives otherwise is never looked at.
use Rattle.std.specs.Prelude.{◌≡◌, ℕ, suc, ◌+◌, nat_lt, Bool, ◌||◌, ⊤, List, [], ◌∷◌, ◌++◌, map, slice_index_or, Option}
use Rattle.std.specs.Prelude.{Some, None, Result, Ok, Err, codes, if◌then◌else◌}
use Rattle.std.specs.Option.{option_or}
use Rattle.identity_header.specs.Parts.{Parts}
use Rattle.identity_header.specs.Read.{read as read_parts}
use Rattle.identity_header.specs.declared.field.FieldFault.{FieldFault}
use Rattle.passport_claims.specs.declared.order.ChainFault.{ChainFault}
use Rattle.sip_message.specs.Accessors.{is_invite}
use Rattle.sip_message.specs.Message.{MessageView}
use Rattle.sip_message.specs.declared.fault.FormFault.{FormFault}
use Rattle.passport_claims.specs.Passport.{is_text}
use Rattle.verify_rules.specs.Call.{Call, IdentityField, Reading, facts, fields_of, in_call_order, in_message}
use Rattle.verify_rules.specs.Call.{is_absent, judged_fields, originating, read_field, turn_of, values_of}
use Rattle.verify_rules.specs.declared.facts.Facts.{Facts}
use Rattle.verify_rules.specs.declared.refusal.Place.{Place}
use Rattle.verify_rules.specs.declared.refusal.Refusal.{Refusal}
use Rattle.verify_rules.specs.declared.settings.Settings.{Settings}

-- a rule: its number, and where a call breaks it
pub record Rule : Type 0 where
  pub number : ℕ
  pub broken : Call → Option Place

abbrev pub Holds : Rule → Call → Type 0
Holds rule call = rule.broken call ≡ None

abbrev pub HoldAll : List Rule → Call → Type 0
HoldAll [] call = ⊤
HoldAll (rule ∷ others) call = Holds rule call × HoldAll others call

abbrev pub place : ℕ → ℕ → Place
place field part = record { field = field; part = part }

abbrev pub refusal : ℕ → Place → Refusal
refusal number bad = record { rule = number; place = bad }

-- where the first of these breaks a rule, by where one breaks it
abbrev pub each : {A : Type 0} → (A → Option Place) → List A → Option Place
each broken [] = None
each broken (one ∷ others) = option_or (broken one) (each broken others)

-- ---- rule 1, bytes that are no INVITE (RFC 3261, section 21.4.1)

abbrev pub no_invite : Result MessageView FormFault → Option Place
no_invite (Ok message) = if is_invite message then None else Some (place 0 0)
no_invite (Err fault) = Some (place 0 fault.place)

-- ---- rule 2, a missing Identity field (RFC 8224, section 6.2)

abbrev pub no_identity : List (List ℕ) → Option Place
no_identity [] = Some (place 0 0)
no_identity (value ∷ others) = None

-- ---- rule 3, an Identity field outside the grammar, or one too many (RFC 8224, section 4; the limit is this project's
-- own)

abbrev pub most_fields : ℕ
most_fields = 16

abbrev pub bad_or_later : ℕ → Result Parts FieldFault → Option Place → Option Place
bad_or_later number (Ok parts) later = later
bad_or_later number (Err fault) later = Some (place number fault.place)

-- the first bad field from this number on
abbrev pub bad_field : ℕ → List (List ℕ) → Option Place
bad_field number [] = None
bad_field number (value ∷ others) = if nat_lt most_fields number then Some (place 17 0)
    else bad_or_later number (read_parts value) (bad_field (suc number) others)

-- ---- rule 4, no originating field (RFC 8224, section 6.2)

abbrev pub no_originating : Option IdentityField → Option Place
no_originating None = Some (place 0 0)
no_originating (Some field) = None

-- ---- rule 5, a foreign algorithm (RFC 8224, section 4; RFC 8225, section 4.1)

abbrev pub is_es256 : Option (List ℕ) → Bool
is_es256 alg = is_absent alg || is_text (codes "ES256") alg

abbrev pub foreign_alg : IdentityField → Option Place
foreign_alg field = if is_es256 field.parts.alg then None else Some (place field.number 0)

-- ---- rule 6, a PASSporT that can't be read (RFC 8224, section 6.2; RFC 8225, sections 3 to 5 and 7)

abbrev pub unreadable_at : ℕ → Result Reading ℕ → Option Place
unreadable_at number (Err part) = Some (place number part)
unreadable_at number (Ok one) = None

unfoldable pub unreadable : Facts → IdentityField → Option Place
unreadable said field = unreadable_at field.number (read_field said field)

-- ---- rule 7, a PASSporT for another calling number (RFC 8224, section 6.2; ATIS-1000074, section 5.3.1)

unfoldable pub other_calling : Option (List ℕ) → Reading → Option Place
other_calling calling one = if is_text one.passport.orig calling then None else Some (place one.mark.field 0)

-- ---- rule 8, links that are in no order (RFC 8946, section 4.2)

-- the field of the PASSporT with this number, which is 0 for the originating one and counts the links in message order
abbrev pub field_at : List Reading → ℕ → ℕ
field_at readings link = slice_index_or (map (λ (one : Reading). one.mark.field) readings) link 0

abbrev pub no_order : List Reading → Result (List ℕ) ChainFault → Option Place
no_order readings (Ok turn) = None
no_order readings (Err fault) = Some (place (field_at readings fault.link) fault.kind)

-- ---- rule 9, freshness (RFC 8224, section 6.2; how old and how far ahead is this project's own)

-- it is older than it may be, or further ahead
abbrev pub is_stale : Settings → ℕ → ℕ → Bool
is_stale settings moment iat = nat_lt (iat + settings.past) moment || nat_lt (moment + settings.future) iat

unfoldable pub stale : Settings → ℕ → Reading → Option Place
stale settings moment one = if is_stale settings moment one.passport.iat then Some (place one.mark.field 0) else None

-- ---- the rules

abbrev pub rule_1 : Rule
rule_1 = record { number = 1; broken = λ call. no_invite call.message }

abbrev pub rule_2 : Rule
rule_2 = record { number = 2; broken = λ call. no_identity (values_of call) }

abbrev pub rule_3 : Rule
rule_3 = record { number = 3; broken = λ call. bad_field 1 (values_of call) }

abbrev pub rule_4 : Rule
rule_4 = record { number = 4; broken = λ call. no_originating (originating (fields_of call)) }

abbrev pub rule_5 : Rule
rule_5 = record { number = 5; broken = λ call. each foreign_alg (judged_fields (fields_of call)) }

abbrev pub rule_6 : Rule
rule_6 = record { number = 6; broken = λ call. each (unreadable (facts call)) (judged_fields (fields_of call)) }

abbrev pub rule_7 : Rule
rule_7 = record { number = 7; broken = λ call. each (other_calling (facts call).calling) (in_message call) }

abbrev pub rule_8 : Rule
rule_8 = record { number = 8; broken = λ call. no_order (in_message call) (turn_of (facts call) (in_message call)) }

abbrev pub rule_9 : Rule
rule_9 = record { number = 9; broken = λ call. each (stale call.settings call.moment) (in_call_order call) }

-- those on what the PASSporTs say, on the Identity fields, and on all that the call itself says
abbrev pub chain_rules : List Rule
chain_rules = rule_7 ∷ rule_8 ∷ rule_9 ∷ []

abbrev pub field_rules : List Rule
field_rules = rule_4 ∷ rule_5 ∷ rule_6 ∷ chain_rules

-- the rules of the call, 1 to 9: what it says itself, before any certificate is looked at
abbrev pub early_rules : List Rule
early_rules = rule_1 ∷ rule_2 ∷ rule_3 ∷ field_rules

-- ---- the first broken rule

-- the refusal by this rule, or else by a later one
abbrev pub or_later : ℕ → Option Place → Option Refusal → Option Refusal
or_later number None later = later
or_later number (Some bad) later = Some (refusal number bad)

-- the first broken rule with its place
abbrev pub first : List Rule → Call → Option Refusal
first [] call = None
first (rule ∷ others) call = or_later rule.number (rule.broken call) (first others call)

-- the least rule that doesn't hold, with its place: those before it hold
pub record IsFirst (rule_list : List Rule) (call : Call) (refused : Refusal) : Type 0 where
  pub earlier : List Rule
  pub rule : Rule
  pub later : List Rule
  pub split : rule_list ≡ earlier ++ rule ∷ later
  pub hold : HoldAll earlier call
  pub number : refused.rule ≡ rule.number
  pub broken : rule.broken call ≡ Some refused.place
