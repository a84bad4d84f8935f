-- The rules of the chains, 10 to 17 and 19: what the certificate chains of a call's PASSporTs say.
-- Each is asked of a PASSporT and of what is known of its chain, in
-- the order in which the call went. A rule is stated only if those before it hold; what its definition gives otherwise
-- is never looked at.
use Rattle.std.specs.Prelude.{ℕ, Bool, true, false, ◌&&◌, ◌||◌, List, [], ◌∷◌, Option, Some, None, unwrap_or}
use Rattle.std.specs.List.{list_any, slice_get}
use Rattle.std.specs.Option.{option_or}
use Rattle.tn_auth_list.specs.declared.entries.Entry.{Entry}
use Rattle.tn_auth_list.specs.declared.entries.Entry.TheVariants.{Code, Range, Single}
use Rattle.x509_profile.specs.View.{CertView}
use Rattle.delegation.specs.Coverage.{Table}
use Rattle.delegation.specs.Decided.{covers_number}
use Rattle.cert_store.specs.Judged.{JudgedView, out_of_date}
use Rattle.cert_store.specs.Rules.{Says}
use Rattle.cert_store.specs.declared.judged.Asked.{Asked}
use Rattle.cert_store.specs.declared.judged.Asked.TheVariants.{NotAsked, Yes, No, Failed}
use Rattle.passport_claims.specs.Kind.{div_in, level_in}
use Rattle.passport_claims.specs.Passport.{ClaimsView}
use Rattle.passport_claims.specs.declared.kind.Attest.{Attest}
use Rattle.passport_claims.specs.declared.kind.Attest.TheVariants as levels
use Rattle.passport_claims.specs.declared.kind.Kind.{Kind}
use Rattle.verify_rules.specs.Call.{Reading, payload_of}
use Rattle.verify_rules.specs.Rules.{place, refusal}
use Rattle.verify_rules.specs.States.{State, have, no_chain, long, unread}
use Rattle.verify_rules.specs.Unmet.{first_unmet}
use Rattle.verify_rules.specs.declared.late.Event.{Event}
use Rattle.verify_rules.specs.declared.late.Event.TheVariants as events
use Rattle.verify_rules.specs.declared.late.LateRule.{LateRule}
use Rattle.verify_rules.specs.declared.late.LateRule.TheVariants as late
use Rattle.verify_rules.specs.declared.late.RuleResult.{RuleResult}
use Rattle.verify_rules.specs.declared.late.RuleResult.TheVariants as results

-- ---- what a rule says of one PASSporT: it holds; it is broken at this part, a certificate's number or 0; nothing,
-- since the chain isn't known; or nothing, since the provider failed at the signature of this certificate

abbrev pub by_part : Option ℕ → RuleResult
by_part None = results.Holds
by_part (Some part) = results.Broken part

abbrev pub or_broken : Bool → RuleResult
or_broken true = results.Holds
or_broken false = results.Broken 0

-- ---- rule 15, by how the signatures of the chain were answered for (RFC 5280, section 6.1.3)

abbrev pub by_answer : Asked → RuleResult
by_answer NotAsked = results.Holds
by_answer Yes = results.Holds
by_answer (No part) = results.Broken part
by_answer (Failed part) = results.Unasked part

-- ---- rule 16, the signature of the PASSporT under the leaf's key (RFC 8224, section 6.2)

abbrev pub is_signed_by : Says → Reading → Option CertView → Bool
is_signed_by says one None = false
is_signed_by says one (Some leaf) = says leaf.key one.mark.digest one.mark.signature

-- ---- rule 17, what the leaf's authority must cover (ATIS-1000074, section 5.2.3; RFC 8946, section 4.2; which
-- attestation asks for which coverage is this project's own rule)

abbrev pub is_code : Entry → Bool
is_code (Code code) = true
is_code (Range span) = false
is_code (Single own) = false

-- whether an attestation lets any service provider code do: the partial one and that of a gateway
abbrev pub is_partial : Attest → Bool
is_partial levels.A = false
is_partial levels.B = true
is_partial levels.C = true

abbrev pub allows_code : Option Attest → Bool
allows_code None = false
allows_code (Some level) = is_partial level

-- the number that a PASSporT vouches for: the diverted one of a diversion, and else the calling one
abbrev pub vouched : List ℕ → Option (List ℕ) → List ℕ
vouched orig diverted = unwrap_or diverted orig

-- by the entries of the leaf's list: they cover the number that the PASSporT vouches for; or any code is among them, if
-- its attestation allows it
abbrev pub covers_kind : Table → List Entry → List ℕ → Kind → Bool
covers_kind table entries orig kind = covers_number entries table (vouched orig (div_in kind))
    || (allows_code (level_in kind) && list_any is_code entries)

-- that there is a list is rule 14
abbrev pub covers_by : Table → ClaimsView → Option (List Entry) → Bool
covers_by table passport None = false
covers_by table passport (Some entries) = covers_kind table entries passport.orig passport.kind

abbrev pub covers_leaf : Table → ClaimsView → Option CertView → Bool
covers_leaf table passport None = false
covers_leaf table passport (Some leaf) = covers_by table passport leaf.list

-- ---- the rules but 16, which asks the provider

abbrev pub number : LateRule → ℕ
number late.Listed = 10
number late.Profile = 11
number late.Shape = 12
number late.Dates = 13
number late.Authority = 14
number late.Asked = 15
number late.Covers = 17
number late.Constraints = 19

-- of a chain that was judged
abbrev pub tell_judged : LateRule → Table → ℕ → Reading → JudgedView → RuleResult
tell_judged late.Listed table moment one judged = results.Holds
tell_judged late.Profile table moment one judged = by_part judged.profile
tell_judged late.Shape table moment one judged = by_part judged.shape
tell_judged late.Dates table moment one judged = by_part (out_of_date judged moment)
tell_judged late.Authority table moment one judged = by_part judged.authority
tell_judged late.Asked table moment one judged = by_answer judged.asked
tell_judged late.Covers table moment one judged =
    or_broken (covers_leaf table one.passport (slice_get judged.certificates 0))
tell_judged late.Constraints table moment one judged = by_part (first_unmet (payload_of one) 1 judged.certificates)

-- rule 10 alone looks at a chain that isn't there (RFC 8224, section 6.2.2)
abbrev pub tell_missing : LateRule → RuleResult
tell_missing late.Listed = results.Broken 0
tell_missing late.Profile = results.Holds
tell_missing late.Shape = results.Holds
tell_missing late.Dates = results.Holds
tell_missing late.Authority = results.Holds
tell_missing late.Asked = results.Holds
tell_missing late.Covers = results.Holds
tell_missing late.Constraints = results.Holds

-- rule 11 alone looks at one whose file is too long (the limit is this project's own)
abbrev pub tell_long : LateRule → RuleResult
tell_long late.Listed = results.Holds
tell_long late.Profile = results.Broken 0
tell_long late.Shape = results.Holds
tell_long late.Dates = results.Holds
tell_long late.Authority = results.Holds
tell_long late.Asked = results.Holds
tell_long late.Covers = results.Holds
tell_long late.Constraints = results.Holds

-- of a chain that isn't known no rule says anything
abbrev pub tell : LateRule → Table → ℕ → Reading → State → RuleResult
tell rule table moment one (have judged) = tell_judged rule table moment one judged
tell rule table moment one no_chain = tell_missing rule
tell rule table moment one long = tell_long rule
tell rule table moment one unread = results.Unknown

-- ---- the first event: a rule is broken, a chain isn't known, or whether a certificate is signed isn't known

abbrev pub event_of : ℕ → ℕ → RuleResult → Option Event
event_of rule field results.Holds = None
event_of rule field (results.Broken part) = Some (events.Refused (refusal rule (place field part)))
event_of rule field results.Unknown = Some (events.Unread (place field 0))
event_of rule field (results.Unasked part) = Some (events.Unasked (place field part))

-- what a rule makes of one PASSporT
unfoldable pub at_rule : LateRule → Table → ℕ → Reading → State → Option Event
at_rule rule table moment one state = event_of (number rule) one.mark.field (tell rule table moment one state)

-- what rule 16 makes of it
abbrev pub unless_signed : ℕ → Bool → Option Event
unless_signed field true = None
unless_signed field false = Some (events.Refused (refusal 16 (place field 0)))

unfoldable pub at_asking : Says → Reading → State → Option Event
at_asking says one (have judged) =
    unless_signed one.mark.field (is_signed_by says one (slice_get judged.certificates 0))
at_asking says one no_chain = None
at_asking says one long = None
at_asking says one unread = Some (events.Unread (place one.mark.field 0))

-- the first that something makes of the PASSporTs, in the order in which the call went
abbrev pub first_of : (Reading → State → Option Event) → List Reading → List State → Option Event
first_of at [] states = None
first_of at (one ∷ others) [] = None
first_of at (one ∷ others) (state ∷ states) = option_or (at one state) (first_of at others states)

abbrev pub rule_event : LateRule → Table → ℕ → List Reading → List State → Option Event
rule_event rule table moment readings states = first_of (at_rule rule table moment) readings states

abbrev pub asking : Says → List Reading → List State → Option Event
asking says readings states = first_of (at_asking says) readings states

-- the first of these rules that makes something of them
abbrev pub first_rule : List LateRule → Table → ℕ → List Reading → List State → Option Event
first_rule [] table moment readings states = None
first_rule (rule ∷ rules) table moment readings states =
    option_or (rule_event rule table moment readings states) (first_rule rules table moment readings states)

-- those before rule 16, and those after it
abbrev pub rules_before : List LateRule
rules_before = late.Listed ∷ late.Profile ∷ late.Shape ∷ late.Dates ∷ late.Authority ∷ late.Asked ∷ []

abbrev pub rules_after : List LateRule
rules_after = late.Covers ∷ late.Constraints ∷ []

abbrev pub first_event : Says → Table → ℕ → List Reading → List State → Option Event
first_event says table moment readings states =
    option_or (first_rule rules_before table moment readings states)
    (option_or (asking says readings states) (first_rule rules_after table moment readings states))
