-- What a rule on chains says if it leaves nothing open: it holds or is broken, so no event of it sets a call aside.
use Rattle.std.proofs.Common.{◌≡◌, ℕ, Bool, true, false, List, [], ◌∷◌, Option, Some, None}
use Rattle.std.specs.List.{list_all}
use Rattle.std.specs.Prelude.{⊤}
use Rattle.std.proofs.lemmas.Bool.{and_parts}
use Rattle.cert_store.specs.Judged.{JudgedView}
use Rattle.delegation.specs.Coverage.{Table}
use Rattle.verify_rules.specs.Call.{Reading}
use Rattle.verify_rules.specs.Late.{by_part, event_of, or_broken, tell_judged, tell_long, tell_missing}
use Rattle.verify_rules.specs.declared.late.Event.{Event}
use Rattle.verify_rules.specs.declared.late.Event.TheVariants as events
use Rattle.verify_rules.specs.declared.late.LateRule.{LateRule}
use Rattle.verify_rules.specs.declared.late.LateRule.TheVariants as late
use Rattle.verify_rules.specs.declared.late.RuleResult.{RuleResult}
use Rattle.verify_rules.specs.declared.late.RuleResult.TheVariants as results

-- the rule holds, or it is broken
abbrev pub IsDefinite : RuleResult → Type 0
IsDefinite results.Holds = ⊤
IsDefinite (results.Broken part) = ⊤
IsDefinite results.Unknown = ⊥
IsDefinite (results.Unasked part) = ⊥

part_definite : (part : Option ℕ) → IsDefinite (by_part part)
part_definite None = tt
part_definite (Some part) = tt

test_definite : (t : Bool) → IsDefinite (or_broken t)
test_definite true = tt
test_definite false = tt

-- every rule but 15
abbrev pub AsksNothing : LateRule → Type 0
AsksNothing late.Asked = ⊥
AsksNothing rule = ⊤

-- all of these rules
abbrev pub AskNothing : List LateRule → Type 0
AskNothing [] = ⊤
AskNothing (rule ∷ rules) = AsksNothing rule × AskNothing rules

abbrev is_other : LateRule → Bool
is_other late.Asked = false
is_other rule = true

asks_nothing : (rule : LateRule) → is_other rule ≡ true → AsksNothing rule
asks_nothing late.Asked e = absurd cc
asks_nothing rule e = tt

pub ask_nothing : (rules : List LateRule) → list_all is_other rules ≡ true → AskNothing rules
ask_nothing [] all = tt
ask_nothing (rule ∷ rules) all =
    let parts = and_parts (is_other rule) (list_all is_other rules) all in (asks_nothing rule parts.0, ask_nothing rules parts.1)

-- of a chain that was judged
pub judged_definite : (rule : LateRule) (table : Table) (moment : ℕ) (one : Reading) (judged : JudgedView) → AsksNothing rule → IsDefinite (tell_judged rule table moment one judged)
judged_definite late.Listed table moment one judged nothing = tt
judged_definite late.Profile table moment one judged nothing = part_definite _
judged_definite late.Shape table moment one judged nothing = part_definite _
judged_definite late.Dates table moment one judged nothing = part_definite _
judged_definite late.Authority table moment one judged nothing = part_definite _
judged_definite late.Asked table moment one judged nothing = absurd nothing
judged_definite late.Covers table moment one judged nothing = test_definite _
judged_definite late.Constraints table moment one judged nothing = part_definite _

-- of one that isn't there, and of one whose file is too long
pub unjudged_definite : (rule : LateRule) → IsDefinite (tell_missing rule) × IsDefinite (tell_long rule)
unjudged_definite late.Listed = (tt, tt)
unjudged_definite late.Profile = (tt, tt)
unjudged_definite rule = (tt, tt)

-- ---- the event of it

-- the call is set aside by it
abbrev pub IsSetAside : Option Event → Type 0
IsSetAside None = ⊥
IsSetAside (Some (events.Refused refused)) = ⊥
IsSetAside (Some (events.Unread bad)) = ⊤
IsSetAside (Some (events.Unasked bad)) = ⊤

pub definite_event : (n field : ℕ) (said : RuleResult) → IsDefinite said → IsSetAside (event_of n field said) → ⊥
definite_event n field results.Holds d aside = aside
definite_event n field (results.Broken part) d aside = aside
definite_event n field results.Unknown d aside = d
definite_event n field (results.Unasked part) d aside = d
