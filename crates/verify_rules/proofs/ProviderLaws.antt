-- What the late rules take of a provider of signatures.
use Rattle.std.proofs.Common.{◌≡◌, ℕ, Bool, true, false, cond, nat_lt, List, [], ◌∷◌, length, map, Option, Some, None, refl, ◌∙◌, ap}
use Rattle.delegation.specs.Coverage.{Table}
use Rattle.cert_store.specs.Judged.{JudgedView, judged_of}
use Rattle.cert_store.specs.Rules.{Says}
use Rattle.lists.proofs.Options.{or_same}
use Rattle.verify_rules.specs.Call.{Call, Reading, in_call_order}
use Rattle.verify_rules.specs.Late.{number, rules_after, tell, tell_judged}
use Rattle.verify_rules.specs.Rules.{each, first, or_later}
use Rattle.verify_rules.specs.States.{State, have, long}
use Rattle.verify_rules.specs.World.{World, broken_by, certificate_rules, content_of, forged, late_rule, part_at, signature_rules, truth_by, truth_for, truth_of, truths, unsigned_rules, with_says}
use Rattle.verify_rules.specs.declared.late.LateRule.{LateRule}
use Rattle.verify_rules.specs.declared.late.LateRule.TheVariants as late
use Rattle.verify_rules.specs.declared.refusal.Place.{Place}
use Rattle.verify_rules.specs.declared.refusal.Refusal.{Refusal}
use Rattle.verify_rules.proofs.ResultLaws.{AskNothing, AsksNothing}

-- ---- one rule more

later_same : (n : ℕ) (mine yours : Option Place) (later later_now : Option Refusal) → mine ≡ yours → later ≡ later_now → or_later n mine later ≡ or_later n yours later_now
later_same n mine yours later later_now same more = ap (λ (x : Option Place). or_later n x later) same ∙ ap (or_later n yours) more

-- ---- rules that ask for no signature

-- what a rule says of a chain, without how its signatures were answered for
abbrev Tells : LateRule → Table → ℕ → Reading → State → State → Type 0
Tells rule table moment one state other = tell rule table moment one state ≡ tell rule table moment one other

-- the rule doesn't look at how the signatures of a chain were answered for
abbrev IsUnsigned : LateRule → Type 0
IsUnsigned rule = (table : Table) (moment : ℕ) (one : Reading) (judged other : JudgedView) → judged ≡ record other { asked = judged.asked }
    → tell_judged rule table moment one judged ≡ tell_judged rule table moment one other

unsigned : (rule : LateRule) → AsksNothing rule → IsUnsigned rule
unsigned late.Asked nothing table moment one judged other same = absurd nothing
unsigned rule nothing table moment one judged other same = ap (tell_judged rule table moment one) same

judged_same : (world : World) (other : Says) (bytes : List ℕ)
    → judged_of world.anchors world.table other bytes ≡ record (judged_of world.anchors world.table world.says bytes) { asked = (judged_of world.anchors world.table other bytes).asked }
unfolding judged_of
judged_same world other bytes = refl

size_same : (world : World) (other : Says) (rule : LateRule) (moment : ℕ) (one : Reading) (bytes : List ℕ) (t : Bool) → IsUnsigned rule
    → Tells rule world.table moment one (cond t long (have (judged_of world.anchors world.table other bytes))) (cond t long (have (judged_of world.anchors world.table world.says bytes)))
size_same world other rule moment one bytes true unsigned = refl
size_same world other rule moment one bytes false unsigned =
    unsigned world.table moment one (judged_of world.anchors world.table other bytes) (judged_of world.anchors world.table world.says bytes) (judged_same world other bytes)

content_same : (world : World) (other : Says) (rule : LateRule) (moment : ℕ) (one : Reading) (content : Option (List ℕ)) → IsUnsigned rule
    → Tells rule world.table moment one (truth_by (with_says world other) content) (truth_by world content)
content_same world other rule moment one None unsigned = refl
content_same world other rule moment one (Some bytes) unsigned = size_same world other rule moment one bytes (nat_lt 49152 (length bytes)) unsigned

tells_same : (world : World) (other : Says) (rule : LateRule) (moment : ℕ) (one : Reading) → IsUnsigned rule
    → Tells rule world.table moment one (truth_for (with_says world other) one) (truth_for world one)
unfolding truth_of
tells_same world other rule moment one unsigned = content_same world other rule moment one (content_of world one.passport.x5u) unsigned

unsigned_same : (world : World) (other : Says) (rule : LateRule) (moment : ℕ) (readings : List Reading) → IsUnsigned rule
    → each (broken_by (with_says world other) rule moment) readings ≡ each (broken_by world rule moment) readings
unfolding broken_by
unsigned_same world other rule moment [] unsigned = refl
unsigned_same world other rule moment (one ∷ readings) unsigned =
    or_same _ _ _ _ (ap (part_at one.mark.field) (tells_same world other rule moment one unsigned)) (λ none. unsigned_same world other rule moment readings unsigned)

-- each of these rules
each_unsigned : (world : World) (other : Says) (call : Call) (rules : List LateRule) → AskNothing rules
    → first (map (late_rule (with_says world other)) rules) call ≡ first (map (late_rule world) rules) call
each_unsigned world other call [] nothing = refl
each_unsigned world other call (rule ∷ rules) nothing =
    later_same (number rule) _ _ _ _ (unsigned_same world other rule call.moment (in_call_order call) (unsigned rule nothing.0)) (each_unsigned world other call rules nothing.1)

pub certificates_same : (world : World) (other : Says) (call : Call) → first (certificate_rules (with_says world other)) call ≡ first (certificate_rules world) call
certificates_same world other call = each_unsigned world other call unsigned_rules (tt, (tt, (tt, (tt, (tt, tt)))))

-- ---- rules over the same chains

head_same : (a b : State) (before behind : List State) → ◌≡◌ {A = List State} (a ∷ before) (b ∷ behind) → a ≡ b
head_same a b before behind e = cc

tail_same : (a b : State) (before behind : List State) → ◌≡◌ {A = List State} (a ∷ before) (b ∷ behind) → before ≡ behind
tail_same a b before behind e = cc

chains_same : (world : World) (other : Says) (rule : LateRule) (moment : ℕ) (readings : List Reading) → truths (with_says world other) readings ≡ truths world readings
    → each (broken_by (with_says world other) rule moment) readings ≡ each (broken_by world rule moment) readings
unfolding broken_by
chains_same world other rule moment [] same = refl
chains_same world other rule moment (one ∷ readings) same =
    let here : truth_for (with_says world other) one ≡ truth_for world one = head_same _ _ _ _ same in
    let rest : truths (with_says world other) readings ≡ truths world readings = tail_same _ _ _ _ same in
    or_same _ _ _ _ (ap (λ (state : State). part_at one.mark.field (tell rule world.table moment one state)) here) (λ none. chains_same world other rule moment readings rest)

-- each of these rules
each_same : (world : World) (other : Says) (call : Call) (rules : List LateRule) → truths (with_says world other) (in_call_order call) ≡ truths world (in_call_order call)
    → first (map (late_rule (with_says world other)) rules) call ≡ first (map (late_rule world) rules) call
each_same world other call [] chains = refl
each_same world other call (rule ∷ rules) chains =
    later_same (number rule) _ _ _ _ (chains_same world other rule call.moment (in_call_order call) chains) (each_same world other call rules chains)

pub signatures_same : (world : World) (other : Says) (call : Call) → truths (with_says world other) (in_call_order call) ≡ truths world (in_call_order call)
    → each (forged (with_says world other)) (in_call_order call) ≡ each (forged world) (in_call_order call)
    → first (signature_rules (with_says world other)) call ≡ first (signature_rules world) call
signatures_same world other call chains own =
    later_same 15 _ _ _ _ (chains_same world other late.Asked call.moment (in_call_order call) chains)
    (later_same 16 _ _ _ _ own (each_same world other call rules_after chains))
