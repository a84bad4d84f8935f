-- The rules of the chains of a call with a link more.
use Rattle.std.proofs.Common.{◌≡◌, ℕ, true, List, [], ◌∷◌, ◌++◌, map, Option, Some, None, refl, sym, ◌∙◌, ap}
use Rattle.std.specs.Option.{option_or}
use Rattle.std.specs.Prelude.{⊤}
use Rattle.tn_auth_list.specs.declared.entries.Entry.{Entry}
use Rattle.delegation.specs.Coverage.{Table}
use Rattle.verify_rules.specs.Call.{Call, Reading, in_call_order}
use Rattle.verify_rules.specs.Late.{covers_by, covers_kind, covers_leaf, is_signed_by, or_broken, rules_after, rules_before, tell}
use Rattle.verify_rules.specs.Rules.{HoldAll, Holds, Rule, each}
use Rattle.verify_rules.specs.States.{State, have, no_chain, long, unread}
use Rattle.verify_rules.specs.World.{World, asking_rule, broken_by, forged, forged_by, late_rule, part_at, truth_for, unless_good}
use Rattle.verify_rules.specs.declared.late.LateRule.{LateRule}
use Rattle.verify_rules.specs.declared.late.LateRule.TheVariants as late
use Rattle.verify_rules.specs.declared.refusal.Place.{Place}
use Rattle.verify_rules.specs.More.{AreInDate, HasGoodChain, HoldsOf, LinkMore}

-- each of these and one more
each_more : (broken : Reading → Option Place) (xs : List Reading) (y : Reading) → each broken xs ≡ None → broken y ≡ None → each broken (xs ++ y ∷ []) ≡ None
each_more broken [] y h k = ap (λ o. option_or o None) k
each_more broken (x ∷ xs) y h k = by_first (λ h. each_more broken xs y h k) (broken x) refl h where
  by_first : (each broken xs ≡ None → each broken (xs ++ y ∷ []) ≡ None) → (o : Option Place) → broken x ≡ o → option_or o (each broken xs) ≡ None
      → option_or (broken x) (each broken (xs ++ y ∷ [])) ≡ None
  by_first more (Some bad) e h = absurd (cc)
  by_first more None e h = ap (λ o. option_or o (each broken (xs ++ y ∷ []))) e ∙ more h

-- ---- no rule but that on dates looks at the moment

abbrev Undated : LateRule → Type 0
Undated rule = (world : World) (moment later : ℕ) (one : Reading) → broken_by world rule moment one ≡ broken_by world rule later one

-- every rule but 13
abbrev IsUndated : LateRule → Type 0
IsUndated late.Dates = ⊥
IsUndated rule = ⊤

same_told : (rule : LateRule) → IsUndated rule → (table : Table) (moment later : ℕ) (one : Reading) (state : State) → tell rule table moment one state ≡ tell rule table later one state
same_told late.Dates none table moment later one state = absurd none
same_told rule is table moment later one (have judged) = refl
same_told rule is table moment later one no_chain = refl
same_told rule is table moment later one long = refl
same_told rule is table moment later one unread = refl

undated : (rule : LateRule) → IsUndated rule → Undated rule
unfolding broken_by
undated rule is world moment later one = ap (part_at one.mark.field) (same_told rule is world.table moment later one (truth_for world one))

each_undated : (rule : LateRule) → Undated rule → (world : World) (moment later : ℕ) (xs : List Reading) → each (broken_by world rule moment) xs ≡ each (broken_by world rule later) xs
each_undated rule u world moment later [] = refl
each_undated rule u world moment later (x ∷ xs) = ap (λ o. option_or o (each (broken_by world rule moment) xs)) (u world moment later x) ∙ ap (option_or (broken_by world rule later x)) (each_undated rule u world moment later xs)

rule_more : (rule : LateRule) → Undated rule → (world : World) (call out : Call) (link : Reading) → in_call_order out ≡ in_call_order call ++ link ∷ []
    → Holds (late_rule world rule) call → HoldsOf world rule out.moment link → Holds (late_rule world rule) out
rule_more rule u world call out link e h k =
    ap (each (broken_by world rule out.moment)) e
    ∙ each_more (broken_by world rule out.moment) (in_call_order call) link (sym (each_undated rule u world call.moment out.moment (in_call_order call)) ∙ h) k

-- the leaf covers what the link vouches for
link_covered : (world : World) (moment : ℕ) (link : Reading) (entries : List Entry) → HasGoodChain world moment link entries
    → covers_kind world.table entries link.passport.orig link.passport.kind ≡ true → HoldsOf world late.Covers moment link
unfolding broken_by
link_covered world moment link entries g c =
    ap (λ s. part_at link.mark.field (tell late.Covers world.table moment link s)) g.chain
    ∙ ap (λ l. part_at link.mark.field (or_broken (covers_leaf world.table link.passport l))) g.first
    ∙ ap (λ l. part_at link.mark.field (or_broken (covers_by world.table link.passport l))) g.list
    ∙ ap (λ b. part_at link.mark.field (or_broken b)) c

-- and its key signed it
link_genuine : (world : World) (moment : ℕ) (link : Reading) (entries : List Entry) → HasGoodChain world moment link entries → ◌≡◌ {A = Option Place} (forged world link) None
unfolding forged
link_genuine world moment link entries g =
    ap (forged_by world link) g.chain ∙ ap (λ l. unless_good link.mark.field (is_signed_by world.says link l)) g.first ∙ ap (unless_good link.mark.field) g.genuine

-- a rule that holds of the call, holds of it with the link
abbrev Lasts : World → Call → Call → LateRule → Type 0
Lasts world call out rule = Holds (late_rule world rule) call → Holds (late_rule world rule) out

rule_lasts : (world : World) (call out : Call) (link : Reading) (entries : List Entry) → in_call_order out ≡ in_call_order call ++ link ∷ [] → AreInDate world out
    → HasGoodChain world out.moment link entries → covers_kind world.table entries link.passport.orig link.passport.kind ≡ true → (rule : LateRule) → Lasts world call out rule
rule_lasts world call out link entries e dates good covered late.Dates h = dates
rule_lasts world call out link entries e dates good covered late.Covers h =
    rule_more late.Covers (undated late.Covers tt) world call out link e h (link_covered world out.moment link entries good covered)
rule_lasts world call out link entries e dates good covered rule h = rule_more rule (undated rule tt) world call out link e h (good.rules rule tt)

all_last : (world : World) (call out : Call) → ((rule : LateRule) → Lasts world call out rule) → (rules : List LateRule) (later : List Rule) → (HoldAll later call → HoldAll later out)
    → HoldAll (map (late_rule world) rules ++ later) call → HoldAll (map (late_rule world) rules ++ later) out
all_last world call out lasts [] later more h = more h
all_last world call out lasts (rule ∷ rules) later more h = (lasts rule h.0, all_last world call out lasts rules later more h.1)

pub link_more : LinkMore
link_more world call out link entries e hold dates good covered =
    let lasts : (rule : LateRule) → Lasts world call out rule = λ rule. rule_lasts world call out link entries e dates good covered rule in
    let genuine : each (forged world) (in_call_order call) ≡ None → each (forged world) (in_call_order out) ≡ None =
    λ g. ap (each (forged world)) e ∙ each_more (forged world) (in_call_order call) link g (link_genuine world out.moment link entries good) in
    all_last world call out lasts rules_before (asking_rule world ∷ map (late_rule world) rules_after)
    (λ h. (genuine h.0, all_last world call out lasts rules_after [] (λ end. end) h.1)) hold
