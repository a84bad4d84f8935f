-- The first broken rule is broken, and those before it hold.
use Rattle.std.proofs.Common.{◌≡◌, List, [], ◌∷◌, ◌++◌, Option, Some, None, Result, Ok, Err, refl, ◌∙◌, ap, subst}
use Rattle.verify_rules.specs.Call.{Call}
use Rattle.verify_rules.specs.Rules.{HoldAll, IsFirst, Rule, first, or_later, refusal}
use Rattle.verify_rules.specs.Screened.{IsFirstBefore, IsLeast, IsScreenedBy, ScreenedView}
use Rattle.verify_rules.specs.declared.refusal.Place.{Place}
use Rattle.verify_rules.specs.declared.refusal.Refusal.{Refusal}
use Rattle.verify_rules.specs.declared.refusal.ScreenFault.{ScreenFault}
use Rattle.verify_rules.specs.declared.refusal.ScreenFault.TheVariants.{Refused, Memory}

-- ---- one rule

pub holds : (rule : Rule) (others : List Rule) (call : Call) → rule.broken call ≡ None → first (rule ∷ others) call ≡ first others call
holds rule others call e = ap (λ x. or_later rule.number x (first others call)) e

pub breaks : (rule : Rule) (others : List Rule) (call : Call) (bad : Place) → rule.broken call ≡ Some bad → first (rule ∷ others) call ≡ Some (refusal rule.number bad)
breaks rule others call bad e = ap (λ x. or_later rule.number x (first others call)) e

-- ---- the least

first_by : (rule : Rule) (others : List Rule) (call : Call) (refused : Refusal) (k : Option Place) → rule.broken call ≡ k
    → (first others call ≡ Some refused → IsFirst others call refused) → or_later rule.number k (first others call) ≡ Some refused → IsFirst (rule ∷ others) call refused
first_by rule others call refused None e below h =
    let f = below h in
    record { earlier = rule ∷ f.earlier; rule = f.rule; later = f.later; split = ap (λ x. rule ∷ x) f.split; hold = (e, f.hold); number = f.number; broken = f.broken }
first_by rule others call refused (Some bad) e below h =
    let same : refusal rule.number bad ≡ refused = cc in
    subst (IsFirst (rule ∷ others) call) same (record { earlier = []; rule = rule; later = others; split = refl; hold = tt; number = refl; broken = e })

first_is : (rules : List Rule) (call : Call) (refused : Refusal) → first rules call ≡ Some refused → IsFirst rules call refused
first_is [] call refused h = absurd cc
first_is (rule ∷ others) call refused h = first_by rule others call refused (rule.broken call) refl (first_is others call refused) h

none_by : (rule : Rule) (others : List Rule) (call : Call) (k : Option Place) → rule.broken call ≡ k
    → (first others call ≡ None → HoldAll others call) → or_later rule.number k (first others call) ≡ None → HoldAll (rule ∷ others) call
none_by rule others call None e below h = (e, below h)
none_by rule others call (Some bad) e below h = absurd cc

pub none_broken : (rules : List Rule) (call : Call) → first rules call ≡ None → HoldAll rules call
none_broken [] call h = tt
none_broken (rule ∷ others) call h = none_by rule others call (rule.broken call) refl (none_broken others call) h

pub none_first : (rules : List Rule) (call : Call) → HoldAll rules call → first rules call ≡ None
none_first [] call h = refl
none_first (rule ∷ others) call h = holds rule others call h.0 ∙ none_first others call h.1

pub least : (rules : List Rule) (call : Call) (result : Result ScreenedView ScreenFault) → IsScreenedBy rules call result → IsLeast rules call result
least rules call (Ok screened) h = none_broken rules call h.0
least rules call (Err (Refused refused)) h = first_is rules call refused h
least rules call (Err Memory) h = tt

-- ---- rules after these

left_over : (rules late : List Rule) (call : Call) → HoldAll rules call → first (rules ++ late) call ≡ first late call
left_over [] late call h = refl
left_over (rule ∷ others) late call h = holds rule (others ++ late) call h.0 ∙ left_over others late call h.1

refused_by : (rule : Rule) (others late : List Rule) (call : Call) (refused : Refusal) (k : Option Place) → rule.broken call ≡ k
    → (first others call ≡ Some refused → first (others ++ late) call ≡ Some refused) → or_later rule.number k (first others call) ≡ Some refused → or_later rule.number k (first (others ++ late) call) ≡ Some refused
refused_by rule others late call refused None e below h = below h
refused_by rule others late call refused (Some bad) e below h = h

still_refused : (rules late : List Rule) (call : Call) (refused : Refusal) → first rules call ≡ Some refused → first (rules ++ late) call ≡ Some refused
still_refused [] late call refused h = absurd cc
still_refused (rule ∷ others) late call refused h = refused_by rule others late call refused (rule.broken call) refl (still_refused others late call refused) h

pub first_before : (rules late : List Rule) (call : Call) (result : Result ScreenedView ScreenFault) → IsScreenedBy rules call result → IsFirstBefore rules late call result
first_before rules late call (Ok screened) h = left_over rules late call (none_broken rules call h.0)
first_before rules late call (Err (Refused refused)) h = still_refused rules late call refused h
first_before rules late call (Err Memory) h = tt
