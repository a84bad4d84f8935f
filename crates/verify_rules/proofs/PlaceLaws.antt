-- The place of a refusal is where its rule is broken, and that is at the first of which the rule doesn't hold.
use Rattle.std.proofs.Common.{◌≡◌, ◌↔◌, ◌<◌, List, [], ◌∷◌, ◌++◌, Option, Some, None, refl, sym, ◌∙◌, ap, arith}
use Rattle.std.specs.Prelude.{⊤}
use Rattle.std.specs.Option.{option_or}
use Rattle.verify_rules.specs.Call.{Call}
use Rattle.verify_rules.specs.Places.{IsFirstWrong}
use Rattle.verify_rules.specs.Rules.{HoldAll, Rule, each, first, or_later}
use Rattle.verify_rules.specs.Words.{Each}
use Rattle.verify_rules.specs.declared.refusal.Place.{Place}
use Rattle.verify_rules.specs.declared.refusal.Refusal.{Refusal}
use Rattle.verify_rules.proofs.WordLaws.{AllAbove, AllBelow, above}

-- ---- the rule that refuses

-- it is broken at the place of the refusal, and those before it hold
pub record IsBroken (front : List Rule) (rule : Rule) (call : Call) (refused : Refusal) : Type 0 where
  pub broken : rule.broken call ≡ Some refused.place
  pub hold : HoldAll front call

here_by : (rule : Rule) (later : List Rule) (call : Call) (refused : Refusal) (k : Option Place) → rule.broken call ≡ k → (first later call ≡ Some refused → rule.number < refused.rule)
    → or_later rule.number k (first later call) ≡ Some refused → refused.rule ≡ rule.number → IsBroken [] rule call refused
here_by rule later call refused None e high h is = let more = high h in absurd (omega (arith, more, is))
here_by rule later call refused (Some bad) e high h is = let same : bad ≡ refused.place = cc in record { broken = e ∙ ap (λ x. Some x) same; hold = tt }

behind_by : (before : Rule) (front : List Rule) (rule : Rule) (later : List Rule) (call : Call) (refused : Refusal) (k : Option Place) → before.number < rule.number → before.broken call ≡ k
    → (first (front ++ rule ∷ later) call ≡ Some refused → IsBroken front rule call refused) → or_later before.number k (first (front ++ rule ∷ later) call) ≡ Some refused
    → refused.rule ≡ rule.number → IsBroken (before ∷ front) rule call refused
behind_by before front rule later call refused None low e below h is = let b = below h in record { broken = b.broken; hold = (e, b.hold) }
behind_by before front rule later call refused (Some bad) low e below h is = let same : before.number ≡ refused.rule = cc in absurd (omega (arith, low, is, same))

pub broken_at : (front : List Rule) (rule : Rule) (later : List Rule) (call : Call) (refused : Refusal) → AllBelow rule.number front → AllAbove rule.number later
    → first (front ++ rule ∷ later) call ≡ Some refused → refused.rule ≡ rule.number → IsBroken front rule call refused
broken_at [] rule later call refused low high h is = here_by rule later call refused (rule.broken call) refl (above rule.number later call refused high) h is
broken_at (before ∷ front) rule later call refused low high h is =
    behind_by before front rule later call refused (before.broken call) low.0 refl (λ rest. broken_at front rule later call refused low.1 high rest is) h is

-- ---- the first of which it doesn't hold

-- this is it, and it is broken there at this place
pub record IsWrongAt {A : Type 0} (broken : A → Option Place) (Q P : A → Type 0) (items : List A) (bad : Place) : Type 0 where
  pub wrong : A
  pub is : IsFirstWrong P items wrong
  pub met : Q wrong
  pub at : broken wrong ≡ Some bad

wrong_by : {A : Type 0} (broken : A → Option Place) (Q P : A → Type 0) (item : A) (items : List A) (bad : Place) (k : Option Place) → (broken item ≡ None) ↔ P item → Q item
    → (each broken items ≡ Some bad → IsWrongAt broken Q P items bad) → broken item ≡ k → option_or k (each broken items) ≡ Some bad → IsWrongAt broken Q P (item ∷ items) bad
wrong_by broken Q P item items bad None iff met below e h =
    let w = below h in
    record {
      wrong = w.wrong;
      is = record { before = item ∷ w.is.before; behind = w.is.behind; split = ap (λ x. item ∷ x) w.is.split; hold = (iff.0 e, w.is.hold); fails = w.is.fails };
      met = w.met;
      at = w.at;
    }
wrong_by broken Q P item items bad (Some other) iff met below e h =
    record {
      wrong = item;
      is = record { before = []; behind = items; split = refl; hold = tt; fails = λ p. let none : Some other ≡ None = sym e ∙ iff.1 p in absurd cc };
      met = met;
      at = e ∙ h;
    }

pub each_wrong_of : {A : Type 0} (broken : A → Option Place) (Q P : A → Type 0) → ((one : A) → Q one → (broken one ≡ None) ↔ P one) → (items : List A) (bad : Place) → Each Q items
    → each broken items ≡ Some bad → IsWrongAt broken Q P items bad
each_wrong_of broken Q P one [] bad met h = absurd cc
each_wrong_of broken Q P one (item ∷ items) bad met h =
    wrong_by broken Q P item items bad (broken item) (one item met.0) met.0 (each_wrong_of broken Q P one items bad met.1) refl h

-- of any
abbrev pub Any : {A : Type 0} → A → Type 0
Any one = ⊤

all_any : {A : Type 0} (items : List A) → Each Any items
all_any [] = tt
all_any (item ∷ items) = (tt, all_any items)

pub each_wrong : {A : Type 0} (broken : A → Option Place) (P : A → Type 0) → ((one : A) → (broken one ≡ None) ↔ P one) → (items : List A) (bad : Place) → each broken items ≡ Some bad
    → IsWrongAt broken Any P items bad
each_wrong broken P one items bad h = each_wrong_of broken Any P (λ x met. one x) items bad (all_any items) h
