-- What an answer says of a rule in its own words, once for all rules.
use Rattle.std.proofs.Common.{◌≡◌, ◌↔◌, ℕ, ◌<◌, List, [], ◌∷◌, ◌++◌, Option, Some, None, Result, Ok, Err, refl, sym, ◌∙◌, ap, arith}
use Rattle.std.specs.Prelude.{⊤}
use Rattle.std.specs.Option.{option_or}
use Rattle.verify_rules.specs.Call.{Call}
use Rattle.verify_rules.specs.Rules.{Rule, each, first, or_later}
use Rattle.verify_rules.specs.Screened.{IsScreenedBy, ScreenedView}
use Rattle.verify_rules.specs.Words.{Each, Means}
use Rattle.verify_rules.specs.declared.refusal.Place.{Place}
use Rattle.verify_rules.specs.declared.refusal.Refusal.{Refusal}
use Rattle.verify_rules.specs.declared.refusal.ScreenFault.{ScreenFault}
use Rattle.verify_rules.specs.declared.refusal.ScreenFault.TheVariants.{Refused, Memory}
use Rattle.verify_rules.proofs.FreshLaws.{here_none}

-- the numbers of these rules are below this one, or above it
abbrev pub AllBelow : ℕ → List Rule → Type 0
AllBelow number [] = ⊤
AllBelow number (rule ∷ others) = (rule.number < number) × AllBelow number others

abbrev pub AllAbove : ℕ → List Rule → Type 0
AllAbove number [] = ⊤
AllAbove number (rule ∷ others) = (number < rule.number) × AllAbove number others

above_by : (number : ℕ) (rule : Rule) (others : List Rule) (call : Call) (refused : Refusal) (k : Option Place) → number < rule.number
    → (first others call ≡ Some refused → number < refused.rule) → or_later rule.number k (first others call) ≡ Some refused → number < refused.rule
above_by number rule others call refused None high below h = below h
above_by number rule others call refused (Some bad) high below h =
    let same : rule.number ≡ refused.rule = cc in omega (arith, high, same)

-- the first broken rule of those above a number is above it
pub above : (number : ℕ) (rules : List Rule) (call : Call) (refused : Refusal) → AllAbove number rules → first rules call ≡ Some refused → number < refused.rule
above number [] call refused high h = absurd cc
above number (rule ∷ others) call refused high h =
    above_by number rule others call refused (rule.broken call) high.0 (above number others call refused high.1) h

here_by : (P : Type 0) (rule : Rule) (others : List Rule) (call : Call) (refused : Refusal) (k : Option Place) → rule.broken call ≡ k → (rule.broken call ≡ None) ↔ P
    → (first others call ≡ Some refused → rule.number < refused.rule) → or_later rule.number k (first others call) ≡ Some refused
    → (refused.rule ≡ rule.number → P → ⊥) × (rule.number < refused.rule → P)
here_by P rule others call refused None e means high h =
    let later = high h in ((λ same p. absurd (omega (arith, later, same))), (λ more. means.0 e))
here_by P rule others call refused (Some bad) e means high h =
    let same : rule.number ≡ refused.rule = cc in
    ((λ is p. let none : Some bad ≡ None = sym e ∙ means.1 p in absurd cc), (λ more. absurd (omega (arith, more, same))))

refused_by : (P : Type 0) (number : ℕ) (before : Rule) (others : List Rule) (call : Call) (refused : Refusal) (k : Option Place) → before.number < number
    → (first others call ≡ Some refused → (refused.rule ≡ number → P → ⊥) × (number < refused.rule → P)) → or_later before.number k (first others call) ≡ Some refused
    → (refused.rule ≡ number → P → ⊥) × (number < refused.rule → P)
refused_by P number before others call refused None low below h = below h
refused_by P number before others call refused (Some bad) low below h =
    let same : before.number ≡ refused.rule = cc in
    ((λ is p. absurd (omega (arith, low, is, same))), (λ more. absurd (omega (arith, low, more, same))))

refused_means : (P : Type 0) (earlier : List Rule) (rule : Rule) (later : List Rule) (call : Call) (refused : Refusal) → AllBelow rule.number earlier → AllAbove rule.number later
    → (rule.broken call ≡ None) ↔ P → first (earlier ++ rule ∷ later) call ≡ Some refused → (refused.rule ≡ rule.number → P → ⊥) × (rule.number < refused.rule → P)
refused_means P [] rule later call refused low high means h =
    here_by P rule later call refused (rule.broken call) refl means (above rule.number later call refused high) h
refused_means P (before ∷ earlier) rule later call refused low high means h =
    refused_by P rule.number before (earlier ++ rule ∷ later) call refused (before.broken call) low.0 (refused_means P earlier rule later call refused low.1 high means) h

none_by : (number : ℕ) (k : Option Place) (later : Option Refusal) → or_later number k later ≡ None → (k ≡ None) × (later ≡ None)
none_by number None later e = (refl, e)
none_by number (Some bad) later e = absurd cc

holds_of : (earlier : List Rule) (rule : Rule) (later : List Rule) (call : Call) → first (earlier ++ rule ∷ later) call ≡ None → rule.broken call ≡ None
holds_of [] rule later call h = (none_by rule.number (rule.broken call) (first later call) h).0
holds_of (before ∷ earlier) rule later call h =
    holds_of earlier rule later call (none_by before.number (before.broken call) (first (earlier ++ rule ∷ later) call) h).1

-- if a rule's holding means this, each answer says so
pub means : (P : Type 0) (earlier : List Rule) (rule : Rule) (later : List Rule) (call : Call) (result : Result ScreenedView ScreenFault) → AllBelow rule.number earlier → AllAbove rule.number later
    → (rule.broken call ≡ None) ↔ P → IsScreenedBy (earlier ++ rule ∷ later) call result → Means rule.number P result
means P earlier rule later call (Ok screened) low high iff h = iff.0 (holds_of earlier rule later call h.0)
means P earlier rule later call (Err (Refused refused)) low high iff h = refused_means P earlier rule later call refused low high iff h
means P earlier rule later call (Err Memory) low high iff h = tt

-- ---- a rule on each

each_holds : {A : Type 0} (broken : A → Option Place) (P : A → Type 0) → ((one : A) → broken one ≡ None → P one) → (items : List A) → each broken items ≡ None → Each P items
each_holds broken P one [] h = tt
each_holds broken P one (item ∷ items) h =
    let both = here_none (broken item) (each broken items) h in (one item both.0, each_holds broken P one items both.1)

each_none : {A : Type 0} (broken : A → Option Place) (P : A → Type 0) → ((one : A) → P one → broken one ≡ None) → (items : List A) → Each P items → each broken items ≡ None
each_none broken P one [] h = refl
each_none broken P one (item ∷ items) h = ap (λ x. option_or x (each broken items)) (one item h.0) ∙ each_none broken P one items h.1

pub each_means : {A : Type 0} (broken : A → Option Place) (P : A → Type 0) → ((one : A) → (broken one ≡ None) ↔ P one) → (items : List A) → (each broken items ≡ None) ↔ Each P items
each_means broken P one items = (each_holds broken P (λ x. (one x).0) items, each_none broken P (λ x. (one x).1) items)

-- ---- a rule on each of those that meet this

each_holds_of : {A : Type 0} (broken : A → Option Place) (Q P : A → Type 0) → ((one : A) → Q one → (broken one ≡ None) ↔ P one) → (items : List A) → Each Q items → each broken items ≡ None → Each P items
each_holds_of broken Q P one [] met h = tt
each_holds_of broken Q P one (item ∷ items) met h =
    let both = here_none (broken item) (each broken items) h in ((one item met.0).0 both.0, each_holds_of broken Q P one items met.1 both.1)

each_none_of : {A : Type 0} (broken : A → Option Place) (Q P : A → Type 0) → ((one : A) → Q one → (broken one ≡ None) ↔ P one) → (items : List A) → Each Q items → Each P items → each broken items ≡ None
each_none_of broken Q P one [] met h = refl
each_none_of broken Q P one (item ∷ items) met h =
    ap (λ x. option_or x (each broken items)) ((one item met.0).1 h.0) ∙ each_none_of broken Q P one items met.1 h.1

pub each_means_of : {A : Type 0} (broken : A → Option Place) (Q P : A → Type 0) → ((one : A) → Q one → (broken one ≡ None) ↔ P one) → (items : List A) → Each Q items
    → (each broken items ≡ None) ↔ Each P items
each_means_of broken Q P one items met = (each_holds_of broken Q P one items met, each_none_of broken Q P one items met)
