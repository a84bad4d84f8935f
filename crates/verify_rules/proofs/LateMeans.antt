-- What a verdict says of a rule in its own words, once for all rules after the ninth.
use Rattle.std.proofs.Common.{◌≡◌, ◌↔◌, ℕ, ◌<◌, List, [], ◌∷◌, ◌++◌, Option, Some, None, Err, refl, arith}
use Rattle.std.specs.Prelude.{⊤}
use Rattle.verify_rules.specs.Call.{Call}
use Rattle.verify_rules.specs.LateWords.{MeansLate}
use Rattle.verify_rules.specs.Rules.{HoldAll, Rule, first, or_later}
use Rattle.verify_rules.specs.World.{World, certificate_rules}
use Rattle.verify_rules.specs.declared.refusal.Place.{Place}
use Rattle.verify_rules.specs.declared.refusal.Refusal.{Refusal}
use Rattle.verify_rules.specs.declared.refusal.ScreenFault.TheVariants as answers
use Rattle.verify_rules.specs.declared.verdict.Verdict.{Verdict}
use Rattle.verify_rules.specs.declared.verdict.Verdict.TheVariants.{Passed, Refused, Unread, Unasked}
use Rattle.verify_rules.proofs.FirstLaws.{none_broken}
use Rattle.verify_rules.proofs.WordLaws.{AllAbove, AllBelow, means}

-- what these rules after the ninth give, if a verdict tells it
abbrev pub LateOf : List Rule → World → Call → Verdict → Type 0
LateOf rules world call Passed = first rules call ≡ None
LateOf rules world call (Refused refused) = first rules call ≡ Some refused
LateOf rules world call (Unread bad) = ⊤
LateOf rules world call (Unasked bad) = HoldAll (certificate_rules world) call

hold_front : (front : List Rule) (rule : Rule) (later : List Rule) (call : Call) → HoldAll (front ++ rule ∷ later) call → HoldAll front call
hold_front [] rule later call h = tt
hold_front (before ∷ front) rule later call h = (h.0, hold_front front rule later call h.1)

hold_rule : (front : List Rule) (rule : Rule) (later : List Rule) (call : Call) → HoldAll (front ++ rule ∷ later) call → rule.broken call ≡ None
hold_rule [] rule later call h = h.0
hold_rule (before ∷ front) rule later call h = hold_rule front rule later call h.1

refused_by : (P : Type 0) (n : ℕ) (before : Rule) (rest : List Rule) (call : Call) (refused : Refusal) (k : Option Place) → before.number < n → before.broken call ≡ k
    → (before.broken call ≡ None → first rest call ≡ Some refused → (refused.rule ≡ n → P → ⊥) × (n < refused.rule → P)) → or_later before.number k (first rest call) ≡ Some refused
    → (refused.rule ≡ n → P → ⊥) × (n < refused.rule → P)
refused_by P n before rest call refused None low e below h = below e h
refused_by P n before rest call refused (Some bad) low e below h =
    let same : before.number ≡ refused.rule = cc in
    ((λ is p. absurd (omega (arith, low, is, same))), (λ more. absurd (omega (arith, low, more, same))))

refused_means : (P : Type 0) (front : List Rule) (rule : Rule) (later : List Rule) (call : Call) (refused : Refusal) → AllBelow rule.number front → AllAbove rule.number later
    → (HoldAll front call → (rule.broken call ≡ None) ↔ P) → first (front ++ rule ∷ later) call ≡ Some refused
    → (refused.rule ≡ rule.number → P → ⊥) × (rule.number < refused.rule → P)
refused_means P [] rule later call refused low high iff h = means P [] rule later call (Err (answers.Refused refused)) tt high (iff tt) h
refused_means P (before ∷ front) rule later call refused low high iff h =
    refused_by P rule.number before (front ++ rule ∷ later) call refused (before.broken call) low.0 refl
    (λ e rest. refused_means P front rule later call refused low.1 high (λ holds. iff (e, holds)) rest) h

-- if the holding of a rule means this of a call that meets those before it, each verdict says so
pub late_means : (P : Type 0) (front : List Rule) (rule : Rule) (later : List Rule) (world : World) (call : Call) (verdict : Verdict) → AllBelow rule.number front → AllAbove rule.number later
    → (HoldAll front call → (rule.broken call ≡ None) ↔ P) → (rule.number < 15 → HoldAll (certificate_rules world) call → P)
    → LateOf (front ++ rule ∷ later) world call verdict → MeansLate rule.number P verdict
late_means P front rule later world call Passed low high iff early h =
    let all = none_broken (front ++ rule ∷ later) call h in (iff (hold_front front rule later call all)).0 (hold_rule front rule later call all)
late_means P front rule later world call (Refused refused) low high iff early h = refused_means P front rule later call refused low high iff h
late_means P front rule later world call (Unread bad) low high iff early h = tt
late_means P front rule later world call (Unasked bad) low high iff early h = λ less. early less h
