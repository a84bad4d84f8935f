-- What a verdict says of rules 10 to 14.
use Rattle.std.proofs.Common.{◌≡◌, ℕ, ◌≤◌, nat_lt, true, false, List, [], ◌∷◌, is_none, Option, Some, None, refl, sym, ◌∙◌, ap, subst, arith}
use Rattle.std.specs.List.{list_any}
use Rattle.std.specs.Option.{option_or}
use Rattle.std.proofs.lemmas.Bool.Decides.{nat_tests}
use Rattle.std.proofs.lemmas.Map.Keys.{any_passes_from_place}
use Rattle.std.proofs.lemmas.Option.{same_Some}
use Rattle.verify_rules.proofs.FirstLaws.{none_first}
use Rattle.verify_rules.proofs.WorldEvents.{first_append}
use Rattle.verify_rules.specs.Call.{Call, Reading}
use Rattle.verify_rules.specs.Causes.{IsCaused}
use Rattle.verify_rules.specs.Rules.{Rule, early_rules, first, or_later, refusal}
use Rattle.verify_rules.specs.States.{State, unread}
use Rattle.verify_rules.specs.World.{First, VerdictOf, World, certificate_rules, late_rules, signature_rules}
use Rattle.verify_rules.specs.declared.refusal.Place.{Place}
use Rattle.verify_rules.specs.declared.refusal.Refusal.{Refusal}
use Rattle.verify_rules.specs.declared.verdict.Verdict.{Verdict}
use Rattle.verify_rules.specs.declared.verdict.Verdict.TheVariants.{Passed, Refused, Unread, Unasked}
use Rattle.call_judging.specs.Chains.{is_unread}
use Rattle.call_judging.specs.Verdicts.{asks_own}

-- ---- some rules and then others

pub late_parts : (world : World) (call : Call) → first early_rules call ≡ None
    → First world call ≡ option_or (first (certificate_rules world) call) (first (signature_rules world) call)
late_parts world call early =
    first_append early_rules (late_rules world) call ∙ ap (λ (x : Option Refusal). option_or x (first (late_rules world) call)) early
    ∙ first_append (certificate_rules world) (signature_rules world) call

-- ---- the numbers

abbrev NumberedWithin : ℕ → ℕ → List Rule → Type 0
NumberedWithin low high [] = Unit {0}
NumberedWithin low high (rule ∷ others) = (low ≤ rule.number) × (rule.number ≤ high) × NumberedWithin low high others

within_by : (low high number : ℕ) (bad : Option Place) (later : Option Refusal) (refused : Refusal) → low ≤ number → number ≤ high
    → or_later number bad later ≡ Some refused → (later ≡ Some refused → (low ≤ refused.rule) × (refused.rule ≤ high)) → (low ≤ refused.rule) × (refused.rule ≤ high)
within_by low high number None later refused above below is more = more is
within_by low high number (Some bad) later refused above below is more =
    subst (λ (r : Refusal). (low ≤ r.rule) × (r.rule ≤ high)) (same_Some (refusal number bad) refused is) (above, below)

first_within : (low high : ℕ) (rules : List Rule) (call : Call) (refused : Refusal) → NumberedWithin low high rules → first rules call ≡ Some refused
    → (low ≤ refused.rule) × (refused.rule ≤ high)
first_within low high [] call refused numbered is = absurd (cc)
first_within low high (rule ∷ others) call refused numbered is =
    within_by low high rule.number (rule.broken call) (first others call) refused numbered.0 numbered.1 is (first_within low high others call refused numbered.2)

certificates_low : (world : World) (call : Call) (refused : Refusal) → first (certificate_rules world) call ≡ Some refused → refused.rule ≤ 14
certificates_low world call refused is =
    (first_within 10 14 (certificate_rules world) call refused
    (omega arith, omega arith, (omega arith, omega arith, (omega arith, omega arith, (omega arith, omega arith, (omega arith, omega arith, tt))))) is).1

signatures_high : (world : World) (call : Call) (refused : Refusal) → first (signature_rules world) call ≡ Some refused → 15 ≤ refused.rule
signatures_high world call refused is =
    (first_within 15 19 (signature_rules world) call refused
    (omega arith, omega arith, (omega arith, omega arith, (omega arith, omega arith, (omega arith, omega arith, tt)))) is).0

-- ---- the verdict

refused_by : (mine yours : Option Refusal) (refused : Refusal) → Some refused ≡ option_or mine yours → ((r : Refusal) → mine ≡ Some r → r.rule ≤ 14)
    → ((r : Refusal) → yours ≡ Some r → 15 ≤ r.rule) → nat_lt 14 refused.rule ≡ is_none mine
refused_by None yours refused is low high = let above = high refused (sym is) in grind (arith, nat_tests)
refused_by (Some r) yours refused is low high =
    let same : refused ≡ r = same_Some refused r is in
    let below = low r refl in
    let number : refused.rule ≡ r.rule = ap (λ (x : Refusal). x.rule) same in
    grind (arith, nat_tests)

none_by : (mine yours : Option Refusal) → None ≡ option_or mine yours → mine ≡ None
none_by None yours e = refl
none_by (Some r) yours e = absurd (cc)

-- the PASSporTs' own signatures are asked for exactly if rules 1 to 14 hold, unless a chain isn't known
pub asks_own_where : (world : World) (call : Call) (readings : List Reading) (states : List State) (faults faults_now : ℕ) (verdict : Verdict)
    → first early_rules call ≡ None → VerdictOf world call verdict → IsCaused readings states faults faults_now verdict → list_any is_unread states ≡ false
    → asks_own verdict ≡ is_none (first (certificate_rules world) call)
asks_own_where world call readings states faults faults_now Passed early is caused known =
    sym (ap (λ (x : Option Refusal). is_none x) (none_by (first (certificate_rules world) call) (first (signature_rules world) call) (sym is ∙ late_parts world call early)))
asks_own_where world call readings states faults faults_now (Refused refused) early is caused known =
    refused_by (first (certificate_rules world) call) (first (signature_rules world) call) refused (sym is ∙ late_parts world call early)
    (certificates_low world call) (signatures_high world call)
asks_own_where world call readings states faults faults_now (Unread bad) early is caused known =
    let some : list_any is_unread states ≡ true = any_passes_from_place is_unread states caused.at unread caused.chain refl in
    absurd (cc)
asks_own_where world call readings states faults faults_now (Unasked bad) early is caused known =
    sym (ap (λ (x : Option Refusal). is_none x) (none_first (certificate_rules world) call is.chains))
