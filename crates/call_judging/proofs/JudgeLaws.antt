-- What comes of a call by itself, from its verdict.
use Rattle.std.proofs.Common.{◌≡◌, ℕ, ◌≤◌, Bool, true, false, ◌⊎◌, inl, inr, List, [], Option, Some, None, Ok, Err, unwrap_or, refl, ap, sym, ◌∙◌, subst}
use Rattle.std.specs.List.{list_any}
use Rattle.std.specs.Option.{option_map}
use Rattle.std.proofs.lemmas.Map.Keys.{any_passes_from_place}
use Rattle.cert_store.specs.Asking.{is_failed}
use Rattle.cert_store.specs.Rules.{Says}
use Rattle.delegation.specs.Coverage.{Table}
use Rattle.stir_outside.specs.Count.{Rose}
use Rattle.stir_outside.specs.Files.{Files}
use Rattle.verify_rules.specs.Call.{Call, Reading}
use Rattle.verify_rules.specs.Causes.{HasFailed, IsCaused, IsUnknownAt}
use Rattle.verify_rules.specs.Rules.{early_rules}
use Rattle.verify_rules.specs.Screened.{IsScreenedBy, ScreenedView, digest_in, last_of, last_of_call, ticket_of}
use Rattle.verify_rules.specs.States.{State, have, unread}
use Rattle.verify_rules.specs.Verdict.{IsLeftOpen}
use Rattle.verify_rules.specs.World.{AreRight, First, IsJudgedBy, VerdictOf, World}
use Rattle.verify_rules.specs.declared.refusal.Place.{Place}
use Rattle.verify_rules.specs.declared.refusal.Refusal.{Refusal}
use Rattle.verify_rules.specs.declared.refusal.ScreenFault.TheVariants as faults
use Rattle.verify_rules.specs.declared.verdict.Verdict.{Verdict}
use Rattle.call_judging.specs.Causes.{HasCauseIf, found_unasked, found_unread}
use Rattle.call_judging.specs.Chains.{AreRightWhere, is_unasked, is_unread, world_by}
use Rattle.call_judging.specs.Judging.{IsFound, IsFoundWhere, IsKnownBy, IsOfVerdict, last_second, ticket_or_none}
use Rattle.call_judging.specs.declared.finding.Finding.{Finding}
use Rattle.call_judging.specs.declared.finding.Finding.TheVariants as found
use Rattle.cert_store.specs.declared.world.World.{World as Materials}
use Rattle.stir_outside.proofs.CountLaws.{rose_then, then_rose}

false_is_not_true : false ≡ true → ⊥
false_is_not_true e = cc

-- ---- a chain that isn't known

-- a call is unread only if one of its chains isn't known
chain_unread : (readings : List Reading) (states : List State) (faults faults_now : ℕ) (verdict : Verdict) (finding : Finding)
    → IsCaused readings states faults faults_now verdict → IsOfVerdict verdict finding → found_unread finding ≡ true → list_any is_unread states ≡ true
chain_unread readings states faults faults_now verdict (found.Refused refused) caused is set_aside = absurd (false_is_not_true set_aside)
chain_unread readings states faults faults_now verdict (found.Unread bad) caused is set_aside =
    let here : IsUnknownAt readings states bad = subst (λ (v : Verdict). IsCaused readings states faults faults_now v) is caused in
    any_passes_from_place is_unread states here.at unread here.chain refl
chain_unread readings states faults faults_now verdict (found.Unasked bad) caused is set_aside = absurd (false_is_not_true set_aside)
chain_unread readings states faults faults_now verdict (found.Passes pass) caused is set_aside = absurd (false_is_not_true set_aside)

pub unread_cause : (readings : List Reading) (states : List State) (faults faults_now : ℕ) (verdict : Verdict) (finding : Finding)
    → IsCaused readings states faults faults_now verdict → IsOfVerdict verdict finding → (before now : ℕ)
    → HasCauseIf (list_any is_unread states) before now → HasCauseIf (found_unread finding) before now
unread_cause readings states faults faults_now verdict finding caused is before now cause =
    λ set_aside. cause (chain_unread readings states faults faults_now verdict finding caused is set_aside)

-- ---- a question that failed

left_open : (readings : List Reading) (states : List State) (bad : Place) → IsLeftOpen readings states bad → list_any is_unasked states ≡ true
left_open readings states bad open_at = any_passes_from_place is_unasked states open_at.at (have open_at.judged) open_at.chain (ap is_failed open_at.failed)

open_or_rose : (readings : List Reading) (states : List State) (bad : Place) (faults faults_now : ℕ) → IsLeftOpen readings states bad ⊎ HasFailed faults faults_now bad
    → (list_any is_unasked states ≡ true) ⊎ Rose faults faults_now
open_or_rose readings states bad faults faults_now (inl open_at) = inl (left_open readings states bad open_at)
open_or_rose readings states bad faults faults_now (inr failed) = inr failed.rose

-- a call is unasked only if a question of one of its chains failed, or one in the last step
unasked_of : (readings : List Reading) (states : List State) (faults faults_now : ℕ) (verdict : Verdict) (finding : Finding)
    → IsCaused readings states faults faults_now verdict → IsOfVerdict verdict finding → found_unasked finding ≡ true
    → (list_any is_unasked states ≡ true) ⊎ Rose faults faults_now
unasked_of readings states faults faults_now verdict (found.Refused refused) caused is set_aside = absurd (false_is_not_true set_aside)
unasked_of readings states faults faults_now verdict (found.Unread bad) caused is set_aside = absurd (false_is_not_true set_aside)
unasked_of readings states faults faults_now verdict (found.Unasked bad) caused is set_aside =
    open_or_rose readings states bad faults faults_now (subst (λ (v : Verdict). IsCaused readings states faults faults_now v) is caused)
unasked_of readings states faults faults_now verdict (found.Passes pass) caused is set_aside = absurd (false_is_not_true set_aside)

one_rose : (before faults faults_now : ℕ) (failed : Bool) → before ≤ faults → faults ≤ faults_now → HasCauseIf failed before faults → (failed ≡ true) ⊎ Rose faults faults_now → Rose before faults_now
one_rose before faults faults_now failed stayed further cause (inl open_chain) = rose_then before faults faults_now stayed (cause open_chain) further
one_rose before faults faults_now failed stayed further cause (inr rose) = then_rose before faults faults_now stayed rose

pub unasked_cause : (readings : List Reading) (states : List State) (faults faults_now : ℕ) (verdict : Verdict) (finding : Finding)
    → IsCaused readings states faults faults_now verdict → faults ≤ faults_now → IsOfVerdict verdict finding → (before : ℕ) → before ≤ faults
    → HasCauseIf (list_any is_unasked states) before faults → HasCauseIf (found_unasked finding) before faults_now
unasked_cause readings states faults faults_now verdict finding caused further is before stayed cause =
    λ set_aside. one_rose before faults faults_now (list_any is_unasked states) stayed further cause (unasked_of readings states faults faults_now verdict finding caused is set_aside)

-- ---- what is said of the call

found_so : (world : World) (call : Call) (verdict : Verdict) (finding : Finding) → VerdictOf world call verdict → IsOfVerdict verdict finding → IsFound world call finding
found_so world call verdict (found.Refused refused) right is = subst (VerdictOf world call) is right
found_so world call verdict (found.Unread bad) right is = subst (VerdictOf world call) is right
found_so world call verdict (found.Unasked bad) right is = subst (VerdictOf world call) is right
found_so world call verdict (found.Passes pass) right is = subst (VerdictOf world call) is right

-- over the files that the shelf tells
pub found_where : (told : Option Files) (materials : Materials) (says : Says) (call : Call) (screened : ScreenedView) (states : List State) (moment : ℕ) (verdict : Verdict) (finding : Finding)
    → ((world : World) (call : Call) (table : Table) (says : Says) (moment : ℕ) (screened : ScreenedView) → IsScreenedBy early_rules call (Ok screened)
    → moment ≡ call.moment → table ≡ world.table → says ≡ world.says → IsJudgedBy world call table says moment screened.readings)
    → ((world : World) (call : Call) → IsJudgedBy world call materials.table says moment screened.readings → AreRight world screened.readings states → VerdictOf world call verdict)
    → IsScreenedBy early_rules call (Ok screened) → moment ≡ call.moment → AreRightWhere told materials says screened.readings states → IsOfVerdict verdict finding
    → IsFoundWhere told materials says call finding
found_where None materials says call screened states moment verdict finding judged right passed now are_right is = tt
found_where (Some files) materials says call screened states moment verdict finding judged right passed now are_right is =
    let world = world_by materials files says in
    found_so world call verdict finding (right world call (judged world call materials.table says moment screened passed now refl refl) are_right) is

-- ---- a call that screening refuses

pub refused_where : (told : Option Files) (materials : Materials) (says : Says) (call : Call) (refused : Refusal)
    → ((world : World) (call : Call) (refused : Refusal) → IsScreenedBy early_rules call (Err (faults.Refused refused)) → First world call ≡ Some refused)
    → IsScreenedBy early_rules call (Err (faults.Refused refused)) → IsFoundWhere told materials says call (found.Refused refused)
refused_where None materials says call refused law is = tt
refused_where (Some files) materials says call refused law is = law (world_by materials files says) call refused is

-- ---- by which the call is known again

pub known_by : (screened : ScreenedView) (call : Call) (ticket : List ℕ) (last : ℕ) → option_map digest_in (last_of screened.readings) ≡ ticket_of call
    → option_map digest_in (last_of screened.readings) ≡ Some ticket → screened.last ≡ last_of_call call → last ≡ screened.last → IsKnownBy call ticket last
unfolding ticket_or_none last_second
known_by screened call ticket last digest is last_of_it last_is = record {
  ticket_is = ap (λ (o : Option (List ℕ)). unwrap_or o []) (sym is ∙ digest);
  last_is = last_is ∙ last_of_it;
}
