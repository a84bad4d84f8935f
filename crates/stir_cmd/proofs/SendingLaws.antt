-- What comes of a message at the gateway, from what its steps came to.
use Rattle.std.proofs.Common.{◌≡◌, ℕ, ◌⊎◌, inl, inr, Bool, true, false, List, length, Option, Result, Ok, Err, IfErr, IfOk, refl, ap, subst}
use Rattle.std.specs.List.{list_any}
use Rattle.std.proofs.lemmas.Map.Keys.{any_passes_from_place}
use Rattle.cert_store.specs.Asking.{is_failed}
use Rattle.cert_store.specs.Rules.{Says}
use Rattle.stir_outside.proofs.CountLaws.{never_rose}
use Rattle.stir_outside.specs.Count.{Rose}
use Rattle.stir_outside.specs.Files.{Files}
use Rattle.stir_outside.specs.Held.{held_says, held_signs}
use Rattle.verify_rules.specs.Call.{Call, Reading, in_call_order}
use Rattle.verify_rules.specs.Causes.{HasFailed, IsUnknownAt}
use Rattle.verify_rules.specs.Rules.{early_rules}
use Rattle.verify_rules.specs.Screened.{IsScreenedBy, ScreenedView, screened_by}
use Rattle.verify_rules.specs.States.{State, have, unread}
use Rattle.verify_rules.specs.Verdict.{IsLeftOpen}
use Rattle.verify_rules.specs.declared.refusal.Place.{Place}
use Rattle.verify_rules.specs.declared.verdict.Verdict.TheVariants as verdicts
use Rattle.call_judging.specs.Causes.{HasCauseIf}
use Rattle.call_judging.specs.Chains.{AreRightWhere, is_unasked, is_unread}
use Rattle.retarget.specs.Answer.{names_provider}
use Rattle.retarget.specs.Hop.{HopView}
use Rattle.retarget.specs.NextHop.{BreaksNone}
use Rattle.retarget.specs.Outcome.{IsRetargeted, TellsOfDiversion}
use Rattle.retarget.specs.Promise.{CausedOnward, GivesOnward}
use Rattle.retarget.specs.Verdicts.{IsFinished, NamesNoPass, verdict_of}
use Rattle.retarget.specs.declared.fault.HopFault.{HopFault}
use Rattle.retarget.specs.declared.fault.HopFault.TheVariants as faults
use Rattle.stir_cmd.specs.Sending.{IsAnswerOf, IsOverChains, MayCome, PlaceView, call_at, holder_at}

-- ---- what was left open

none_asked : (failed : Bool) → HasCauseIf failed 0 0 → failed ≡ false
none_asked true cause = absurd (never_rose (cause refl))
none_asked false cause = refl

left_open : (readings : List Reading) (states : List State) (bad : Place) → list_any is_unasked states ≡ false → IsLeftOpen readings states bad ⊎ HasFailed 0 0 bad → ⊥
left_open readings states bad none (inl open_at) =
    let some : list_any is_unasked states ≡ true = any_passes_from_place is_unasked states open_at.at (have open_at.judged) open_at.chain (ap is_failed open_at.failed) in absurd cc
left_open readings states bad none (inr failed) = never_rose failed.rose

is_unknown : (readings : List Reading) (states : List State) (bad : Place) → IsUnknownAt readings states bad → list_any is_unread states ≡ true
is_unknown readings states bad here = any_passes_from_place is_unread states here.at unread here.chain refl

may_come_by : {X : Type 0} (result : Result X HopFault) (says : Says) (place : PlaceView) (readings : List Reading) (states : List State) (before now : ℕ)
    → IsFinished says place.materials.table place.moment readings states 0 0 (verdict_of result) → IfErr result NamesNoPass → (names_provider result ≡ true → Rose 0 0)
    → HasCauseIf (list_any is_unread states) before now → list_any is_unasked states ≡ false → IfErr result (MayCome before now)
may_come_by (Ok out) says place readings states before now finished no_pass failed cause none = tt
may_come_by (Err (faults.Verdict verdicts.Passed)) says place readings states before now finished no_pass failed cause none = no_pass refl
may_come_by (Err (faults.Verdict (verdicts.Refused refused))) says place readings states before now finished no_pass failed cause none = tt
may_come_by (Err (faults.Verdict (verdicts.Unread bad))) says place readings states before now finished no_pass failed cause none =
    cause (is_unknown readings states bad finished.cause)
may_come_by (Err (faults.Verdict (verdicts.Unasked bad))) says place readings states before now finished no_pass failed cause none =
    left_open readings states bad none finished.cause
may_come_by (Err faults.Target) says place readings states before now finished no_pass failed cause none = tt
may_come_by (Err faults.Loop) says place readings states before now finished no_pass failed cause none = tt
may_come_by (Err faults.Full) says place readings states before now finished no_pass failed cause none = tt
may_come_by (Err faults.Size) says place readings states before now finished no_pass failed cause none = tt
may_come_by (Err faults.Authority) says place readings states before now finished no_pass failed cause none = tt
may_come_by (Err (faults.NoSignature digest)) says place readings states before now finished no_pass failed cause none = tt
may_come_by (Err faults.Provider) says place readings states before now finished no_pass failed cause none = never_rose (failed refl)
may_come_by (Err faults.Memory) says place readings states before now finished no_pass failed cause none = tt

pub may_come : {X : Type 0} (result : Result X HopFault) (says : Says) (place : PlaceView) (readings : List Reading) (states : List State) (before now : ℕ)
    → IsFinished says place.materials.table place.moment readings states 0 0 (verdict_of result) → IfErr result NamesNoPass → (names_provider result ≡ true → Rose 0 0)
    → HasCauseIf (list_any is_unread states) before now → HasCauseIf (list_any is_unasked states) 0 0 → IfErr result (MayCome before now)
may_come result says place readings states before now finished no_pass failed cause asked =
    may_come_by result says place readings states before now finished no_pass failed cause (none_asked (list_any is_unasked states) asked)

-- ---- the gateway's answer

-- what was screened are the PASSporTs of the call
readings_are : (call : Call) (screened : ScreenedView) → IsScreenedBy early_rules call (Ok screened) → screened.readings ≡ in_call_order call
unfolding screened_by
readings_are call screened is = ap (λ (s : ScreenedView). s.readings) is.1

abbrev Signs : Type 0
Signs = List ℕ → List ℕ → Option (List ℕ)

-- as it is promised of a provider that says and signs so
pub record Answered {X : Type 0} (place : PlaceView) (says : Says) (signs : Signs) (hop : HopView) (bytes : List ℕ) (readings : List Reading) (states : List State) (seen : X → List ℕ) (result : Result X HopFault) : Type 0 where
  pub finished : IsFinished says place.materials.table place.moment readings states 0 0 (verdict_of result)
  pub no_pass : IfErr result NamesNoPass
  pub exact : GivesOnward seen bytes readings hop (holder_at place) signs result
  pub written : IfOk result (λ out. IsRetargeted bytes readings hop (holder_at place) signs (seen out))
  pub causes : IfErr result (λ fault. CausedOnward bytes readings hop (holder_at place) signs fault)
  pub next : IfOk result (λ out. BreaksNone (seen out) hop (holder_at place) says readings states)
  pub link : IfOk result (λ out. TellsOfDiversion bytes readings hop (seen out))

answer_of : {X : Type 0} (place : PlaceView) (hop : HopView) (bytes : List ℕ) (readings : List Reading) (states : List State) (seen : X → List ℕ) (result : Result X HopFault)
    → Answered place (held_says place.answers) (held_signs place.answers) hop bytes readings states seen result → IsAnswerOf place hop bytes readings states seen result
answer_of place hop bytes readings states seen result a =
    record { finished = a.finished; no_pass = a.no_pass; exact = a.exact; written = a.written; causes = a.causes; next = a.next; link = a.link }

answered_so : {X : Type 0} (place : PlaceView) (says : Says) (signs : Signs) (hop : HopView) (bytes : List ℕ) (readings in_order : List Reading) (states : List State) (seen : X → List ℕ) (result : Result X HopFault)
    → says ≡ held_says place.answers → signs ≡ held_signs place.answers → readings ≡ in_order → Answered place says signs hop bytes readings states seen result
    → IsAnswerOf place hop bytes in_order states seen result
answered_so place says signs hop bytes readings in_order states seen result same_says same_signs same_readings a =
    answer_of place hop bytes in_order states seen result
    (subst (λ (s : Says). Answered place s (held_signs place.answers) hop bytes in_order states seen result) same_says
    (subst (λ (s : Signs). Answered place says s hop bytes in_order states seen result) same_signs
    (subst (λ (r : List Reading). Answered place says signs hop bytes r states seen result) same_readings a)))

pub over_chains : {X : Type 0} (place : PlaceView) (told : Option Files) (before now : ℕ) (says : Says) (signs : Signs) (hop : HopView) (bytes : List ℕ) (screened : ScreenedView) (states : List State) (seen : X → List ℕ)
    (result : Result X HopFault) → IsScreenedBy early_rules (call_at place bytes) (Ok screened) → says ≡ held_says place.answers → signs ≡ held_signs place.answers
    → length states ≡ length screened.readings → AreRightWhere told place.materials (held_says place.answers) screened.readings states
    → HasCauseIf (list_any is_unread states) before now → HasCauseIf (list_any is_unasked states) 0 0 → Answered place says signs hop bytes screened.readings states seen result
    → IsOverChains place told before now hop bytes seen result
over_chains place told before now says signs hop bytes screened states seen result passed same_says same_signs counted right cause asked a =
    let same = readings_are (call_at place bytes) screened passed in
    record {
      early = passed.0;
      states = states;
      counted = subst (λ (r : List Reading). length states ≡ length r) same counted;
      right = subst (λ (r : List Reading). AreRightWhere told place.materials (held_says place.answers) r states) same right;
      unread = cause;
      answered = none_asked (list_any is_unasked states) asked;
      answer = answered_so place says signs hop bytes screened.readings (in_call_order (call_at place bytes)) states seen result same_says same_signs same a;
    }

-- ---- what was screened is what the gateway takes
