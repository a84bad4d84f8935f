-- A worker goes on by one call, its own or another's: what is answered, and what its provider was asked.
use Rattle.std.proofs.Common.{◌≡◌, ◌≢◌, ℕ, zero, suc, ◌+◌, ◌<◌, ◌≤◌, ◌%◌, ◌==◌, ◌&&◌, ◌⊎◌, inl, inr, Bool, true, false, cond, List, set, length, Option, Some, refl, sym, ap, ◌∙◌, subst, arith}
use Rattle.std.proofs.lemmas.Option.{same_Some}
use Rattle.std.specs.List.{slice_get}
use Rattle.cert_store.specs.Rules.{Says}
use Rattle.delegation.specs.Coverage.{Table}
use Rattle.stir_outside.specs.Count.{AtMost}
use Rattle.stir_outside.specs.Stays.{ProviderStays}
use Rattle.stir_outside.specs.declared.provider.Provider.{Ghosts as ProviderOf}
use Rattle.stir_outside.proofs.CountLaws.{at_most_of_rose, both_at_most, none_at, rose_then, then_rose}
use Rattle.call_judging.proofs.CauseLaws.{cause_then, then_cause}
use Rattle.verify_rules.specs.Call.{Reading}
use Rattle.verify_rules.specs.States.{State}
use Rattle.verify_rules.specs.Verdict.{IsVerdict}
use Rattle.verify_rules.specs.declared.verdict.Verdict.{Verdict}
use Rattle.verify_rules.specs.declared.verdict.Verdict.TheVariants as verdicts
use Rattle.verify_service.specs.Carrying.{Answered, one_if, out_at, own_open, own_passports, passports_at}
use Rattle.call_judging.specs.Causes.{HasCauseIf}
use Rattle.verify_service.specs.Causes.{is_unasked_passport}
use Rattle.verify_service.specs.Claiming.{IsRuled, OutcomeSays, verdict_of}
use Rattle.verify_service.specs.Kept.{states_for}
use Rattle.verify_service.specs.Ready.{Basis, Provided, provided}
use Rattle.verify_service.specs.Screening.{readings_in}
use Rattle.verify_service.specs.declared.outcome.Outcome.{Outcome}
use Rattle.verify_service.specs.declared.screening.ReadyCall.{ReadyCall}
use Rattle.verify_service.specs.declared.screening.Screening.{Screening}
use Rattle.verify_service.specs.declared.screening.Screening.TheVariants as screenings
use Rattle.verify_service.proofs.OutLaws.{below_more, next, is_own, other_test, own_test, same_elsewhere, same_here}

-- ---- over a longer stretch of a provider's counts an answer stays what it is

module _ (says : Says) (table : Table) (moment : ℕ) (readings : List Reading) (states : List State) (before first mid now : ℕ) (stay : before ≤ first) (rise : first ≤ mid) (stayed : mid ≤ now) where
  verdict_on : (verdict : Verdict) → IsVerdict says table moment readings states first mid verdict → IsVerdict says table moment readings states before now verdict
  verdict_on verdicts.Passed is = is
  verdict_on (verdicts.Refused refused) is = is
  verdict_on (verdicts.Unread bad) is = is
  verdict_on (verdicts.Unasked bad) (inl chain) = inl chain
  verdict_on (verdicts.Unasked bad) (inr own) = inr (own.0, then_rose before first now stay (rose_then first mid now rise own.1 stayed), own.2)

-- the same provider, with the counts before and after more calls
pub record Widens (short long : Provided) : Type 0 where
  pub says : long.says ≡ short.says
  pub before : long.faults ≤ short.faults
  pub within : short.faults ≤ short.faults_now
  pub after : short.faults_now ≤ long.faults_now

module _ (on : Basis) (short long : Provided) (widens : Widens short long) where
  ruled_says : (moment : ℕ) (screening : Screening) (outcome : Outcome) → IsRuled on short moment screening outcome
      → IsRuled on (record { says = short.says; asks = long.asks; asks_now = long.asks_now; faults = long.faults; faults_now = long.faults_now }) moment screening outcome
  ruled_says moment screenings.Open outcome is = tt
  ruled_says moment (screenings.Refused refused) outcome is = is
  ruled_says moment (screenings.Passed screened) outcome is =
      verdict_on short.says on.materials.table moment screened.readings (states_for on.kept on.held screened.readings) long.faults short.faults short.faults_now long.faults_now
      widens.before widens.within widens.after (verdict_of outcome) is

  said_says : (call : ReadyCall) (outcome : Outcome) → OutcomeSays on short call outcome
      → OutcomeSays on (record { says = short.says; asks = long.asks; asks_now = long.asks_now; faults = long.faults; faults_now = long.faults_now }) call outcome
  said_says call outcome said = record {
    ruled = ruled_says call.moment call.screening outcome said.ruled;
    judged = said.judged;
    owed = said.owed;
    passed = said.passed;
    aside = said.aside;
  }

  pub said_on : (call : ReadyCall) (outcome : Outcome) → OutcomeSays on short call outcome → OutcomeSays on long call outcome
  said_on call outcome said =
      subst (λ (s : Says). OutcomeSays on (record { says = s; asks = long.asks; asks_now = long.asks_now; faults = long.faults; faults_now = long.faults_now }) call outcome)
      (sym widens.says) (said_says call outcome said)

-- ---- the call of another

module _ (on : Basis) (by : Provided) (calls : List ReadyCall) (count worker upto : ℕ) (outs : List Outcome) where
  answered_skip : upto % count ≢ worker → Answered on by calls count worker upto outs → Answered on by calls count worker (suc upto) outs
  answered_skip other w =
      let none = other_test count worker upto other in
      let open_none : own_open count worker outs (suc upto) ≡ 0 + own_open count worker outs upto =
      ap (λ b. one_if (b && is_unasked_passport (out_at outs upto)) + own_open count worker outs upto) none in
      let pass_none : own_passports count worker calls (suc upto) ≡ 0 + own_passports count worker calls upto =
      ap (λ b. cond b (passports_at (slice_get calls upto)) 0 + own_passports count worker calls upto) none in
      let plain : own_open count worker outs upto ≡ 0 + own_open count worker outs upto = omega arith in
      record {
        said = λ at call stands below own. elim (below_more at upto below) [
          | inl less ↦ w.said at call stands less own
          | inr same ↦ absurd (other (sym (ap (λ k. k % count) same) ∙ own))
        ];
        cause = λ at below own. elim (below_more at upto below) [
          | inl less ↦ w.cause at less own
          | inr same ↦ absurd (other (sym (ap (λ k. k % count) same) ∙ own))
        ];
        asks_most = (let a = w.asks_most in omega arith);
        asks_stay = w.asks_stay;
        unasked = subst (λ n. AtMost n by.faults by.faults_now) (plain ∙ sym open_none) w.unasked;
        faults_stay = w.faults_stay;
      }

  pub skip_answered : upto % count ≢ worker → Answered on by calls count worker upto outs → Answered on by calls count worker (upto + 1) outs
  skip_answered other w = subst (λ n. Answered on by calls count worker n outs) (next upto) (answered_skip other w)

-- ---- an own call

-- an outcome at a higher index changes nothing below
open_same : (count worker n upto : ℕ) (outs : List Outcome) (outcome : Outcome) → n ≤ upto → own_open count worker (set outs upto outcome) n ≡ own_open count worker outs n
open_same count worker zero upto outs outcome below = refl
open_same count worker (suc n) upto outs outcome below =
    ap (λ o. one_if ((n % count == worker) && is_unasked_passport o) + own_open count worker (set outs upto outcome) n) (same_elsewhere outs upto n outcome (λ e. absurd (omega arith)))
    ∙ ap (λ k. one_if ((n % count == worker) && is_unasked_passport (out_at outs n)) + k) (open_same count worker n upto outs outcome (omega arith))

cause_by : (b : Bool) (faults faults_now : ℕ) → faults ≤ faults_now → HasCauseIf b faults faults_now → AtMost (one_if b) faults faults_now
cause_by true faults faults_now stay cause = at_most_of_rose faults faults_now (cause refl)
cause_by false faults faults_now stay cause = none_at faults faults_now stay

module _ {P : Type 0} (on : Basis) (provider : ProviderOf P) (p mid now : P) (calls : List ReadyCall) (count worker upto : ℕ) (outs : List Outcome) (call : ReadyCall) (outcome : Outcome)
    (same_says : provider.says mid ≡ provider.says p) (own : upto % count ≡ worker) (stands : slice_get calls upto ≡ Some call) (within : upto < length outs)
    (w : Answered on (provided provider p mid) calls count worker upto outs) (said : OutcomeSays on (provided provider mid now) call outcome)
    (most : provider.asks now ≤ provider.asks mid + length (readings_in call.screening)) (asks_stay : provider.asks mid ≤ provider.asks now)
    (stay : ProviderStays provider mid now) (cause : HasCauseIf (is_unasked_passport outcome) (provider.faults mid) (provider.faults now)) where
  abbrev outs_now : List Outcome
  outs_now = set outs upto outcome

  earlier : Widens (provided provider p mid) (provided provider p now)
  earlier = record { says = refl; before = omega arith; within = w.faults_stay; after = stay.faults }

  last : Widens (provided provider mid now) (provided provider p now)
  last = record { says = sym same_says; before = w.faults_stay; within = stay.faults; after = omega arith }

  said_by : (at : ℕ) (other : ReadyCall) → slice_get calls at ≡ Some other → at % count ≡ worker → (at < upto) ⊎ (at ≡ upto)
      → OutcomeSays on (provided provider p now) other (out_at outs_now at)
  said_by at other is mine (inl less) =
      subst (λ (o : Outcome). OutcomeSays on (provided provider p now) other o) (sym (same_elsewhere outs upto at outcome (λ e. absurd (omega arith))))
      (said_on on (provided provider p mid) (provided provider p now) earlier other (out_at outs at) (w.said at other is less mine))
  said_by at other is mine (inr same) =
      subst (λ (o : Outcome). OutcomeSays on (provided provider p now) other o) (sym (ap (out_at outs_now) same ∙ same_here outs upto outcome within))
      (subst (λ (c : ReadyCall). OutcomeSays on (provided provider p now) c outcome) (same_Some call other (sym stands ∙ ap (slice_get calls) (sym same) ∙ is))
      (said_on on (provided provider mid now) (provided provider p now) last call outcome said))

  caused_by : (at : ℕ) → at % count ≡ worker → (at < upto) ⊎ (at ≡ upto) → HasCauseIf (is_unasked_passport (out_at outs_now at)) (provider.faults p) (provider.faults now)
  caused_by at mine (inl less) =
      subst (λ (o : Outcome). HasCauseIf (is_unasked_passport o) (provider.faults p) (provider.faults now)) (sym (same_elsewhere outs upto at outcome (λ e. absurd (omega arith))))
      (cause_then (is_unasked_passport (out_at outs at)) (provider.faults p) (provider.faults mid) (provider.faults now) w.faults_stay (w.cause at less mine) stay.faults)
  caused_by at mine (inr same) =
      subst (λ (o : Outcome). HasCauseIf (is_unasked_passport o) (provider.faults p) (provider.faults now)) (sym (ap (out_at outs_now) same ∙ same_here outs upto outcome within))
      (then_cause (is_unasked_passport outcome) (provider.faults p) (provider.faults mid) (provider.faults now) w.faults_stay cause)

  open_one : own_open count worker outs_now (suc upto) ≡ one_if (is_unasked_passport outcome) + own_open count worker outs upto
  open_one =
      ap (λ b. one_if (b && is_unasked_passport (out_at outs_now upto)) + own_open count worker outs_now upto) (own_test count worker upto own)
      ∙ ap (λ (o : Outcome). one_if (is_unasked_passport o) + own_open count worker outs_now upto) (same_here outs upto outcome within)
      ∙ ap (λ k. one_if (is_unasked_passport outcome) + k) (open_same count worker upto upto outs outcome (omega arith))

  pass_one : own_passports count worker calls (suc upto) ≡ length (readings_in call.screening) + own_passports count worker calls upto
  pass_one =
      ap (λ b. cond b (passports_at (slice_get calls upto)) 0 + own_passports count worker calls upto) (own_test count worker upto own)
      ∙ ap (λ (o : Option ReadyCall). passports_at o + own_passports count worker calls upto) stands

  more : AtMost (own_open count worker outs upto + one_if (is_unasked_passport outcome)) (provider.faults p) (provider.faults now)
  more =
      both_at_most (own_open count worker outs upto) (one_if (is_unasked_passport outcome)) (provider.faults p) (provider.faults mid) (provider.faults now) w.unasked
      (cause_by (is_unasked_passport outcome) (provider.faults mid) (provider.faults now) stay.faults cause)

  answered_own : Answered on (provided provider p now) calls count worker (suc upto) outs_now
  answered_own =
      let turned : own_open count worker outs upto + one_if (is_unasked_passport outcome) ≡ one_if (is_unasked_passport outcome) + own_open count worker outs upto = omega arith in
      record {
        said = λ at other is below mine. said_by at other is mine (below_more at upto below);
        cause = λ at below mine. caused_by at mine (below_more at upto below);
        asks_most = (let a = w.asks_most in let b = pass_one in omega arith);
        asks_stay = (let a = w.asks_stay in omega arith);
        unasked = subst (λ n. AtMost n (provider.faults p) (provider.faults now)) (turned ∙ sym open_one) more;
        faults_stay = (let f = w.faults_stay in let g = stay.faults in omega arith);
      }

  pub own_answered : Answered on (provided provider p now) calls count worker (upto + 1) outs_now
  own_answered = subst (λ n. Answered on (provided provider p now) calls count worker n outs_now) (next upto) answered_own

-- ---- the answers of all

-- what is answered at the worker's own indices is all that counts
open_as : (count worker n : ℕ) (mine outs : List Outcome) → ((at : ℕ) → at < n → at % count ≡ worker → out_at outs at ≡ out_at mine at)
    → own_open count worker outs n ≡ own_open count worker mine n
open_as count worker zero mine outs same = refl
open_as count worker (suc n) mine outs same =
    open_at (n % count == worker) refl ∙ ap (λ k. one_if ((n % count == worker) && is_unasked_passport (out_at mine n)) + k)
    (open_as count worker n mine outs (λ at below own. same at (omega arith) own))
  where
    open_at : (t : Bool) → (n % count == worker) ≡ t → own_open count worker outs (suc n) ≡ one_if ((n % count == worker) && is_unasked_passport (out_at mine n)) + own_open count worker outs n
    open_at true is = ap (λ (o : Outcome). one_if ((n % count == worker) && is_unasked_passport o) + own_open count worker outs n) (same n (omega arith) (is_own count worker n is))
    open_at false is =
        ap (λ b. one_if (b && is_unasked_passport (out_at outs n)) + own_open count worker outs n) is
        ∙ sym (ap (λ b. one_if (b && is_unasked_passport (out_at mine n)) + own_open count worker outs n) is)

pub answered_as : (on : Basis) (by : Provided) (calls : List ReadyCall) (count worker upto : ℕ) (mine outs : List Outcome)
    → ((at : ℕ) → at < upto → at % count ≡ worker → out_at outs at ≡ out_at mine at) → Answered on by calls count worker upto mine → Answered on by calls count worker upto outs
answered_as on by calls count worker upto mine outs same w = record {
  said = λ at call stands below own. subst (λ (o : Outcome). OutcomeSays on by call o) (sym (same at below own)) (w.said at call stands below own);
  cause = λ at below own. subst (λ (o : Outcome). HasCauseIf (is_unasked_passport o) by.faults by.faults_now) (sym (same at below own)) (w.cause at below own);
  asks_most = w.asks_most;
  asks_stay = w.asks_stay;
  unasked = subst (λ n. AtMost n by.faults by.faults_now) (sym (open_as count worker upto mine outs same)) w.unasked;
  faults_stay = w.faults_stay;
}
