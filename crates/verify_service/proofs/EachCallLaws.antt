-- What is said of each call of a round at its index is said of the calls of the log, pair by pair.
use Rattle.std.proofs.Common.{◌≡◌, ℕ, suc, ◌<◌, ◌%◌, List, [], ◌∷◌, length, Option, Some, mod-lt, refl, sym, subst, arith}
use Rattle.std.specs.List.{slice_get}
use Rattle.call_log.specs.Entry.{Entry}
use Rattle.cert_store.specs.Rules.{Says}
use Rattle.stir_outside.specs.Files.{Files}
use Rattle.verify_rules.specs.declared.settings.Settings.{Settings}
use Rattle.verify_service.specs.Carrying.{AreSaid}
use Rattle.verify_service.specs.Claiming.{OutcomeSays}
use Rattle.verify_service.specs.Judging.{EachPair, IsJudgedWhere, call_in}
use Rattle.verify_service.specs.Ready.{Basis, Provided}
use Rattle.verify_service.specs.RightChains.{AreRightHeld}
use Rattle.verify_service.specs.Rows.{EachOwed, IsOwed}
use Rattle.verify_service.specs.Screening.{IsReady}
use Rattle.verify_service.specs.declared.outcome.Outcome.{Outcome}
use Rattle.verify_service.specs.declared.screening.ReadyCall.{ReadyCall}
use Rattle.verify_service.proofs.AsideLaws.{IsAsideIn}
use Rattle.verify_service.proofs.CallLaws.{moment_in}
use Rattle.verify_service.proofs.EntryClassLaws.{Beside, beside, out_some}

each_of : {A B : Type 0} → (R : A → B → Type 0) (xs : List A) (ys : List B) → length ys ≡ length xs
    → ((at : ℕ) (x : A) (y : B) → slice_get xs at ≡ Some x → slice_get ys at ≡ Some y → R x y) → EachPair R xs ys
each_of R [] [] many each = tt
each_of R [] (y ∷ ys) many each = absurd (omega arith)
each_of R (x ∷ xs) [] many each = absurd (omega arith)
each_of R (x ∷ xs) (y ∷ ys) many each = (each 0 x y refl refl, each_of R xs ys (omega arith) (λ at a b one other. each (suc at) a b one other))

-- each is set aside only for what is known of its chains
pub each_aside : (on : Basis) (by : ℕ → Provided) (calls : List ReadyCall) (count : ℕ) (outs : List Outcome) → AreSaid on by count calls outs → length outs ≡ length calls
    → EachPair (IsAsideIn on.kept on.held) calls outs
each_aside on by calls count outs said counted =
    each_of (IsAsideIn on.kept on.held) calls outs counted
    (λ at call outcome stands is. subst (λ (o : Outcome). IsAsideIn on.kept on.held call o) (out_some outs at outcome is) (said at call stands).aside)

module _ (on : Basis) (by : ℕ → Provided) (settings : Settings) (entries : List Entry) (calls : List ReadyCall) (count : ℕ) (outs : List Outcome) (said : AreSaid on by count calls outs)
    (counted : length outs ≡ length entries) (ready : EachPair (IsReady settings) entries calls) where
  said_at : (at : ℕ) (entry : Entry) (outcome : Outcome) (b : Beside settings calls at entry) → slice_get outs at ≡ Some outcome → OutcomeSays on (by (at % count)) b.call outcome
  said_at at entry outcome b is = subst (λ (o : Outcome). OutcomeSays on (by (at % count)) b.call o) (out_some outs at outcome is) (said at b.call b.stands)

  -- a call that passes is known again
  owed_at : (at : ℕ) (entry : Entry) (outcome : Outcome) → Beside settings calls at entry → slice_get outs at ≡ Some outcome → IsOwed settings entry outcome
  owed_at at entry outcome b is = λ pass. (said_at at entry outcome b is).owed (call_in settings entry) b.ready.screening pass

  pub each_owed : EachOwed settings entries outs
  each_owed = each_of (IsOwed settings) entries outs counted (λ at entry outcome stands is. owed_at at entry outcome (beside settings entries calls at entry ready stands) is)

  -- over files for which the chains are right, if all providers say the same
  module _ (told : Option Files) (says : Says) (some : 0 < count) (agree : (w : ℕ) → w < count → (by w).says ≡ says) (right : AreRightHeld told on.materials says on.held on.kept) where
    judged_at : (at : ℕ) (entry : Entry) (outcome : Outcome) → Beside settings calls at entry → slice_get outs at ≡ Some outcome
        → IsJudgedWhere told on.materials says (call_in settings entry) outcome
    judged_at at entry outcome b is =
        let same : (by (at % count)).says ≡ says = agree (at % count) (mod-lt at some) in
        subst (λ (s : Says). IsJudgedWhere told on.materials s (call_in settings entry) outcome) same
        ((said_at at entry outcome b is).judged (call_in settings entry) b.ready.screening (moment_in settings entry b.call.moment b.ready.moment) told
        (subst (λ (s : Says). AreRightHeld told on.materials s on.held on.kept) (sym same) right))

    pub each_judged : EachPair (λ entry outcome. IsJudgedWhere told on.materials says (call_in settings entry) outcome) entries outs
    each_judged =
        each_of (λ entry outcome. IsJudgedWhere told on.materials says (call_in settings entry) outcome) entries outs counted
        (λ at entry outcome stands is. judged_at at entry outcome (beside settings entries calls at entry ready stands) is)
