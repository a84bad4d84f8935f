-- What is known of a chain, by what was read of it and judged.
use Rattle.std.proofs.Common.{◌≡◌, ℕ, Bool, List, Option, Some, None, Result, Ok, Err, IfOk, refl, sym, ap, ◌∙◌, subst}
use Rattle.cert_store.specs.Judged.{JudgedView}
use Rattle.cert_store.specs.Rules.{Says}
use Rattle.cert_store.specs.declared.world.World.{World as Materials}
use Rattle.stir_outside.specs.Files.{Files}
use Rattle.verify_rules.specs.States.{State}
use Rattle.call_judging.specs.Causes.{HasCauseIf}
use Rattle.call_judging.specs.Chains.{IsRightWhere, is_unasked, is_unread, state_of}
use Rattle.call_judging.specs.Fetched.{IsFetched, IsJudgedFile, file_state, has_failed, is_unread_file}
use Rattle.call_judging.specs.declared.chains.ChainStatus.{ChainStatus}
use Rattle.call_judging.specs.declared.fetching.Fetched.{Fetched}
use Rattle.call_judging.specs.declared.fetching.Fetched.TheVariants as fetched

right_one : (told : Option Files) (materials : Materials) (says : Says) (x5u : List ℕ) (file : Fetched) (chain : Option JudgedView) → IsFetched told materials x5u file
    → IsJudgedFile materials says file chain → IsRightWhere told materials says x5u (file_state file chain)
right_one told materials says x5u (fetched.Bytes bytes) (Some judged) read own = read says judged own
right_one told materials says x5u (fetched.Bytes bytes) None read own = absurd own
right_one told materials says x5u fetched.Missing chain read own = read says
right_one told materials says x5u fetched.TooLong chain read own = read says
right_one told materials says x5u fetched.Unread chain read own = read says

pub unread_one : (file : Fetched) (chain : Option JudgedView) → is_unread (file_state file chain) ≡ is_unread_file file
unread_one (fetched.Bytes bytes) (Some judged) = refl
unread_one (fetched.Bytes bytes) None = refl
unread_one fetched.Missing chain = refl
unread_one fetched.TooLong chain = refl
unread_one fetched.Unread chain = refl

pub failed_one : (materials : Materials) (says : Says) (file : Fetched) (chain : Option JudgedView) → IsJudgedFile materials says file chain → is_unasked (file_state file chain) ≡ has_failed chain
failed_one materials says (fetched.Bytes bytes) (Some judged) own = refl
failed_one materials says (fetched.Bytes bytes) None own = absurd own
failed_one materials says fetched.Missing chain own = sym (ap has_failed own)
failed_one materials says fetched.TooLong chain own = sym (ap has_failed own)
failed_one materials says fetched.Unread chain own = sym (ap has_failed own)

-- ---- the status that is handed on

pub right_status : (told : Option Files) (materials : Materials) (says : Says) (x5u : List ℕ) (file : Fetched) (chain : Option JudgedView) (status : ChainStatus)
    → state_of status ≡ file_state file chain → IsJudgedFile materials says file chain → IsFetched told materials x5u file → IsRightWhere told materials says x5u (state_of status)
right_status told materials says x5u file chain status is own read =
    subst (λ (s : State). IsRightWhere told materials says x5u s) (sym is) (right_one told materials says x5u file chain read own)

pub unread_status : (file : Fetched) (chain : Option JudgedView) (status : ChainStatus) → state_of status ≡ file_state file chain → is_unread (state_of status) ≡ is_unread_file file
unread_status file chain status is = ap is_unread is ∙ unread_one file chain

pub unasked_status : (materials : Materials) (says : Says) (file : Fetched) (chain : Option JudgedView) (status : ChainStatus) (faults faults_now : ℕ) → state_of status ≡ file_state file chain
    → IsJudgedFile materials says file chain → HasCauseIf (has_failed chain) faults faults_now → HasCauseIf (is_unasked (state_of status)) faults faults_now
unasked_status materials says file chain status faults faults_now is own cause =
    subst (λ b. HasCauseIf b faults faults_now) (sym (ap is_unasked is ∙ failed_one materials says file chain own)) cause

-- a status is unread only if its file is
pub unread_if : {E : Type 0} → (result : Result ChainStatus E) (unread : Bool) (faults faults_now : ℕ) → IfOk result (λ chain. is_unread (state_of chain) ≡ unread)
    → HasCauseIf unread faults faults_now → IfOk result (λ chain. HasCauseIf (is_unread (state_of chain)) faults faults_now)
unread_if (Ok chain) unread faults faults_now same cause = subst (λ b. HasCauseIf b faults faults_now) (sym same) cause
unread_if (Err refused) unread faults faults_now same cause = tt
