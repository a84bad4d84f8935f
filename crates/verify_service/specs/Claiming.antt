-- What a worker answers to a call of a round, and what its seat gains by that.
use Rattle.std.specs.Prelude.{◌≡◌, ⊤, ℕ, ◌⊎◌, true, List, Option, Some, None, Ok}
use Rattle.replay_desk.specs.Holder.{Holder, gained, lost_to}
use Rattle.replay_desk.specs.Past.{PastView, found}
use Rattle.state_text.specs.declared.kept.Kept.{Kept as Passing}
use Rattle.stir_outside.specs.Files.{Files}
use Rattle.verify_rules.specs.Call.{Call, Reading}
use Rattle.verify_rules.specs.Rules.{early_rules}
use Rattle.verify_rules.specs.Screened.{IsScreenedBy, ScreenedView}
use Rattle.verify_rules.specs.Signed.{IsKnownAgain}
use Rattle.verify_rules.specs.Verdict.{IsVerdict}
use Rattle.verify_rules.specs.declared.verdict.Verdict.{Verdict}
use Rattle.verify_rules.specs.declared.verdict.Verdict.TheVariants as verdicts
use Rattle.verify_service.specs.Aside.{IsAsideFor}
use Rattle.verify_service.specs.Judging.{IsJudgedWhere}
use Rattle.verify_service.specs.Kept.{states_for}
use Rattle.verify_service.specs.Ready.{Basis, Provided, class_in, is_passed, ticket_in}
use Rattle.verify_service.specs.RightChains.{AreRightHeld}
use Rattle.verify_service.specs.Rows.{passes}
use Rattle.verify_service.specs.Screening.{IsScreening, readings_in}
use Rattle.verify_service.specs.declared.outcome.Outcome.{Outcome}
use Rattle.verify_service.specs.declared.outcome.Outcome.TheVariants as outcomes
use Rattle.verify_service.specs.declared.screening.ReadyCall.{ReadyCall}
use Rattle.verify_service.specs.declared.screening.Screening.{Screening}
use Rattle.verify_service.specs.declared.screening.Screening.TheVariants as screenings

-- ---- what is answered

-- what the rules of the chains came to if this is answered
abbrev pub verdict_of : Outcome → Verdict
verdict_of outcomes.Valid = verdicts.Passed
verdict_of (outcomes.Refused refused) = verdicts.Refused refused
verdict_of (outcomes.Replay winner) = verdicts.Passed
verdict_of (outcomes.Unread bad) = verdicts.Unread bad
verdict_of (outcomes.Unasked bad) = verdicts.Unasked bad

-- it is what the rules of the chains give first of these PASSporTs, over the chains that the round has
abbrev pub IsLateAnswer : Basis → Provided → ℕ → List Reading → Outcome → Type 0
IsLateAnswer on by moment readings outcome = IsVerdict by.says on.materials.table moment readings
    (states_for on.kept on.held readings) by.faults by.faults_now (verdict_of outcome)

-- the refusal by the rules of the call, and else what the rules of the chains give first
abbrev pub IsRuled : Basis → Provided → ℕ → Screening → Outcome → Type 0
IsRuled on by moment screenings.Open outcome = ⊤
IsRuled on by moment (screenings.Refused refused) outcome = outcome ≡ outcomes.Refused refused
IsRuled on by moment (screenings.Passed screened) outcome = IsLateAnswer on by moment screened.readings outcome

-- What is answered to a call that was screened so is what the rules say of it over the chains that the round has; and
-- it is what they say of it over any files for which these chains are right. A call that passes is known again by what
-- was signed. It is set aside only for what is known of its chains, or for its own signature.
pub record OutcomeSays (on : Basis) (by : Provided) (call : ReadyCall) (outcome : Outcome) : Type 0 where
  pub ruled : IsRuled on by call.moment call.screening outcome
  pub judged : (seen : Call) → IsScreening seen call.screening → call.moment ≡ seen.moment → (told : Option Files)
      → AreRightHeld told on.materials by.says on.held on.kept → IsJudgedWhere told on.materials by.says seen outcome
  pub owed : (seen : Call) → IsScreening seen call.screening → passes outcome ≡ true → IsKnownAgain seen
  pub passed : passes outcome ≡ true → is_passed call.screening ≡ true
  pub aside : IsAsideFor (readings_in call.screening) on.kept on.held outcome

-- The same of one that the rules of the call don't refuse.
pub record IsAnswer (on : Basis) (by : Provided) (moment : ℕ) (screened : ScreenedView)
    (outcome : Outcome) : Type 0 where
  pub ruled : IsLateAnswer on by moment screened.readings outcome
  pub judged : (seen : Call) → IsScreenedBy early_rules seen (Ok screened) → moment ≡ seen.moment
      → (told : Option Files) → AreRightHeld told on.materials by.says on.held on.kept
      → IsJudgedWhere told on.materials by.says seen outcome
  pub owed : (seen : Call) → IsScreenedBy early_rules seen (Ok screened) → passes outcome ≡ true → IsKnownAgain seen
  pub aside : IsAsideFor screened.readings on.kept on.held outcome

-- ---- what the seat gains

-- a win of this call
abbrev pub pair_of : ReadyCall → ℕ × ℕ
pair_of call = (class_in call, call.number)

-- a loss of it to this winner
abbrev pub loss_of : ReadyCall → ℕ → ℕ × ℕ
loss_of call winner = (class_in call, winner)

-- it is a replay of the call of this number, which passed before
pub record ReplaysKept (past : PastView) (ticket : List ℕ) (winner : ℕ) : Type 0 where
  pub kept : Passing
  pub stands : found past ticket ≡ Some kept
  pub names : winner ≡ kept.call

-- a claim that was won or lost
abbrev pub IsClaim : ℕ → ℕ → Holder → Holder → Outcome → Type 0
IsClaim class number old new outcomes.Valid = new ≡ gained class number old
IsClaim class number old new (outcomes.Replay winner) = new ≡ lost_to class winner old
IsClaim class number old new (outcomes.Refused refused) = ⊥
IsClaim class number old new (outcomes.Unread bad) = ⊥
IsClaim class number old new (outcomes.Unasked bad) = ⊥

-- A valid call has a ticket that the past hasn't, and its seat gained the win. A replay is one of a call of the past;
-- or the past hasn't its ticket, and its seat gained the loss. At any other answer the seat gains nothing.
abbrev pub ClaimsAt : PastView → List ℕ → ℕ → ℕ → Holder → Holder → Outcome → Type 0
ClaimsAt past ticket class number old new outcomes.Valid = (found past ticket ≡ None) × (new ≡ gained class number old)
ClaimsAt past ticket class number old new (outcomes.Replay winner) =
    (ReplaysKept past ticket winner × (new ≡ old)) ⊎ ((found past ticket ≡ None) × (new ≡ lost_to class winner old))
ClaimsAt past ticket class number old new (outcomes.Refused refused) = new ≡ old
ClaimsAt past ticket class number old new (outcomes.Unread bad) = new ≡ old
ClaimsAt past ticket class number old new (outcomes.Unasked bad) = new ≡ old

abbrev pub Claims : PastView → ReadyCall → Holder → Holder → Outcome → Type 0
Claims past call old new outcome = ClaimsAt past (ticket_in call.screening) (class_in call) call.number old new outcome

-- The call breaks no rule over the chains that the round has, the past hasn't its ticket, and the seat gained its win.
pub record HasWon (on : Basis) (by : Provided) (call : ReadyCall) (old new : Holder) : Type 0 where
  pub passed : is_passed call.screening ≡ true
  pub ruled : IsRuled on by call.moment call.screening outcomes.Valid
  pub free : found on.past (ticket_in call.screening) ≡ None
  pub win : new ≡ gained (class_in call) call.number old
