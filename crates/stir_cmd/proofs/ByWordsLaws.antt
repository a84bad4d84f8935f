-- A run keeps to the values of its words.
use Rattle.std.proofs.Common.{◌≡◌, ℕ, ◌+◌, ◌≤◌, inl, inr, List, [], ◌∷◌, Option, Some, None, refl, sym, subst, arith, append-nil}
use Rattle.std.specs.Io.KnownBytes.{Appends}
use Rattle.auth_service.specs.Order.{HolderView, OrderView as SignOrder, divert_order_of}
use Rattle.auth_service.specs.Outcome.{IsSigned}
use Rattle.call_log.specs.Entry.{Entry}
use Rattle.call_log.specs.Log.{start}
use Rattle.log_rounds.specs.Answers.{Answers, verdict_of}
use Rattle.log_rounds.specs.Rounds.{InEach, Round, outcomes_in}
use Rattle.retarget.specs.Hop.{diversion}
use Rattle.stir_cmd.specs.Sending.{holder_at}
use Rattle.state_text.specs.StateText.{state_text}
use Rattle.stir_files.specs.declared.retargeting.RetargetingMaterials.{RetargetingMaterials}
use Rattle.stir_files.specs.declared.signing.SigningMaterials.{SigningMaterials}
use Rattle.stir_outside.specs.Files.{Files}
use Rattle.stir_outside.specs.Held.{held_signs}
use Rattle.stir_words.specs.Order.{DivertBy, OrderView, RetargetBy, RetargetingView, SettingsView, SignBy, VerifyBy, VerifyingView}
use Rattle.verify_rules.specs.AllWords.{SaysRules}
use Rattle.verify_rules.specs.World.{World}
use Rattle.verify_service.specs.Judging.{EachPair, call_in}
use Rattle.verify_service.specs.Report.{report}
use Rattle.verify_service.specs.declared.outcome.Outcome.{Outcome}
use Rattle.verify_service.specs.declared.outcome.Outcome.TheVariants.{Valid}
use Rattle.stir_cmd.specs.ByWords.{FreshByWords, IsFreshIfValid, IsSignedBy, KeepsToWords, SentByWords, SignedByWords}
use Rattle.stir_cmd.specs.Calls.{settings_by, world_by}
use Rattle.stir_cmd.specs.Causes.{Ran}
use Rattle.stir_cmd.specs.Gateway.{GatewayGives, gateway_answering, gateway_course, hop_by, place_by}
use Rattle.stir_cmd.specs.Headline.{VerifiedFrom}
use Rattle.stir_cmd.specs.Input.{IsReply}
use Rattle.stir_cmd.specs.OverFiles.{counted}
use Rattle.stir_cmd.specs.Outside.{IfTold, Outside, io_in}
use Rattle.stir_cmd.specs.Signing.{SignCommand, SignGives, diverting_command, holder_by, sign_answering, sign_course, signing_command}
use Rattle.stir_cmd.proofs.RunLaws.{Laws, headline, says}

-- ---- signed

-- by this order, in other words
signed_by : (order other : SignOrder) (holder : Option HolderView) (signs : List ℕ → List ℕ → Option (List ℕ)) (bytes text : List ℕ) → order ≡ other
    → IsSigned bytes order holder signs text → IsSignedBy other bytes text
signed_by order other holder signs bytes text same is =
    let P : SignOrder → Type 0 = λ o. IsSigned bytes o holder signs text in
    record { holder = holder; signs = signs; signed = subst P same is; second = refl; certificates = refl }

signs : (order : SignOrder) (materials : SigningMaterials) (before mid now : Outside) (text : List ℕ) (status : ℕ) → before.left ≡ mid.left → before.written ≡ mid.written
    → status ≡ 0 → Appends mid.written now.written text → IsReply (sign_answering order materials) (io_in mid) (io_in now) text status
    → SignedByWords order before now
signs order materials before mid now text status left written zero reported (inl replied) = signs_by replied.gives
  where
    signs_by : SignGives order materials replied.bytes text status → SignedByWords order before now
    signs_by (inl s) = record {
      bytes = replied.bytes;
      taken = rw left replied.taken;
      text = text;
      reported = rw written reported;
      signed = signed_by order order (holder_by materials.holder) (held_signs materials.answers) replied.bytes text refl s.gave.says;
    }
    signs_by (inr refused) = absurd (omega (arith, refused.said, zero))
signs order materials before mid now text status left written zero reported (inr long) = absurd (omega (arith, long.gives.1, zero))

signed : (command : SignCommand) (before now : Outside) (status : ℕ) → (sign_course command).Says before now status → status ≡ 0
    → SignedByWords command.order before now
signed command before now status b zero =
    signs command.order b.read before (counted before b.counts) now b.says.text status refl refl zero b.says.reported b.says.reply

-- ---- sent on

sends : (words : RetargetingView) (materials : RetargetingMaterials) (before mid now : Outside) (text : List ℕ) (status : ℕ) → before.left ≡ mid.left → before.written ≡ mid.written
    → status ≡ 0 → Appends mid.written now.written text
    → IsReply (gateway_answering (place_by words materials) (hop_by words) mid.files mid.counts.faults now.counts.faults) (io_in mid) (io_in now) text status
    → SentByWords words before now
sends words materials before mid now text status left written zero reported (inl replied) = sends_by replied.gives
  where
    sends_by : GatewayGives (place_by words materials) (hop_by words) mid.files mid.counts.faults now.counts.faults replied.bytes text status → SentByWords words before now
    sends_by (inl out) = absurd (omega (arith, out.said, zero))
    sends_by (inr (inl s)) =
        let w = s.over.answer.written in record {
          bytes = replied.bytes;
          taken = rw left replied.taken;
          passes = s.over.early;
          text = text;
          reported = rw written reported;
          earlier = w.earlier;
          moved = w.written.moved;
          other_uri = w.written.other_uri;
          signed = signed_by (divert_order_of w.written.order) (diversion (hop_by words) w.earlier) (Some (holder_at (place_by words materials))) (held_signs materials.judging.answers) w.written.moved
              text w.written.diverts w.written.is_signed;
        }
    sends_by (inr (inr held)) = absurd (omega (arith, held.said, zero))
sends words materials before mid now text status left written zero reported (inr long) = absurd (omega (arith, long.gives.1, zero))

sent : (words : RetargetingView) (before now : Outside) (status : ℕ) → (gateway_course words).Says before now status → status ≡ 0 → SentByWords words before now
sent words before now status b zero = sends words b.read before (counted before b.counts) now b.says.text status refl refl zero b.says.reported b.says.reply

-- ---- a log

valid_fresh : (world : World) (words : SettingsView) (entry : Entry) (outcome : Outcome) → Answers world (settings_by words) entry outcome → IsFreshIfValid words entry outcome
unfolding call_in
valid_fresh world words entry outcome a is =
    let said : SaysRules world entry.message (call_in (settings_by words) entry) (verdict_of Valid) =
    subst (λ (o : Outcome). SaysRules world entry.message (call_in (settings_by words) entry) (verdict_of o)) is a.words in
    said.early.fresh

pairs_fresh : (world : World) (words : SettingsView) (calls : List Entry) (outcomes : List Outcome) → EachPair (Answers world (settings_by words)) calls outcomes
    → EachPair (IsFreshIfValid words) calls outcomes
pairs_fresh world words [] [] h = h
pairs_fresh world words [] (outcome ∷ outcomes) h = h
pairs_fresh world words (entry ∷ calls) [] h = h
pairs_fresh world words (entry ∷ calls) (outcome ∷ outcomes) h = (valid_fresh world words entry outcome h.0, pairs_fresh world words calls outcomes h.1)

rounds_fresh : (world : World) (words : SettingsView) (rounds : List Round) → InEach (Answers world (settings_by words)) rounds → InEach (IsFreshIfValid words) rounds
rounds_fresh world words [] h = tt
rounds_fresh world words (round ∷ others) h = (pairs_fresh world words round.calls round.outcomes h.0, rounds_fresh world words others h.1)

fresh : (verifying : VerifyingView) (state : Option (List ℕ)) (before now : Outside) (status : ℕ) (files : Files) (bytes : List ℕ) → VerifiedFrom verifying state before now status files bytes
    → FreshByWords verifying before now files bytes
fresh verifying None before now status files bytes v = record {
  passed = start 0 0;
  rounds = v.rounds;
  log = v.log;
  number = 1;
  closing = [];
  reported = subst (Appends before.written now.written) (sym (append-nil (report 1 (outcomes_in v.rounds)))) v.reported;
  fresh = rounds_fresh (world_by v.materials files) verifying.judging.settings v.rounds v.judged.each;
}
fresh verifying (Some name) before now status files bytes v = record {
  passed = _;
  rounds = v.rounds;
  log = v.log;
  number = v.materials.state.call + 1;
  closing = state_text v.state;
  reported = v.reported;
  fresh = rounds_fresh (world_by v.materials.judging files) verifying.judging.settings v.rounds v.judged.each;
}

told_as : (files : Option Files) (left : Option (List ℕ)) (P Q : Files → List ℕ → Type 0) → ((told : Files) (bytes : List ℕ) → P told bytes → Q told bytes)
    → IfTold files left P → IfTold files left Q
told_as None left P Q f h = tt
told_as (Some files) None P Q f h = tt
told_as (Some files) (Some bytes) P Q f h = f files bytes h

-- ---- the whole

low : (status : ℕ) → status ≡ 0 → status ≤ 1
low status zero = omega (arith, zero)

pub keeps_to_words : Laws → (order : Option OrderView) (before now : Outside) (status : ℕ) → Ran order before now status → KeepsToWords order before now status
keeps_to_words laws (Some (VerifyBy verifying)) before now status came = λ few.
    told_as before.files before.left (VerifiedFrom verifying verifying.state before now status) (FreshByWords verifying before now)
    (λ files bytes v. fresh verifying verifying.state before now status files bytes v) (headline (Some (VerifyBy verifying)) before now status came few)
keeps_to_words laws (Some (SignBy words)) before now status came = λ zero.
    signed (signing_command words) before now status (says laws (Some (SignBy words)) before now status came (low status zero)) zero
keeps_to_words laws (Some (DivertBy words)) before now status came = λ zero.
    signed (diverting_command words) before now status (says laws (Some (DivertBy words)) before now status came (low status zero)) zero
keeps_to_words laws (Some (RetargetBy words)) before now status came = λ zero.
    sent words before now status (says laws (Some (RetargetBy words)) before now status came (low status zero)) zero
keeps_to_words laws other before now status came = tt
