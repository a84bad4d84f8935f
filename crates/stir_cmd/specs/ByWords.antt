-- What a run keeps to of the values of its words, each under its own name (this project's own rule): by which seconds a
-- call is fresh, when it came, by which key and at which second is signed, and where a call goes on. `settings_by`,
-- `place_with`, `hop_by` and their kin say the same as functions.
use Rattle.std.specs.Prelude.{◌≡◌, ℕ, ◌≤◌, List, [], ◌++◌, Option, Some, None}
use Rattle.std.specs.Io.KnownBytes.{Appends, Consumes}
use Rattle.auth_service.specs.Order.{HolderView, OrderView as SignOrder, shape_of, shape_of_diversion}
use Rattle.auth_service.specs.Outcome.{IsSigned}
use Rattle.auth_service.specs.Signed.{claims_by}
use Rattle.call_log.specs.Entry.{Entry}
use Rattle.call_log.specs.Log.{LogText, Passed}
use Rattle.log_rounds.specs.Rounds.{InEach, Round, calls_in, outcomes_in}
use Rattle.sip_message.specs.Target.{HasOtherUri}
use Rattle.stir_outside.specs.Files.{Files}
use Rattle.stir_words.specs.Order.{DivertBy, OrderView, RetargetBy, RetargetingView, SettingsView, SignBy, VerifyBy}
use Rattle.stir_words.specs.Order.{VerifyingView}
use Rattle.verify_rules.specs.Call.{Call, call_of, in_call_order}
use Rattle.verify_rules.specs.Rules.{early_rules, first}
use Rattle.verify_rules.specs.Words.{Each, IsFresh}
use Rattle.verify_rules.specs.declared.refusal.Refusal.{Refusal}
use Rattle.verify_service.specs.Report.{report}
use Rattle.verify_service.specs.declared.outcome.Outcome.{Outcome}
use Rattle.verify_service.specs.declared.outcome.Outcome.TheVariants.{Valid}
use Rattle.stir_cmd.specs.Outside.{IfTold, Outside}

-- ---- what is judged

-- a call of these bytes at this moment, with the seconds and the numbering of the words
abbrev pub called_at : SettingsView → ℕ → List ℕ → Call
called_at words came bytes =
    call_of (record { past = words.past; future = words.future; local = words.local }) came bytes

-- a valid call: no PASSporT of it is older than `--past` says when it came, nor ahead by more than `--future` says
abbrev pub IsFreshIfValid : SettingsView → Entry → Outcome → Type 0
IsFreshIfValid words entry outcome = outcome ≡ Valid
    → Each (IsFresh (record { past = words.past; future = words.future; local = words.local }) entry.moment)
    (in_call_order (called_at words entry.moment entry.message))

-- the bytes are a whole log, after what passed before it; its report was written, and what closes that; and each valid
-- call is fresh by the words
pub record FreshByWords (verifying : VerifyingView) (before now : Outside) (files : Files)
    (bytes : List ℕ) : Type 0 where
  pub passed : Passed
  pub rounds : List Round
  pub log : LogText passed bytes (calls_in rounds) []
  pub number : ℕ
  pub closing : List ℕ
  pub reported : Appends before.written now.written (report number (outcomes_in rounds) ++ closing)
  pub fresh : InEach (IsFreshIfValid verifying.judging.settings) rounds

-- ---- what is signed

-- the text is the message of these bytes with one field more, in which the order's key signed a PASSporT with the
-- order's second as its `iat` and the order's URI as its `x5u`
pub record IsSignedBy (order : SignOrder) (bytes text : List ℕ) : Type 0 where
  pub holder : Option HolderView
  pub signs : List ℕ → List ℕ → Option (List ℕ)
  pub signed : IsSigned bytes order holder signs text
  pub second : (claims_by order signed.orig signed.dest).iat ≡ order.iat
  pub certificates : (claims_by order signed.orig signed.dest).x5u ≡ order.x5u

-- the message that the input is was so signed, and written
pub record SignedByWords (order : SignOrder) (before now : Outside) : Type 0 where
  pub bytes : List ℕ
  pub taken : Consumes before.left now.left bytes
  pub text : List ℕ
  pub reported : Appends before.written now.written text
  pub signed : IsSignedBy order bytes text

-- The message that the input is breaks none of the rules of the call at the moment of the words, by their seconds. What
-- was written is this message with the target of the words as its request URI, and its diversion signed with their key
-- at their second.
pub record SentByWords (words : RetargetingView) (before now : Outside) : Type 0 where
  pub bytes : List ℕ
  pub taken : Consumes before.left now.left bytes
  pub passes : ◌≡◌ {A = Option Refusal} (first early_rules (called_at words.judging.settings words.moment bytes)) None
  pub text : List ℕ
  pub reported : Appends before.written now.written text
  pub earlier : List ℕ
  pub moved : List ℕ
  pub other_uri : HasOtherUri bytes words.target moved
  pub signed : IsSignedBy (record {
    shape = shape_of_diversion earlier;
    key = words.key;
    x5u = words.x5u;
    iat = words.iat;
    local = words.judging.settings.local;
  }) moved text

-- ---- the whole

-- `verify` that ends with 0 or 1, if shelf and input are told; and a message that is signed, or sent on
abbrev pub KeepsToWords : Option OrderView → Outside → Outside → ℕ → Type 0
KeepsToWords (Some (VerifyBy verifying)) before now status = status ≤ 1
    → IfTold before.files before.left (FreshByWords verifying before now)
KeepsToWords (Some (SignBy words)) before now status = status ≡ 0 → SignedByWords (record {
  shape = shape_of words.form;
  key = words.signer.key;
  x5u = words.signer.x5u;
  iat = words.signer.iat;
  local = words.signer.local;
}) before now
KeepsToWords (Some (DivertBy words)) before now status = status ≡ 0 → SignedByWords (record {
  shape = shape_of_diversion words.earlier;
  key = words.signer.key;
  x5u = words.signer.x5u;
  iat = words.signer.iat;
  local = words.signer.local;
}) before now
KeepsToWords (Some (RetargetBy words)) before now status = status ≡ 0 → SentByWords words before now
KeepsToWords other before now status = Unit {0}
