-- A call that was opened: read once, and screened by the rules of the call.
use Rattle.std.specs.Borrow.{Bor}
use Rattle.std.specs.Prelude.{◌≡◌, ℕ, List, [], Option, Some, None, Result, Ok, Err}
use Rattle.sip_message.specs.FieldValue.{IsFieldValue, field_value}
use Rattle.sip_message.specs.Head.{Head}
use Rattle.sip_message.specs.Message.{MessageView}
use Rattle.sip_message.specs.Reading.{read}
use Rattle.sip_message.specs.declared.fault.FormFault.{FormFault}
use Rattle.verify_rules.specs.Call.{Call, Reading, call_of, in_call_order}
use Rattle.verify_rules.specs.Rules.{early_rules, first}
use Rattle.verify_rules.specs.Screened.{ScreenedView, screened_of}
use Rattle.verify_rules.specs.Settings.{SettingsView}
use Rattle.verify_rules.specs.declared.refusal.Refusal.{Refusal}

-- the settings of the world under which it was opened, the moment at which it came, in Unix seconds, and the bytes of
-- its message
pub record CallView : Type 0 where
  pub settings : SettingsView
  pub moment : ℕ
  pub message : List ℕ

abbrev pub call_in : CallView → Call
call_in call = call_of call.settings call.moment call.message

-- the one of the rules of the call that it breaks first
abbrev pub refused_early : CallView → Option Refusal
refused_early call = first early_rules (call_in call)

abbrev pub unless_refused : Option Refusal → List Reading → List Reading
unless_refused None readings = readings
unless_refused (Some refused) readings = []

-- the PASSporTs that are judged, in the order in which the call went; none if the rules of the call refuse it
abbrev pub judged_in : CallView → List Reading
judged_in call = unless_refused (refused_early call) (in_call_order (call_in call))

-- the x5u of a PASSporT (RFC 8225, section 4.3)
abbrev pub x5u_in : Reading → List ℕ
x5u_in one = one.passport.x5u

-- ---- the header fields of its message

-- one that can't be read has none
abbrev pub value_in : Result MessageView FormFault → List ℕ → ℕ → Option (List ℕ)
value_in (Ok message) name i = field_value message name i
value_in (Err fault) name i = None

-- the value of the field `i` of this name, counted from 0 (RFC 3261, sections 7.3.1 and 7.3.3)
abbrev pub header_in : CallView → List ℕ → ℕ → Option (List ℕ)
header_in call name i = value_in (read call.message) name i

-- in words: the bytes are a message, and this is the value of the field with `i` of this name before it
pub record IsHeaderValue (call : CallView) (name : List ℕ) (i : ℕ) (value : List ℕ) : Type 0 where
  pub message : MessageView
  pub head : Head call.message message
  pub value_is : IsFieldValue name message.fields i value

-- ---- how it is kept

-- screened if none of the rules of the call is broken, else refused by the first that is
abbrev pub IsEarly : Call → Result ScreenedView Refusal → Type 0
IsEarly call (Ok screened) = (first early_rules call ≡ None) × (screened ≡ screened_of call)
IsEarly call (Err refused) = first early_rules call ≡ Some refused

-- the same, lent
abbrev pub IsEarlyLent : Call → Result (Bor ScreenedView) Refusal → Type 0
IsEarlyLent call (Ok screened) = IsEarly call (Ok screened.now)
IsEarlyLent call (Err refused) = IsEarly call (Err refused)
