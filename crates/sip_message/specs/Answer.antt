-- The faults that `Message::read` answers; running out of memory is always allowed.
use Rattle.std.specs.Prelude.{◌≡◌, Result, Ok, Err}
use Rattle.sip_message.specs.declared.fault.FormFault.{FormFault}
use Rattle.sip_message.specs.declared.fault.MessageFault.{MessageFault}
use Rattle.sip_message.specs.declared.fault.MessageFault.TheVariants.{Form, Memory}
use Rattle.sip_message.specs.Message.{MessageView}

-- the answer is the fault, unless memory ran out
abbrev pub IsFault : Result MessageView MessageFault → FormFault → Type 0
IsFault (Ok message) wanted = ⊥
IsFault (Err (Form fault)) wanted = fault ≡ wanted
IsFault (Err Memory) wanted = Unit {0}

-- if the answer is a fault of the form, this holds of it
abbrev pub IfForm : Result MessageView MessageFault → (FormFault → Type 0) → Type 0
IfForm (Ok message) P = Unit {0}
IfForm (Err (Form fault)) P = P fault
IfForm (Err Memory) P = Unit {0}
