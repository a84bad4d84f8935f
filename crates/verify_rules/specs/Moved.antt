-- A call whose message has another request URI, judged at another moment by who numbers alike (RFC 3261, section 16.6).
use Rattle.std.specs.Prelude.{◌≡◌, ℕ, List, take}
use Rattle.sip_message.specs.Message.{MessageView}
use Rattle.sip_message.specs.Target.{to_uri}
use Rattle.verify_rules.specs.Call.{in_message, read_call}
use Rattle.verify_rules.specs.Rules.{HoldAll, early_rules}
use Rattle.verify_rules.specs.declared.settings.Settings.{Settings}

-- its PASSporTs say the same,
abbrev pub SaysSame : Type 0
SaysSame = (settings other : Settings) (moment later : ℕ) (message : MessageView) (uri : List ℕ)
    → other.local ≡ settings.local
    → in_message (read_call other later (to_uri message uri)) ≡ in_message (read_call settings moment message)

-- and rules 1 to 7 hold of it if they held
abbrev pub HoldsMoved : Type 0
HoldsMoved = (settings other : Settings) (moment later : ℕ) (message : MessageView) (uri : List ℕ)
    → other.local ≡ settings.local → HoldAll (take 7 early_rules) (read_call settings moment message)
    → HoldAll (take 7 early_rules) (read_call other later (to_uri message uri))
