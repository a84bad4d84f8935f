-- A message with another request URI (RFC 3261, section 7.1: the URI is between the first two spaces of the start
-- line).
use Rattle.std.specs.Prelude.{◌≡◌, ◌≤◌, ℕ, true, length, List, [], ◌∷◌, ◌++◌, Option, Some, None, Result}
use Rattle.text_grammar.specs.Cut.{cut, lacks}
use Rattle.sip_message.specs.declared.fault.FormFault.{FormFault}
use Rattle.sip_message.specs.Added.{sized_or_fault}
use Rattle.sip_message.specs.Head.{Head}
use Rattle.sip_message.specs.HeadAlphabet.{is_target}
use Rattle.sip_message.specs.Message.{MessageView}
use Rattle.sip_message.specs.Reading.{read}

-- what is written if this method is before the first space: this URI instead of what is before the second
abbrev pub behind_method : List ℕ → List ℕ → Option (List ℕ × List ℕ) → List ℕ
behind_method uri method None = []
behind_method uri method (Some parts) = method ++ 32 ∷ (uri ++ 32 ∷ parts.1)

-- the same, with the method and what comes after it in one
abbrev pub behind_uri : List ℕ → Option (List ℕ × List ℕ) → List ℕ
behind_uri uri None = []
behind_uri uri (Some parts) = behind_method uri parts.0 (cut 32 parts.1)

-- the bytes with this between their first two spaces
abbrev pub with_uri : List ℕ → List ℕ → List ℕ
with_uri bytes uri = behind_uri uri (cut 32 bytes)

-- the message with this URI
abbrev pub to_uri : MessageView → List ℕ → MessageView
to_uri message uri = record { method = message.method; uri = uri; fields = message.fields }

-- the bytes with this URI; the first fault of bytes that are no message; or that of their size if they grow too long
unfoldable pub targeted : List ℕ → List ℕ → Result (List ℕ) FormFault
targeted bytes uri = sized_or_fault (read bytes) (with_uri bytes uri)

-- the first two spaces of the bytes have the old URI between them, and those of what was written have this one; all
-- else is the same
pub record HasOtherUri (bytes uri out : List ℕ) : Type 0 where
  pub method : List ℕ
  pub old : List ℕ
  pub rest : List ℕ
  pub from : bytes ≡ method ++ 32 ∷ (old ++ 32 ∷ rest)
  pub to : out ≡ method ++ 32 ∷ (uri ++ 32 ∷ rest)
  pub no_space : lacks 32 method ≡ true
  pub none_in_old : lacks 32 old ≡ true

-- bytes that are a message are one with another request URI too, and the message is the same but for it
abbrev pub TargetLaw : Type 0
TargetLaw = (bytes uri : List ℕ) (message : MessageView) → is_target uri ≡ true → length (with_uri bytes uri) ≤ 65535
    → Head bytes message → Head (with_uri bytes uri) (to_uri message uri)
