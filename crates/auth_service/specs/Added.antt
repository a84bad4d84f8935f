-- What a message with one more header field is asked, by what the message itself is asked: the laws of messages in one
-- record.
use Rattle.std.specs.Prelude.{◌≡◌, ℕ, true, false, List, [], ◌∷◌, ◌++◌}
use Rattle.tn_values.specs.Local.{LocalView}
use Rattle.sip_message.specs.Accessors.{calling_number, date, identities, is_invite, target_number, to_number}
use Rattle.sip_message.specs.Added.{with_last}
use Rattle.sip_message.specs.Message.{MessageView}
use Rattle.sip_message.specs.Names.{is_asserted, is_date, is_from, is_identity, is_to}

pub record AddedLaws : Type 0 where
  pub identity : (message : MessageView) (name value : List ℕ) → is_identity name ≡ true
      → identities (with_last message name value) ≡ identities message ++ value ∷ []
  pub invite : (message : MessageView) (name value : List ℕ)
      → is_invite (with_last message name value) ≡ is_invite message
  pub dated : (message : MessageView) (name value : List ℕ) → is_date name ≡ false
      → date (with_last message name value) ≡ date message
  pub calling : (message : MessageView) (name value : List ℕ) (local : LocalView) → is_asserted name ≡ false
      → is_from name ≡ false → calling_number (with_last message name value) local ≡ calling_number message local
  pub called : (message : MessageView) (name value : List ℕ) (local : LocalView) → is_to name ≡ false
      → to_number (with_last message name value) local ≡ to_number message local
  pub target : (message : MessageView) (name value : List ℕ) (local : LocalView)
      → target_number (with_last message name value) local ≡ target_number message local
