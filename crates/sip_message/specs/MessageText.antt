-- A message with the bytes that it was read from.
use Rattle.std.specs.Prelude.{◌≡◌, ℕ, List, Ok}
use Rattle.sip_message.specs.Added.{head_end}
use Rattle.sip_message.specs.Message.{MessageView}
use Rattle.sip_message.specs.Reading.{read}

pub record MessageTextView : Type 0 where
  pub bytes : List ℕ
  pub message : MessageView

-- the bytes are read as this message, and the empty line that ends its head is at this place
pub record IsReadAs (bytes : List ℕ) (message : MessageView) (end : ℕ) : Type 0 where
  pub read_as : read bytes ≡ Ok message
  pub ends : end ≡ head_end bytes
