-- The head of a message and the message it says (RFC 3261, section 7; the size is this project's own limit).
use Rattle.std.specs.Prelude.{◌≡◌, ℕ, Bool, List, [], ◌∷◌, length, map, filter}
use Rattle.sip_message.specs.Group.{Begins, Group, field_of}
use Rattle.sip_message.specs.Lines.{LineView}
use Rattle.sip_message.specs.Message.{MessageView}
use Rattle.sip_message.specs.Names.{is_from, is_to}

-- exactly one of the groups has such a name
abbrev pub HasOne : (List ℕ → Bool) → List Group → Type 0
HasOne test groups = length (filter (λ (group : Group). test group.name) groups) ≡ 1

-- the bytes are a start line, groups of a field line and its continuations, an empty line and a body; exactly one group
-- is named From and exactly one To
pub record Head (bytes : List ℕ) (message : MessageView) : Type 0 where
  pub groups : List Group
  pub empty : LineView
  pub body : List LineView
  pub begins : Begins bytes message.method message.uri groups (empty ∷ body)
  pub empty_ok : empty.text ≡ []
  pub one_from : HasOne is_from groups
  pub one_to : HasOne is_to groups
  pub fields : message.fields ≡ map field_of groups
