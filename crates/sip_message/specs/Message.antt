-- What a message says: its method, its URI and its header fields in their order (RFC 3261, section 7).
use Rattle.std.specs.Prelude.{ℕ, List}

-- the name as it was written, and the value of all its lines
pub record FieldView : Type 0 where
  pub name : List ℕ
  pub value : List ℕ

pub record MessageView : Type 0 where
  pub method : List ℕ
  pub uri : List ℕ
  pub fields : List FieldView
