-- How long the values of a message are (this project's own limit on the size of a message head).
use Rattle.std.specs.Prelude.{◌≤◌, List, [], ◌∷◌, length}
use Rattle.sip_message.specs.Message.{FieldView}

-- no value is longer than the largest head that is read
abbrev pub AreShort : List FieldView → Type 0
AreShort [] = Unit {0}
AreShort (field ∷ others) = (length field.value ≤ 65535) × AreShort others
