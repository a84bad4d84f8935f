-- The lines of a message head in groups: each header field with its continuations (RFC 3261, section 7.3.1).
use Rattle.std.specs.Prelude.{◌≡◌, ℕ, ◌≤◌, true, List, [], ◌∷◌, ◌++◌, length, map}
use Rattle.std.specs.List.{list_all}
use Rattle.sip_message.specs.FieldLine.{IsFieldLine}
use Rattle.sip_message.specs.Lines.{LineView, is_continuation, lines_of}
use Rattle.sip_message.specs.Message.{FieldView}
use Rattle.sip_message.specs.StartLine.{IsStartLine}
use Rattle.sip_message.specs.Value.{value_of}

-- a field line, its name and its rest, and the lines that continue it
pub record Group : Type 0 where
  pub first : LineView
  pub name : List ℕ
  pub rest : List ℕ
  pub continued : List LineView

pub record IsGroup (group : Group) : Type 0 where
  pub first_ok : IsFieldLine group.first.text group.name group.rest
  pub continued_ok : list_all (λ (line : LineView). is_continuation line.text) group.continued ≡ true

abbrev pub AreGroups : List Group → Type 0
AreGroups [] = Unit {0}
AreGroups (group ∷ others) = IsGroup group × AreGroups others

abbrev pub lines_of_groups : List Group → List LineView
lines_of_groups [] = []
lines_of_groups (group ∷ others) = group.first ∷ (group.continued ++ lines_of_groups others)

-- the field of a group: its name and its joined value
abbrev pub field_of : Group → FieldView
field_of group =
    record { name = group.name; value = value_of group.rest (map (λ (line : LineView). line.text) group.continued) }

-- the bytes are at most 65,535, and their lines are a start line, these groups and what is left
pub record Begins (bytes method uri : List ℕ) (groups : List Group) (left : List LineView) : Type 0 where
  pub start : LineView
  pub short : length bytes ≤ 65535
  pub lines : lines_of bytes ≡ start ∷ (lines_of_groups groups ++ left)
  pub start_ok : IsStartLine start.text method uri
  pub groups_ok : AreGroups groups
