-- The one spelling in which a field is written, among those that the grammar allows (this project's own rule).
use Rattle.std.specs.Prelude.{ℕ, Bool, not, ◌&&◌, ◌==◌, List, [], ◌∷◌, ◌++◌, length, Option, Some, None, if◌then◌else◌}
use Rattle.std.specs.Prelude.{codes}
use Rattle.std.specs.List.{list_all}
use Rattle.identity_header.specs.Parts.{Parts, is_bare_byte}

-- one or more bare bytes
abbrev pub is_bare : List ℕ → Bool
is_bare value = not (length value == 0) && list_all is_bare_byte value

-- a bare text as it is, and each other one, also the empty one, between quotes
abbrev pub value_text : List ℕ → List ℕ
value_text value = if is_bare value then value else 34 ∷ (value ++ 34 ∷ [])

-- a parameter, if there is one: the name comes with its semicolon and its equals sign
abbrev pub param_text : List ℕ → Option (List ℕ) → List ℕ
param_text name None = []
param_text name (Some value) = name ++ value_text value

unfoldable pub spelling : Parts → List ℕ
spelling f = f.token ++ codes ";info=<" ++ f.info ++ codes ">" ++ param_text (codes ";alg=") f.alg
    ++ param_text (codes ";ppt=") f.ppt
