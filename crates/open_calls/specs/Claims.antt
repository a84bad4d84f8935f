-- What the PASSporTs of a call say.
use Rattle.std.specs.Prelude.{◌≡◌, ℕ, Bool, true, not, ◌&&◌, nat_le, List, [], ◌∷◌, ◌++◌, Option, Some, None}
use Rattle.std.specs.Prelude.{if◌then◌else◌, decimal}
use Rattle.passport_json.specs.Deterministic.{Det, most_deep}
use Rattle.serde_json.specs.Data.{Data, depth}
use Rattle.serde_json.specs.Written.{has_float}
use Rattle.text_grammar.specs.Cut.{lacks}
use Rattle.verify_rules.specs.Call.{Reading, payload_of}

-- no floating-point number is in the value, and it is at most 127 deep
abbrev pub has_form : Data → Bool
has_form value = not (has_float value) && nat_le (depth value) most_deep

-- a payload in its deterministic form (RFC 8225, section 9), or a hyphen if it has none
abbrev pub payload_text : Data → List ℕ
payload_text payload = if has_form payload then Det payload else 45 ∷ []

-- of each PASSporT that was read there is one
abbrev pub said_text : Option Data → List ℕ
said_text None = []
said_text (Some payload) = payload_text payload

-- no LF is in it
abbrev pub IsOneLine : List ℕ → Type 0
IsOneLine text = lacks 10 text ≡ true

-- the number of a PASSporT's Identity field, counted from 1 in message order, a space, and the payload that was signed,
-- on a line of its own
abbrev pub claims_line : Reading → List ℕ
claims_line one = (decimal one.mark.field ++ 32 ∷ []) ++ (said_text (payload_of one) ++ 10 ∷ [])

-- those of PASSporTs
abbrev pub claims_lines : List Reading → List ℕ
claims_lines [] = []
claims_lines (one ∷ others) = claims_line one ++ claims_lines others
