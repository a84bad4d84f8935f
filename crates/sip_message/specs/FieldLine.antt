-- The line with which a header field begins (RFC 3261, section 7.3.1).
use Rattle.std.specs.Prelude.{◌≡◌, ℕ, true, List, ◌∷◌, ◌++◌, Option, Some, None, option_and_then, if◌then◌else◌}
use Rattle.std.specs.List.{list_all}
use Rattle.text_grammar.specs.Cut.{cut}
use Rattle.sip_message.specs.HeadAlphabet.{is_name}
use Rattle.text_grammar.specs.Bytes.{is_blank}
use Rattle.sip_message.specs.Value.{trimmed_end}

-- the line is a name, any blanks, a colon and the rest
pub record IsFieldLine (line name rest : List ℕ) : Type 0 where
  pub blanks : List ℕ
  pub name_ok : is_name name ≡ true
  pub blanks_ok : list_all is_blank blanks ≡ true
  pub text : line ≡ name ++ (blanks ++ 58 ∷ rest)

-- ---- the name and the rest of a line, cut at its first colon

abbrev pub named : List ℕ → List ℕ → Option (List ℕ × List ℕ)
named name rest = if is_name name then Some (name, rest) else None

abbrev pub name_before : List ℕ × List ℕ → Option (List ℕ × List ℕ)
name_before parts = named (trimmed_end parts.0) parts.1

abbrev pub field_line : List ℕ → Option (List ℕ × List ℕ)
field_line line = option_and_then name_before (cut 58 line)
