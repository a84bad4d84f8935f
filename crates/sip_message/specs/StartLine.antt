-- The start line of a request (RFC 3261, section 7.1; that the version is compared without case is this project's own
-- leniency).
use Rattle.std.specs.Prelude.{◌≡◌, ℕ, Bool, true, ◌&&◌, List, ◌∷◌, ◌++◌, Option, Some, None, codes, option_and_then}
use Rattle.std.specs.Prelude.{if◌then◌else◌}
use Rattle.std.specs.Str.{str_eq_ignore_ascii_case}
use Rattle.text_grammar.specs.Cut.{cut}
use Rattle.sip_message.specs.HeadAlphabet.{is_name, is_target}

abbrev pub is_version : List ℕ → Bool
is_version text = str_eq_ignore_ascii_case text (codes "SIP/2.0")

-- the line is a method, a space, a URI, a space and the version
pub record IsStartLine (line method uri : List ℕ) : Type 0 where
  pub version : List ℕ
  pub method_ok : is_name method ≡ true
  pub uri_ok : is_target uri ≡ true
  pub version_ok : is_version version ≡ true
  pub text : line ≡ method ++ 32 ∷ (uri ++ 32 ∷ version)

-- ---- the method and the URI of a line, cut at its first two spaces

abbrev pub target_of : List ℕ → List ℕ × List ℕ → Option (List ℕ × List ℕ)
target_of method parts =
    if is_name method && is_target parts.0 && is_version parts.1 then Some (method, parts.0) else None

abbrev pub method_of : List ℕ × List ℕ → Option (List ℕ × List ℕ)
method_of parts = option_and_then (target_of parts.0) (cut 32 parts.1)

abbrev pub start_line : List ℕ → Option (List ℕ × List ℕ)
start_line line = option_and_then method_of (cut 32 line)
