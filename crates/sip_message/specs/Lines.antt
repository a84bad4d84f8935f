-- Physical lines with their places, and which of them continue a field (RFC 3261, sections 7 and 7.3.1; that a bare LF
-- ends a line too is this project's own leniency).
use Rattle.std.specs.Prelude.{◌≡◌, ℕ, ◌+◌, ◌<◌, Bool, false, List, [], ◌∷◌, length, Option, Some, None, if◌then◌else◌}
use Rattle.std.specs.Str.Lines.{strip_carriage_return}
use Rattle.text_grammar.specs.Line.{pieces}
use Rattle.text_grammar.specs.Bytes.{is_blank}

-- a line without its LF and one CR directly before that, and the offset of its first byte
pub record LineView : Type 0 where
  pub place : ℕ
  pub text : List ℕ

-- the lines of these pieces, the first of which begins at the offset; each takes its bytes and its LF
abbrev pub lines_from : ℕ → List (List ℕ) → List LineView
lines_from place [] = []
lines_from place (piece ∷ others) =
    record { place = place; text = strip_carriage_return piece } ∷ lines_from (place + length piece + 1) others

-- the lines that the bytes hold whole; what comes after the last LF is none
abbrev pub lines_of : List ℕ → List LineView
lines_of bytes = lines_from 0 (pieces bytes)

-- a continuation begins with space or tab
abbrev pub is_continuation : List ℕ → Bool
is_continuation [] = false
is_continuation (first ∷ more) = is_blank first

-- the texts of the continuations at the beginning
abbrev pub continuations : List LineView → List (List ℕ)
continuations [] = []
continuations (line ∷ others) = if is_continuation line.text then line.text ∷ continuations others else []

-- what comes after them
abbrev pub behind_continuations : List LineView → List LineView
behind_continuations [] = []
behind_continuations (line ∷ others) = if is_continuation line.text then behind_continuations others else line ∷ others

-- what taking a line does to the lines that are left
abbrev pub NextLine : Option LineView → List LineView → List LineView → Type 0
NextLine None old new = (old ≡ []) × (new ≡ [])
NextLine (Some line) old new = old ≡ line ∷ new

-- what taking a continuation does to the lines that are left
abbrev pub NextContinuation : Option (List ℕ) → List LineView → List LineView → Type 0
NextContinuation None old new = (continuations old ≡ []) × (behind_continuations old ≡ new)
NextContinuation (Some text) old new = (continuations old ≡ text ∷ continuations new)
    × (behind_continuations old ≡ behind_continuations new) × (length new < length old)
