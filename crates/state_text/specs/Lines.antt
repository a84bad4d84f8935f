-- The lines of a text, each with the LF at its end; the last may lack it.
use Rattle.std.specs.Prelude.{ℕ, ◌==◌, List, [], ◌∷◌, if◌then◌else◌}

-- a byte before the first line
abbrev pub onto_line : ℕ → List (List ℕ) → List (List ℕ)
onto_line byte [] = (byte ∷ []) ∷ []
onto_line byte (line ∷ others) = (byte ∷ line) ∷ others

abbrev pub ended_lines : List ℕ → List (List ℕ)
ended_lines [] = []
ended_lines (byte ∷ more) = if byte == 10 then (10 ∷ []) ∷ ended_lines more else onto_line byte (ended_lines more)

-- lines that are still to be read, and the number of the first of them
pub record LinesView : Type 0 where
  pub number : ℕ
  pub lines : List (List ℕ)
