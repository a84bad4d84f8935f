-- Physical lines (RFC 3261, section 7). A line ends at LF; that a bare LF ends one is this project's own leniency.
use Rattle.std.specs.Prelude.{ℕ, ◌==◌, List, [], ◌∷◌, if◌then◌else◌}

-- a byte put before those of the first piece
abbrev pub onto_first : ℕ → List (List ℕ) → List (List ℕ)
onto_first byte [] = []
onto_first byte (piece ∷ others) = (byte ∷ piece) ∷ others

-- the pieces that end at an LF, each without it; what comes after the last LF is none of them
abbrev pub pieces : List ℕ → List (List ℕ)
pieces [] = []
pieces (byte ∷ more) = if byte == 10 then [] ∷ pieces more else onto_first byte (pieces more)
