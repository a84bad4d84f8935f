-- What a source has left and what a sink holds, if the object tells it: `Some` of the bytes, or `None` of an object
-- that tells nothing, as a file or a stream. The words `Appends`, `Consumes`, `Keeps` and `IsAtEnd` are those of std.
use Rattle.std.specs.Prelude.{◌≡◌, ◌⊎◌, ℕ, List, ◌++◌, Option}
use Rattle.std.specs.Io.KnownBytes.{Appends, Consumes, IsAtEnd}

-- the first bytes of what was left were taken, and come now after those that were held
pub record Takes (left left_now : Option (List ℕ)) (held held_now : List ℕ) : Type 0 where
  pub taken : List ℕ
  pub behind : held_now ≡ held ++ taken
  pub from_front : Consumes left left_now taken

-- a read gave as many bytes as there was room for, or nothing is left after it
abbrev pub Fills : Option (List ℕ) → ℕ → ℕ → Type 0
Fills left_now room count = (count ≡ room) ⊎ IsAtEnd left_now

-- a prefix of the text was written, all of it or less
pub record AppendsFront (written written_now : Option (List ℕ)) (text : List ℕ) : Type 0 where
  pub front : List ℕ
  pub rest : List ℕ
  pub split : text ≡ front ++ rest
  pub appended : Appends written written_now front
