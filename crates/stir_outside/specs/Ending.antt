-- How a run ends: its last line and its status (this project's own rule).
use Rattle.std.specs.Prelude.{◌≡◌, ℕ, ◌⊎◌, List, codes, Option}
use Rattle.std.specs.Io.KnownBytes.{Appends}
use Rattle.stir_outside.specs.Count.{Rose}
use Rattle.stir_outside.specs.Told.{AppendsFront}

-- memory ran out
unfoldable pub memory_line : List ℕ
memory_line = codes "want of memory\n"

-- the line was written and its status answered; or the sink failed, a prefix of the line was written, and 4 was
-- answered
abbrev pub EndsAs : Option (List ℕ) → Option (List ℕ) → ℕ → ℕ → ℕ → List ℕ → ℕ → Type 0
EndsAs written written_now writes writes_now result line status =
    ((result ≡ status) × Appends written written_now line)
    ⊎ ((result ≡ 4) × Rose writes writes_now × AppendsFront written written_now line)
