-- How a short text is in memory.
use Rattle.std.specs.Prelude.{ℕ, ◌-◌, ◌++◌, List, length, replicate}

-- the bytes and zeros after them, so many in all
abbrev pub filled : ℕ → List ℕ → List ℕ
filled size text = text ++ replicate (size - length text) 0
