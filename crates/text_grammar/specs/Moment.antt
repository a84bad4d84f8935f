-- Moments in the texts of this program.
use Rattle.std.specs.Prelude.{ℕ}

-- the last second of the year 9999, in Unix time (this project's own limit)
abbrev pub last_second : ℕ
last_second = 253402300799
