-- Sizes of texts, as far as they matter for the limit of 65,535 bytes.
use Rattle.std.specs.Prelude.{ℕ, nat_le, if◌then◌else◌}

-- all sizes past the limit are one
abbrev pub capped : ℕ → ℕ
capped size = if nat_le size 65535 then size else 65536
