-- The numbers that are drawn (this project's own rule): a linear congruential generator modulo 2^64, of whose state the
-- high bits are drawn.
use Rattle.std.specs.Prelude.{ℕ, zero, suc, ◌+◌, ◌-◌, ◌*◌, ◌/◌, ◌%◌, ◌^◌}

-- the state after the next draw
abbrev pub next : ℕ → ℕ
next x = (x * 6364136223846793005 + 1442695040888963407) % 2 ^ 64

-- what is drawn if this is the state after the draw
abbrev pub drawn : ℕ → ℕ
drawn x = x / 2 ^ 33

-- the state after so many draws; before the first it is the seed
unfoldable pub state : ℕ → ℕ → ℕ
state seed zero = seed
state seed (suc n) = next (state seed n)

-- the draw of this number, the first being 1
abbrev pub draw : ℕ → ℕ → ℕ
draw seed n = drawn (state seed n)

-- Each call makes two draws. By the first, modulo 8, it is changed; the second, modulo 10,000, is the end of its
-- number.
abbrev pub kind_of : ℕ → ℕ → ℕ
kind_of seed i = draw seed (2 * i - 1) % 8

abbrev pub line_of : ℕ → ℕ → ℕ
line_of seed i = draw seed (2 * i) % 10000
