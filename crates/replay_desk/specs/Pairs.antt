-- Wins and losses: pairs of a class and the call that has it (this project's own rule).
use Rattle.std.specs.Prelude.{ℕ, ◌==◌, Bool}

-- the pair is of this class
abbrev pub of_class : ℕ → ℕ × ℕ → Bool
of_class class p = p.0 == class
