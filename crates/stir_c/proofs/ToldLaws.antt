-- The kinds of what is told of an input.
use Rattle.std.proofs.Common.{◌≡◌, ℕ, ◌≤◌, Option, Some, None, refl, arith}
use Rattle.stir_c.specs.Told.{said_by_input}

pub faulty_kind : (input : Option ℕ) → (said_by_input input).kind ≤ 1 → ⊥
faulty_kind (Some number) low = omega arith
faulty_kind None low = omega arith

pub numbered : (input : Option ℕ) → (said_by_input input).kind ≡ 2 → input ≡ Some (said_by_input input).input
numbered (Some number) is = refl
numbered None is = absurd (omega arith)

pub input_kind : (input : Option ℕ) → (said_by_input input).kind ≤ 3
input_kind (Some number) = omega arith
input_kind None = omega arith
