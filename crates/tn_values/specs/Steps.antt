-- A bound on the steps of a search by halving.
use Rattle.std.specs.Prelude.{◌≡◌, ℕ, ◌+◌, ◌*◌, ◌^◌, ◌≤◌}

-- A count rose by a number of steps, and 2 to this number is at most one more than twice the entries: none if there is
-- no entry, and at most ten if there are a thousand.
pub record Spent (before after entries : ℕ) : Type 0 where
  pub steps : ℕ
  pub added : after ≡ before + steps
  pub few : 2 ^ steps ≤ 2 * entries + 1
