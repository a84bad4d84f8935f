-- Laws of halving: each step leaves at most half of the entries.
use Rattle.std.proofs.Common.{◌≡◌, ℕ, suc, ◌+◌, ◌*◌, ◌^◌, ◌≤◌, arith, ap, ◌∙◌}
use Rattle.std.proofs.Math.Nat.{mul_assoc, mul-le-mul_left, pow-suc}
use Rattle.tn_values.specs.Steps.{Spent}

-- so many steps left so many of the entries
pub record Halved (before after entries left : ℕ) : Type 0 where
  pub steps : ℕ
  pub added : after ≡ before + steps
  pub product : 2 ^ steps * left ≤ entries
  pub few : 2 ^ steps ≤ 2 * entries + 1

pub halving_goes_on : (before after entries left less : ℕ) → Halved before after entries left → 1 ≤ left → 2 * less ≤ left
    → Halved before (after + 1) entries less
halving_goes_on before after entries left less h some half =
    let added = h.added in
    let product = h.product in
    let one = mul-le-mul_left (2 ^ h.steps) some in
    let part = mul-le-mul_left (2 ^ h.steps) half in
    let power = pow-suc 2 h.steps in
    let twice : 2 ^ suc h.steps * less ≡ 2 ^ h.steps * (2 * less) = ap (λ n. n * less) power ∙ mul_assoc (2 ^ h.steps) 2 less in
    record {
      steps = suc h.steps;
      added = omega (arith, added);
      product = omega (arith, twice, part, product);
      few = omega (arith, power, one, product);
    }

pub halving_spent : (before after entries left : ℕ) → Halved before after entries left → Spent before after entries
halving_spent before after entries left h = record { steps = h.steps; added = h.added; few = h.few }
