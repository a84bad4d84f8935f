-- One option, or another if there is none.
use Rattle.std.proofs.Common.{◌≡◌, Option, Some, None, refl, ap, ◌∙◌}
use Rattle.std.specs.Option.{option_or}

pub or_none : {X : Type 0} (found : Option X) → option_or found None ≡ found
or_none None = refl
or_none (Some x) = refl

-- the same first one, and the same later one if there is none
pub or_same : {X : Type 0} (mine yours later later_now : Option X) → mine ≡ yours → (yours ≡ None → later ≡ later_now) → option_or mine later ≡ option_or yours later_now
or_same mine None later later_now same more = ap (λ found. option_or found later) same ∙ more refl
or_same mine (Some x) later later_now same more = ap (λ found. option_or found later) same
