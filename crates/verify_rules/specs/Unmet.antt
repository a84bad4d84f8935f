-- Rule 19: what the certificates of a chain demand of the claims of a PASSporT (after RFC 8226, section 8; form,
-- meaning and number of the extension are this project's own).
use Rattle.std.specs.Prelude.{ℕ, ◌+◌, Bool, true, false, List, [], ◌∷◌, Option, Some, None, if◌then◌else◌}
use Rattle.claim_constraints.specs.Constraints.{ConstraintsView}
use Rattle.claim_constraints.specs.Meets.{meets}
use Rattle.serde_json.specs.Data.{Data}
use Rattle.x509_profile.specs.View.{CertView}

-- there is a payload that meets them
abbrev pub are_met : ConstraintsView → Option Data → Bool
are_met c None = false
are_met c (Some payload) = meets c payload

-- so it is if nothing is demanded
abbrev pub is_met : Option ConstraintsView → Option Data → Bool
is_met None payload = true
is_met (Some c) payload = are_met c payload

-- the number of the first of these certificates whose constraints the payload doesn't meet; they are numbered from this
-- on
abbrev pub first_unmet : Option Data → ℕ → List CertView → Option ℕ
first_unmet payload number [] = None
first_unmet payload number (certificate ∷ others) =
    if is_met certificate.constraints payload then first_unmet payload (number + 1) others else Some number
