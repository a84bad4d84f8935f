-- Certificates of certification authorities (RFC 5280, section 4.2.1.9).
use Rattle.std.specs.Prelude.{◌≡◌, true, ℕ, List, ◌∷◌, ◌++◌}
use Rattle.x509_profile.specs.Extended.{BasicText, MarkedText}
use Rattle.x509_profile.specs.ExtensionId.{certificate_extension}
use Rattle.x509_profile.specs.View.{BasicView, ExtensionView, Values}

-- The text of the extensions has one that is basicConstraints, 2.5.29.19, and its cA is true.
pub record SaysAuthority (text : List ℕ) : Type 0 where
  pub values : Values
  pub marked : MarkedText text values
  pub before : List ExtensionView
  pub extension : ExtensionView
  pub behind : List ExtensionView
  pub stands : marked.each.extensions ≡ before ++ extension ∷ behind
  pub named : extension.oid ≡ certificate_extension 19
  pub basic : BasicView
  pub content : BasicText extension.value basic
  pub is_ca : basic.is_ca ≡ true
