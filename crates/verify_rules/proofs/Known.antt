-- The type of a field that is judged is one of three.
use Rattle.std.proofs.Common.{◌≡◌, ℕ, true, List, Option, Some, None, refl, ap, codes, inl, inr}
use Rattle.std.proofs.lemmas.Slice.Eq.{bytes_eq-Decides}
use Rattle.passport_claims.specs.Kind.{IsKnown}
use Rattle.passport_claims.specs.Passport.{is_text}
use Rattle.verify_rules.specs.Call.{IdentityField, has_ppt, is_absent, lacks_ppt}

pub text_by : (text : List ℕ) (given : Option (List ℕ)) → is_text text given ≡ true → given ≡ Some text
text_by text None h = absurd cc
text_by text (Some value) h = ap (λ x. Some x) ((bytes_eq-Decides value text).0 h)

pub absent_by : (given : Option (List ℕ)) → is_absent given ≡ true → given ≡ None
absent_by None h = refl
absent_by (Some value) h = absurd cc

pub known_with : (field : IdentityField) → has_ppt (codes "shaken") field ≡ true → IsKnown field.parts.ppt
known_with field h = inr (inl (text_by (codes "shaken") field.parts.ppt h))

pub known_without : (field : IdentityField) → lacks_ppt field ≡ true → IsKnown field.parts.ppt
known_without field h = inl (absent_by field.parts.ppt h)

pub known_link : (field : IdentityField) → has_ppt (codes "div") field ≡ true → IsKnown field.parts.ppt
known_link field h = inr (inr (text_by (codes "div") field.parts.ppt h))
