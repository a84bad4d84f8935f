-- What the type of an Identity field is (RFC 8224, section 4): the one of RFC 8588, of RFC 8946, another, or none.
use Rattle.std.specs.Prelude.{ℕ, Bool, false, not, ◌&&◌, List, codes, Option, Some, None, if◌then◌else◌}
use Rattle.std.specs.Str.{bytes_eq}
use Rattle.passport_claims.specs.Passport.{is_text}
use Rattle.verify_rules.specs.Call.{IdentityField, is_absent}
use Rattle.verify_rules.specs.declared.identity_field.Ppt.{Ppt}
use Rattle.verify_rules.specs.declared.identity_field.Ppt.TheVariants.{Absent, Shaken, Div, Other}

abbrev pub type_of_text : List ℕ → Ppt
type_of_text text = if bytes_eq text (codes "shaken") then Shaken
    else (if bytes_eq text (codes "div") then Div else Other)

-- what a type is
unfoldable pub ppt_of : Option (List ℕ) → Ppt
ppt_of None = Absent
ppt_of (Some text) = type_of_text text

abbrev pub is_other : Option (List ℕ) → Bool
is_other None = false
is_other (Some text) = not (bytes_eq text (codes "shaken")) && not (bytes_eq text (codes "div"))

-- a type is such a one
abbrev pub is_type : Ppt → Option (List ℕ) → Bool
is_type Absent given = is_absent given
is_type Shaken given = is_text (codes "shaken") given
is_type Div given = is_text (codes "div") given
is_type Other given = is_other given

-- the field's type is such a one
abbrev pub is_of : Ppt → IdentityField → Bool
is_of ppt field = is_type ppt field.parts.ppt
