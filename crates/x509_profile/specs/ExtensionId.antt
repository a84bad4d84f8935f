-- The extensions that the profile knows, by their OIDs.
use Rattle.std.specs.Prelude.{◌≡◌, ◌≢◌, ℕ, List, [], ◌∷◌, if◌then◌else◌}
use Rattle.std.specs.Str.{bytes_eq}
use Rattle.x509_profile.specs.declared.extension_id.ExtensionId.{ExtensionId}
use Rattle.x509_profile.specs.declared.extension_id.ExtensionId.TheVariants as code

-- the extensions that the profile knows, and all others
pub data ExtensionName : Type 0 where
  BasicConstraints : ExtensionName
  KeyUsage : ExtensionName
  SubjectKey : ExtensionName
  AuthorityKey : ExtensionName
  AuthorityList : ExtensionName
  ClaimConstraints : ExtensionName
  EnhancedConstraints : ExtensionName
  Unknown : ExtensionName

-- 2.5.29.n (RFC 5280, section 4.2.1)
abbrev pub certificate_extension : ℕ → List ℕ
certificate_extension n = 0x55 ∷ 0x1D ∷ n ∷ []

-- 1.3.6.1.5.5.7.1.n (RFC 5280, section 4.2.2)
abbrev pub private_extension : ℕ → List ℕ
private_extension n = 0x2B ∷ 0x06 ∷ 0x01 ∷ 0x05 ∷ 0x05 ∷ 0x07 ∷ 0x01 ∷ n ∷ []

-- the OID is that of an extension of this name (RFC 5280, sections 4.2.1.9, 4.2.1.3, 4.2.1.2 and 4.2.1.1; RFC 8226,
-- sections 9 and 8, and RFC 9118, section 4), or of none that has one
abbrev pub IsNamed : List ℕ → ExtensionName → Type 0
IsNamed oid BasicConstraints = oid ≡ certificate_extension 19
IsNamed oid KeyUsage = oid ≡ certificate_extension 15
IsNamed oid SubjectKey = oid ≡ certificate_extension 14
IsNamed oid AuthorityKey = oid ≡ certificate_extension 35
IsNamed oid AuthorityList = oid ≡ private_extension 26
IsNamed oid ClaimConstraints = oid ≡ private_extension 27
IsNamed oid EnhancedConstraints = oid ≡ private_extension 33
IsNamed oid Unknown = (oid ≢ certificate_extension 19) × (oid ≢ certificate_extension 15)
    × (oid ≢ certificate_extension 14) × (oid ≢ certificate_extension 35) × (oid ≢ private_extension 26)
    × (oid ≢ private_extension 27) × (oid ≢ private_extension 33)

-- the name of the extension that has this OID
unfoldable pub name_of : List ℕ → ExtensionName
name_of oid =
    if bytes_eq oid (certificate_extension 19) then BasicConstraints
    else (if bytes_eq oid (certificate_extension 15) then KeyUsage
    else (if bytes_eq oid (certificate_extension 14) then SubjectKey
    else (if bytes_eq oid (certificate_extension 35) then AuthorityKey
    else (if bytes_eq oid (private_extension 26) then AuthorityList
    else (if bytes_eq oid (private_extension 27) then ClaimConstraints
    else (if bytes_eq oid (private_extension 33) then EnhancedConstraints
    else Unknown))))))

-- what the code's own name of an extension is
abbrev pub named : ExtensionId → ExtensionName
named code.BasicConstraints = BasicConstraints
named code.KeyUsage = KeyUsage
named code.SubjectKey = SubjectKey
named code.AuthorityKey = AuthorityKey
named code.AuthorityList = AuthorityList
named code.ClaimConstraints = ClaimConstraints
named code.EnhancedConstraints = EnhancedConstraints
named code.Unknown = Unknown
