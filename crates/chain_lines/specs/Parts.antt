-- The parts of a certificate, as bytes, for who asks whether it is revoked.
use Rattle.std.specs.Prelude.{◌≡◌, ℕ, List, [], ◌∷◌, ◌++◌, Option, Some, None}
use Rattle.std.specs.Fmt.{signed_decimal}
use Rattle.std.specs.List.{flat_map}
use Rattle.std.specs.Option.{option_map}
use Rattle.tn_auth_list.specs.declared.entries.Entry.{Entry}
use Rattle.tn_auth_list.specs.declared.entries.Entry.TheVariants as entries
use Rattle.x509_profile.specs.View.{CertView}
use Rattle.chain_lines.specs.Revocation.{revocation_of}
use Rattle.chain_lines.specs.Serial.{IsSerial}
use Rattle.chain_lines.specs.declared.parts.Part.{Part}
use Rattle.chain_lines.specs.declared.parts.Part.TheVariants as parts

-- a service provider code on a line of its own (RFC 8226, section 9)
abbrev pub code_line : Entry → List ℕ
code_line (entries.Code code) = code ++ 10 ∷ []
code_line (entries.Range span) = []
code_line (entries.Single number) = []

-- the codes of an authority list
abbrev pub code_lines : List Entry → List ℕ
code_lines list = flat_map code_line list

-- there is one, and it is the serial number
abbrev pub IsSerialIn : CertView → Option (List ℕ) → Type 0
IsSerialIn certificate None = ⊥
IsSerialIn certificate (Some serial) = IsSerial certificate serial

-- These are the bytes of the part; or the certificate has no such part.
abbrev pub PartIs : CertView → Part → Option (List ℕ) → Type 0
PartIs certificate parts.Serial bytes = IsSerialIn certificate bytes
PartIs certificate parts.Subject bytes = bytes ≡ Some certificate.subject
PartIs certificate parts.Issuer bytes = bytes ≡ Some certificate.issuer
PartIs certificate parts.Codes bytes = bytes ≡ option_map code_lines certificate.list
PartIs certificate parts.Digest bytes = bytes ≡ Some certificate.digest
PartIs certificate parts.NotBefore bytes = bytes ≡ Some (signed_decimal certificate.not_before)
PartIs certificate parts.NotAfter bytes = bytes ≡ Some (signed_decimal certificate.not_after)
PartIs certificate parts.Revocation bytes = bytes ≡ revocation_of certificate.whole
