-- Why bytes are no certificate of the profile, by kind and place: the first of its parts, in the order in which they
-- come, that isn't as the profile has it (RFC 5280, section 4.1). The kinds are this project's own: 1 an element, 2 the
-- version, 3 an algorithm, 4 the key, 5 the validity, 6 to 8 an extension, 9 the signature.
use Rattle.std.specs.Prelude.{◌≡◌, ◌⊎◌, ℕ, ℤ, ◌<◌, ◌≤◌, List, length, Result, Ok, Err}
use Rattle.der_reader.specs.declared.part.Fault.{Fault}
use Rattle.der_reader.specs.Broken.{Behind, First, Followed, IsTagged, LeftOver, Through, Unless, Within}
use Rattle.der_reader.specs.Part.{ItemView, PartView, at_kind, whole_text}
use Rattle.der_reader.specs.Tags.{integer_tag, sequence_tag}
use Rattle.x509_profile.specs.declared.fault.CertFault.{CertFault}
use Rattle.x509_profile.specs.declared.fault.CertFault.TheVariants.{At, Memory}
use Rattle.x509_profile.specs.Cert.{SignedText}
use Rattle.x509_profile.specs.Parts.{KeyText, SignatureText, ValidityText}
use Rattle.x509_profile.specs.Text.{algorithm_text, version_text}
use Rattle.x509_profile.specs.View.{TbsView}
use Rattle.x509_profile.specs.WrongExtensions.{WrongExtensions}

-- ---- what a part has to be

-- this text
abbrev pub IsText : List ℕ → ItemView → Type 0
IsText text item = item.whole ≡ text

-- a validity
abbrev pub IsValidity : ItemView → Type 0
IsValidity item = (not_before : ℤ) × (not_after : ℤ) × ValidityText item.whole not_before not_after

-- a key
abbrev pub IsKey : ItemView → Type 0
IsKey item = (point : List ℕ) × KeyText item.whole point

-- a signature
abbrev pub IsSignature : List ℕ → Type 0
IsSignature text = (signature : List ℕ) × SignatureText text signature

-- the content of a signed part
abbrev pub IsSigned : List ℕ → Type 0
IsSigned content = (tbs : TbsView) × SignedText content tbs

-- ---- the first that isn't

-- In the signed part: version, serial number, algorithm, issuer, validity, subject and key, each with the kind of the
-- fault that another element in its place is; and the extensions.
abbrev pub WrongSigned : PartView → Fault → Type 0
WrongSigned =
    Followed (IsText version_text) 2
    (Followed (IsTagged integer_tag) 1
    (Followed (IsText algorithm_text) 3
    (Followed (IsTagged sequence_tag) 1
    (Followed IsValidity 5
    (Followed (IsTagged sequence_tag) 1
    (Followed IsKey 4 WrongExtensions))))))

-- The signature is the last part of the certificate.
abbrev pub WrongSignature : PartView → Fault → Type 0
WrongSignature = Followed (λ item. IsSignature item.whole) 9 LeftOver

-- In the certificate: the signed part, the algorithm, and the signature up to the end; and nothing may come after the
-- certificate.
abbrev pub WrongCertificate : ItemView → Fault → Type 0
WrongCertificate certificate =
    First (Unless (IsTagged sequence_tag) 1 (Within WrongSigned IsSigned
    (Behind (Followed (IsText algorithm_text) 3
    (Through WrongSignature IsSignature (LeftOver certificate.behind))))))
    certificate.content

-- The bytes are no certificate, and this is their first fault: they are more than 8,192, or something in them isn't as
-- it has to be.
abbrev pub Refused : List ℕ → Fault → Type 0
Refused bytes fault =
    ((8192 < length bytes) × (fault ≡ at_kind 1 8192))
    ⊎ ((length bytes ≤ 8192) × First (Unless (IsTagged sequence_tag) 1 WrongCertificate) (whole_text bytes) fault)

-- an answer other than Ok and `Memory` is the first fault of the bytes
abbrev pub IsRefused : {A : Type 0} → List ℕ → Result A CertFault → Type 0
IsRefused bytes (Ok certificate) = Unit {0}
IsRefused bytes (Err (At kind place)) = Refused bytes (at_kind kind place)
IsRefused bytes (Err Memory) = Unit {0}
