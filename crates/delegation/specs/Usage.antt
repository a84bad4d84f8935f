-- What the key of a certificate may be used for (RFC 5280, sections 4.2.1.3 and 4.2.1.9).
use Rattle.std.specs.Prelude.{◌≡◌, ◌⊎◌, ℕ, ◌==◌, Bool, true, false, bit_and, Option, Some, None, if◌then◌else◌}
use Rattle.std.specs.Int.{bit_at}
use Rattle.x509_profile.specs.View.{CertView}

-- a usage is among the key usages, if there are any
abbrev pub allows : Option ℕ → ℕ → Bool
allows None usage = true
allows (Some usages) usage = bit_and usages usage == usage

-- the key has digitalSignature, bit 0, if it has key usages
abbrev pub may_sign : CertView → Bool
may_sign c = allows c.usage 0x0001

-- the key is a certificate authority's, and it has keyCertSign, bit 5, if it has key usages
abbrev pub may_certify : CertView → Bool
may_certify c = if c.is_ca then allows c.usage 0x0020 else false

-- ---- the same in the standard's own words: KeyUsage ::= BIT STRING { digitalSignature (0), .., keyCertSign (5), .. }

abbrev pub digital_signature : ℕ
digital_signature = 0

abbrev pub key_cert_sign : ℕ
key_cert_sign = 5

-- a certificate has key usages, and this bit isn't set in them
abbrev pub Lacks : ℕ → CertView → Type 0
Lacks bit c = (usages : ℕ) × (c.usage ≡ Some usages) × (bit_at usages bit ≡ 0)

-- a certificate is no authority's, or its key may not sign certificates
abbrev pub CannotCertify : CertView → Type 0
CannotCertify c = (c.is_ca ≡ false) ⊎ Lacks key_cert_sign c
