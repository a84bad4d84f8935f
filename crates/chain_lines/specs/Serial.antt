-- The serial number of a certificate (RFC 5280, section 4.1.2.2).
use Rattle.std.specs.Prelude.{ℕ, List, Result, Ok}
use Rattle.lists.specs.Steps.{◌>>=◌}
use Rattle.der_reader.specs.Elem.{Elem}
use Rattle.der_reader.specs.Next.{next_at}
use Rattle.der_reader.specs.Tags.{integer_tag}
use Rattle.der_reader.specs.declared.fault.DerFault.{DerFault}
use Rattle.x509_profile.specs.Cert.{Cert}
use Rattle.x509_profile.specs.View.{CertView}

-- The certificate is the text of its parts, and this is the content of the INTEGER that is its serial number.
pub record IsSerial (certificate : CertView) (serial : List ℕ) : Type 0 where
  pub text : Cert certificate.whole certificate
  pub number : Elem text.parts.serial integer_tag serial

-- the content of the second element of the signed part, which is the first element of the certificate
unfoldable pub serial_in : List ℕ → Result (List ℕ) DerFault
serial_in whole = do
  certificate ← next_at whole
  signed ← next_at certificate.0.content
  version ← next_at signed.0.content
  serial ← next_at version.1
  Ok serial.0.content
