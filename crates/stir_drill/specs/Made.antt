-- A certificate as it was made.
use Rattle.std.specs.Prelude.{◌≡◌}
use Rattle.stir_drill.specs.Certificates.{Recipe, certificate_text, digest}
use Rattle.stir_drill.specs.declared.certificates.Certificate.{Certificate}

-- its bytes are the certificate's, and its digest is that of what is signed
pub record IsMade (made : Certificate) (recipe : Recipe) : Type 0 where
  pub bytes : made.bytes.items ≡ certificate_text recipe
  pub digest_is : made.digest ≡ digest recipe
