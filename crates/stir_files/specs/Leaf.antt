-- The file of the certificate of the holder of a key: one certificate with an authority list (RFC 8226, section 9; that
-- it has to have the list is this project's own rule).
use Rattle.std.specs.Prelude.{◌≡◌, ℕ, Bool, true, false, List, is_some, Option, Some, None, Result, Ok, Err}
use Rattle.x509_profile.specs.Cert.{Cert}
use Rattle.x509_profile.specs.Read.{read_certificate}
use Rattle.x509_profile.specs.View.{CertView}
use Rattle.stir_files.specs.Named.{NamedFile}
use Rattle.stir_files.specs.declared.fault.FileFault.{FileFault}
use Rattle.stir_files.specs.declared.fault.FileFault.TheVariants.{Refused, NoList}

abbrev pub unless_listed : Bool → Option FileFault
unless_listed true = None
unless_listed false = Some NoList

-- what was read is no certificate, and its first broken part is at a place; or it is one without an authority list
abbrev pub leaf_refusal : {E : Type 0} → Result CertView E → (E → ℕ) → Option FileFault
leaf_refusal (Ok certificate) place = unless_listed (is_some certificate.list)
leaf_refusal (Err fault) place = Some (Refused (place fault))

abbrev pub refusal_in : List ℕ → Option FileFault
refusal_in content = leaf_refusal (read_certificate content) (λ fault. fault.place)

abbrev pub leaf_file : List ℕ → NamedFile
leaf_file name = record { name = name; limit = 8192; refused = refusal_in }

-- the content is this certificate, and is read as it; it has an authority list
pub record LeafOf (content : List ℕ) (certificate : CertView) : Type 0 where
  pub text : Cert content certificate
  pub read : read_certificate content ≡ Ok certificate
  pub listed : is_some certificate.list ≡ true
