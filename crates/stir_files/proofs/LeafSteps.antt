-- The certificate of a holder is read, or refused.
use Rattle.std.proofs.Common.{◌≡◌, ℕ, List, true, false, is_some, Some, None, Ok, Err, ◌∙◌, ap}
use Rattle.x509_profile.specs.Cert.{Cert}
use Rattle.x509_profile.specs.Fault.{fault_at}
use Rattle.x509_profile.specs.Read.{read_certificate}
use Rattle.x509_profile.specs.View.{CertView}
use Rattle.stir_files.specs.Leaf.{LeafOf, leaf_refusal, refusal_in, unless_listed}
use Rattle.stir_files.specs.declared.fault.FileFault.TheVariants.{Refused, NoList}

pub broken_at : (content : List ℕ) (kind place : ℕ) → read_certificate content ≡ Err (fault_at kind place) → refusal_in content ≡ Some (Refused place)
broken_at content kind place h = ap (λ x. leaf_refusal x (λ fault. fault.place)) h

pub unlisted : (content : List ℕ) (certificate : CertView) → read_certificate content ≡ Ok certificate → is_some certificate.list ≡ false → refusal_in content ≡ Some NoList
unlisted content certificate h none = ap (λ x. leaf_refusal x (λ fault. fault.place)) h ∙ ap unless_listed none

pub is_fit : (content : List ℕ) (certificate : CertView) → LeafOf content certificate → refusal_in content ≡ None
is_fit content certificate l = ap (λ x. leaf_refusal x (λ fault. fault.place)) l.read ∙ ap unless_listed l.listed

pub is_leaf : (content : List ℕ) (certificate : CertView) → Cert content certificate → read_certificate content ≡ Ok certificate → is_some certificate.list ≡ true → LeafOf content certificate
is_leaf content certificate text read listed = record { text = text; read = read; listed = listed }
