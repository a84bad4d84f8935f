-- The laws of the crates below that the rules' own words rest on.
use Rattle.std.specs.Prelude.{◌≡◌, ◌↔◌, ◌-◌, ℕ, List, Option, Ok, Err, IsTrue}
use Rattle.der_reader.specs.Elem.{AllBytes}
use Rattle.tn_auth_list.specs.declared.entries.Entry.{Entry}
use Rattle.x509_profile.specs.Chain.{Chain, EndsAt, RefusedCertificate, Whole, certificates_in}
use Rattle.x509_profile.specs.View.{CertView}
use Rattle.delegation.specs.Coverage.{Table, Within}
use Rattle.delegation.specs.Decided.{is_within}
use Rattle.delegation.specs.Path.{Path, shape_of}
use Rattle.delegation.specs.PathFaults.{IsFirstFault}
use Rattle.delegation.specs.declared.fault.PathFault.{PathFault}

-- what is read of a chain, what a path is found to be, and lying within
pub record Below : Type 0 where
  pub chain_again : (bytes : List ℕ) (certificates : List CertView) → Chain bytes certificates
      → certificates_in bytes ≡ Ok certificates
  pub chain_found : (bytes : List ℕ) (certificates : List CertView) → AllBytes bytes
      → certificates_in bytes ≡ Ok certificates → Chain bytes certificates
  pub chain_ends : (bytes : List ℕ) (refused : RefusedCertificate) → AllBytes bytes
      → certificates_in bytes ≡ Err refused → EndsAt bytes refused
  pub chain_whole : (bytes : List ℕ) (refused : RefusedCertificate) → EndsAt bytes refused
      → Whole bytes (refused.number - 1)
  pub path_again : (chain anchors : List CertView) (anchor : Option ℕ) → Path chain anchors anchor
      → shape_of chain anchors ≡ Ok anchor
  pub path_found : (chain anchors : List CertView) (anchor : Option ℕ) → shape_of chain anchors ≡ Ok anchor
      → Path chain anchors anchor
  pub path_refused : (chain anchors : List CertView) (fault : PathFault) → shape_of chain anchors ≡ Err fault
      → IsFirstFault chain anchors fault.kind fault.place
  pub within : (child parent : Option (List Entry)) (table : Table)
      → IsTrue (is_within child parent table) ↔ Within child parent table
