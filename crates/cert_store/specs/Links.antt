-- The certificates of a path, each with its number and its issuer (RFC 5280, section 6.1).
use Rattle.std.specs.Prelude.{ℕ, suc, nat_le, List, [], ◌∷◌, length, Option, Some, None, Result, Ok, Err, if◌then◌else◌}
use Rattle.x509_profile.specs.View.{CertView}
use Rattle.x509_profile.specs.Chain.{RefusedCertificate, certificates_in}
use Rattle.delegation.specs.declared.fault.PathFault.{PathFault}
use Rattle.delegation.specs.Path.{anchor_of, shape_of}

-- a certificate, its number in the chain, the leaf's being 1, and its issuer
pub record Link : Type 0 where
  pub number : ℕ
  pub certificate : CertView
  pub issuer : CertView

abbrev pub link : ℕ → CertView → CertView → Link
link number certificate issuer = record { number = number; certificate = certificate; issuer = issuer }

-- the first of the certificates, or `top` if there is none
abbrev pub first_or : List CertView → CertView → CertView
first_or [] top = top
first_or (above ∷ others) top = above

-- each certificate with the next one as its issuer, and the last one with `top`; the first has this number
abbrev pub links_from : ℕ → List CertView → CertView → List Link
links_from number [] top = []
links_from number (c ∷ above) top = link number c (first_or above top) ∷ links_from (suc number) above top

-- ---- of a chain's bytes

-- the certificates, or the number of the one that is refused
abbrev pub by_number : Result (List CertView) RefusedCertificate → Result (List CertView) ℕ
by_number (Ok chain) = Ok chain
by_number (Err refused) = Err refused.number

-- A chain file has at most 49,152 bytes, which is six certificates of 8,192 (this project's own rule). What is read are
-- the certificates that the bytes are; or 0 if there are more bytes, else the number of the first certificate that is
-- refused or is a seventh one.
unfoldable pub read_file : List ℕ → Result (List CertView) ℕ
read_file bytes = if nat_le (length bytes) 49152 then by_number (certificates_in bytes) else Err 0

-- what is read, and nothing if a certificate is refused
abbrev pub read_or_nothing : Result (List CertView) ℕ → List CertView
read_or_nothing (Ok chain) = chain
read_or_nothing (Err place) = []

-- the certificates that the bytes are, and none if they aren't a chain
abbrev pub chain_in : List ℕ → List CertView
chain_in bytes = read_or_nothing (read_file bytes)

abbrev pub path_up_to : List CertView → Result (Option ℕ) PathFault → List CertView
path_up_to chain (Ok anchor) = chain
path_up_to chain (Err fault) = []

-- the certificates of a chain that is a path up to an anchor, and none of another
abbrev pub path_of : List CertView → List CertView → List CertView
path_of anchors chain = path_up_to chain (shape_of chain anchors)

abbrev pub links_below : List CertView → Option CertView → List Link
links_below chain (Some top) = links_from 1 chain top
links_below chain None = []

abbrev pub links_up_to : List CertView → List CertView → Result (Option ℕ) PathFault → List Link
links_up_to chain anchors (Ok anchor) = links_below chain (anchor_of chain anchors anchor)
links_up_to chain anchors (Err fault) = []

-- the same with their issuers; above the last is the path's anchor, or that certificate itself if it is one
abbrev pub links_of : List CertView → List CertView → List Link
links_of anchors chain = links_up_to chain anchors (shape_of chain anchors)
