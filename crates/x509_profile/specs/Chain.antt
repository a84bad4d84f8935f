-- Certificates one after another, the leaf's first, as a chain file has them: this project's own format.
use Rattle.std.specs.Prelude.{⊤, ◌≡◌, ℕ, ◌+◌, ◌-◌, ◌==◌, zero, suc, ◌≤◌, ◌⊎◌, List, [], ◌∷◌, ◌++◌, length, Option, Some}
use Rattle.std.specs.Prelude.{None, Result, Ok, Err, if◌then◌else◌}
use Rattle.std.specs.List.{flat_map}
use Rattle.lists.specs.Given as given
use Rattle.lists.specs.Steps.{◌>>=◌}
use Rattle.der_reader.specs.Part.{item_at, whole_text}
use Rattle.der_reader.specs.declared.part.Fault.{Fault}
use Rattle.x509_profile.specs.Cert.{Cert}
use Rattle.x509_profile.specs.Read.{read_certificate}
use Rattle.x509_profile.specs.View.{CertView}
use Rattle.x509_profile.specs.declared.chain.CertChainFault.{CertChainFault}
use Rattle.x509_profile.specs.declared.chain.CertChainFault.TheVariants.{At, Memory}

-- each is the certificate that its own bytes are
abbrev pub AreCerts : List CertView → Type 0
AreCerts [] = Unit {0}
AreCerts (first ∷ others) = Cert first.whole first × AreCerts others

-- the bytes of all of them, without anything between
abbrev pub joined : List CertView → List ℕ
joined certificates = flat_map (λ certificate. certificate.whole) certificates

-- The bytes are these certificates one after another, of which there are at most six.
pub record Chain (bytes : List ℕ) (certificates : List CertView) : Type 0 where
  pub text : bytes ≡ joined certificates
  pub each : AreCerts certificates
  pub most : length certificates ≤ 6

-- these bytes begin with no certificate
abbrev pub HasNoFront : List ℕ → Type 0
HasNoFront bytes = (certificate : CertView) (rest : List ℕ) → Cert certificate.whole certificate
    → bytes ≡ certificate.whole ++ rest → ⊥

-- the bytes begin with these certificates, of which there are at most six
pub record BeginsWithCerts (bytes : List ℕ) (certificates : List CertView) : Type 0 where
  pub behind : List ℕ
  pub split : bytes ≡ joined certificates ++ behind
  pub each : AreCerts certificates
  pub most : length certificates ≤ 6

-- This is the greatest number, at most six, of certificates that the bytes begin with.
pub record Whole (bytes : List ℕ) (count : ℕ) : Type 0 where
  pub before : List CertView
  pub begins : BeginsWithCerts bytes before
  pub counted : count ≡ length before
  pub greatest : (others : List CertView) → BeginsWithCerts bytes others → length others ≤ count

-- ---- what reading them gives: the certificates, or the first that is refused

-- which certificate it is, the leaf's being 1, and the offset of its first byte
pub record RefusedCertificate : Type 0 where
  pub number : ℕ
  pub place : ℕ

abbrev pub refused_at : ℕ → ℕ → RefusedCertificate
refused_at number place = record { number = number; place = place }

-- The bytes are certificates as far as this place, and none begins there, or it is a seventh one's place.
pub record EndsAt (bytes : List ℕ) (refused : RefusedCertificate) : Type 0 where
  pub before : List CertView
  pub behind : List ℕ
  pub split : bytes ≡ joined before ++ behind
  pub each : AreCerts before
  pub number_is : refused.number ≡ suc (length before)
  pub place_is : refused.place ≡ length (joined before)
  pub some : 1 ≤ length behind
  pub bad : (length before ≡ 6) ⊎ HasNoFront behind
  pub most : length before ≤ 6

-- the certificate that the first element is, and what comes after it
unfoldable pub front : List ℕ → Result (CertView × List ℕ) Fault
front bytes = do
  item ← item_at (whole_text bytes)
  certificate ← read_certificate item.whole
  Ok (certificate, item.behind.left)

-- the certificates so far, if no byte is left; else the next one is refused, at the first that is left
abbrev pub ended : List ℕ → List CertView → List ℕ → Result (List CertView) RefusedCertificate
ended bytes before left = if length left == 0 then Ok before
    else Err (refused_at (length before + 1) (length bytes - length left))

-- the certificates so far, and those with which what is left of the bytes begins, at most so many more
abbrev pub certificates_from : List ℕ → ℕ → List CertView → List ℕ → Result (List CertView) RefusedCertificate
certificates_from bytes zero before left = ended bytes before left
certificates_from bytes (suc room) before left = elim (front left) [
  | Ok found ↦ certificates_from bytes room (before ++ found.0 ∷ []) found.1
  | Err fault ↦ ended bytes before left
]

-- All certificates, or the first that is refused or is a seventh one.
unfoldable pub certificates_in : List ℕ → Result (List CertView) RefusedCertificate
certificates_in bytes = certificates_from bytes 6 [] bytes

-- ---- how clauses see an answer

-- a fault other than `Memory`
abbrev pub refused_seen : CertChainFault → Option RefusedCertificate
refused_seen (At number place) = Some (refused_at number place)
refused_seen Memory = None

-- the certificates, or the first that is refused, unless memory runs out
abbrev pub GivesChain : {X : Type 0} → (X → List CertView) → Result X CertChainFault
    → Result (List CertView) RefusedCertificate → Type 0
GivesChain seen result read = given.Gives refused_seen seen result read

-- what is refused begins where the whole certificates end, and its number is one more than theirs
abbrev pub EndsWhereRefused : {X : Type 0} → List ℕ → Result X CertChainFault → Type 0
EndsWhereRefused bytes (Ok certificates) = ⊤
EndsWhereRefused bytes (Err (At number place)) =
    EndsAt bytes (refused_at number place) × Whole bytes (number - 1) × (number ≤ 7)
EndsWhereRefused bytes (Err Memory) = ⊤
