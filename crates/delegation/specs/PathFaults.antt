-- Why certificates are no path up to a trust anchor: what may be wrong at one of them, and which of all that is wrong
-- comes first (RFC 5280, section 6.1; the numbers of the kinds and their order are this project's own). Certificates
-- count from 1, the leaf first.
use Rattle.std.specs.Prelude.{◌≡◌, ◌≢◌, ◌⊎◌, ℕ, suc, ◌+◌, ◌<◌, ◌≤◌, ◌==◌, List, [], length, Some, if◌then◌else◌}
use Rattle.std.specs.List.{slice_get}
use Rattle.x509_profile.specs.View.{CertView}
use Rattle.delegation.specs.Usage.{CannotCertify, Lacks, digital_signature}

-- ---- what may be wrong

-- What may be wrong with a certificate that has so many between it and the leaf: its subject isn't the issuer of the
-- one below it, byte for byte (section 6.1.3 (a)(4)); it may not certify others (section 6.1.4 (k) and (n)); its path
-- length is below their number (section 4.2.1.9).
pub data BreaksLink (between : ℕ) (c below : CertView) (kind : ℕ) : Type 0 where
  other_name : c.subject ≢ below.issuer → kind ≡ 2 → BreaksLink between c below kind
  no_issuer : CannotCertify c → kind ≡ 3 → BreaksLink between c below kind
  too_short : (most : ℕ) → c.path_length ≡ Some most → most < between → kind ≡ 4 → BreaksLink between c below kind

-- An anchor may be the issuer of the last certificate, which has so many below it: its subject is that one's issuer,
-- its path length is at least their number, and the key identifiers are one, if both are given (section 4.2.1.1).
pub record Fits (below : ℕ) (last anchor : CertView) : Type 0 where
  pub names : anchor.subject ≡ last.issuer
  pub enough : (most : ℕ) → anchor.path_length ≡ Some most → below ≤ most
  pub keys : (own authority : List ℕ) → anchor.subject_key ≡ Some own
      → last.authority_key ≡ Some authority → own ≡ authority

-- no anchor is the last certificate, byte for byte, and none may be its issuer
abbrev pub IsUnanchored : ℕ → CertView → List CertView → Type 0
IsUnanchored below last anchors = (i : ℕ) (anchor : CertView) → slice_get anchors i ≡ Some anchor
    → (anchor.whole ≡ last.whole) ⊎ Fits below last anchor → ⊥

-- What is wrong at a certificate, by the kind's number. Places in the list count from 0, so certificate 2 + i is above
-- i + 1 others.
pub data Breaks (chain anchors : List CertView) (kind place : ℕ) : Type 0 where
  empty : chain ≡ [] → kind ≡ 1 → place ≡ 0 → Breaks chain anchors kind place
  leaf_use : (leaf : CertView) → slice_get chain 0 ≡ Some leaf → Lacks digital_signature leaf → kind ≡ 6 → place ≡ 1
      → Breaks chain anchors kind place
  link : (i : ℕ) (c below : CertView) → slice_get chain (suc i) ≡ Some c → slice_get chain i ≡ Some below
      → BreaksLink i c below kind → place ≡ 2 + i → Breaks chain anchors kind place
  no_anchor : (below : ℕ) (last : CertView) → length chain ≡ suc below → slice_get chain below ≡ Some last
      → IsUnanchored below last anchors → kind ≡ 5 → place ≡ suc below → Breaks chain anchors kind place

-- ---- the first

-- the rank of a kind in the order in which kinds are tried: 1, 6, and then 2, 3, 4, 5
abbrev pub rank : ℕ → ℕ
rank kind = if kind == 1 then 1 else (if kind == 6 then 2 else suc kind)

-- This is wrong at the least certificate at which anything is, and there of what is wrong it comes first in that order.
pub record IsFirstFault (chain anchors : List CertView) (kind place : ℕ) : Type 0 where
  pub breaks : Breaks chain anchors kind place
  pub least : (other_kind other_place : ℕ) → Breaks chain anchors other_kind other_place
      → (place < other_place) ⊎ ((place ≡ other_place) × (rank kind ≤ rank other_kind))
