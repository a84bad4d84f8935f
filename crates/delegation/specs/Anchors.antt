-- Trust anchors, as a file of certificates one after another (RFC 5280, section 6.1.1 (d)).
use Rattle.std.specs.Prelude.{◌≡◌, ◌≢◌, ℕ, zero, suc, ◌-◌, ◌==◌, ◌<◌, ◌≤◌, List, [], ◌∷◌, ◌++◌, length, true, Option}
use Rattle.std.specs.Prelude.{Some, None, Result, Ok, Err, ⊤, if◌then◌else◌}
use Rattle.lists.specs.Given as given
use Rattle.lists.specs.Steps.{◌>>=◌}
use Rattle.der_reader.specs.declared.fault.DerFault.{DerFault}
use Rattle.der_reader.specs.Elem.{Element}
use Rattle.der_reader.specs.Next.{next_at}
use Rattle.x509_profile.specs.View.{CertView}
use Rattle.x509_profile.specs.Cert.{Cert}
use Rattle.x509_profile.specs.Read.{read_certificate}
use Rattle.delegation.specs.declared.fault.AnchorFault.{AnchorFault}
use Rattle.delegation.specs.declared.fault.AnchorFault.TheVariants.{At, Memory}
use Rattle.delegation.specs.Usage.{may_certify}

-- the bytes are certificates of the profile one after another, each of which may certify others
abbrev pub AreAnchors : List CertView → List ℕ → Type 0
AreAnchors [] bytes = bytes ≡ []
AreAnchors (c ∷ cs) bytes =
    (rest : List ℕ) × (bytes ≡ c.whole ++ rest) × Cert c.whole c × (may_certify c ≡ true) × AreAnchors cs rest

-- the bytes are these trust anchors, at most 256
pub record AnchorText (bytes : List ℕ) (anchors : List CertView) : Type 0 where
  pub most : length anchors ≤ 256
  pub each : AreAnchors anchors bytes

-- ---- what is no anchor

-- the bytes begin with no certificate of the profile that may certify others
abbrev pub BeginsWithNone : List ℕ → Type 0
BeginsWithNone bytes = (c : CertView) (behind : List ℕ) → bytes ≡ c.whole ++ behind → Cert c.whole c
    → may_certify c ≡ true → ⊥

-- after so many anchors bytes are left that are no anchor: one would be the 257th, or none begins there
pub data IsNoAnchor (count : ℕ) (rest : List ℕ) : Type 0 where
  surplus : count ≡ 256 → rest ≢ [] → IsNoAnchor count rest
  unfit : count < 256 → rest ≢ [] → BeginsWithNone rest → IsNoAnchor count rest

-- the bytes are these anchors, and after them, from this place on, what is no anchor
pub record EndsAt (bytes : List ℕ) (place : ℕ) : Type 0 where
  pub before : List CertView
  pub front : List ℕ
  pub rest : List ℕ
  pub text : bytes ≡ front ++ rest
  pub stands : place ≡ length front
  pub are : AreAnchors before front
  pub why : IsNoAnchor (length before) rest

-- ---- what reading them gives: the anchors, or the offset of the first that is none

-- a certificate that may certify others, and what comes after it
abbrev pub as_anchor : {E : Type 0} → ℕ → List ℕ → Result CertView E → Result (CertView × List ℕ) ℕ
as_anchor place behind (Ok c) = if may_certify c then Ok (c, behind) else Err place
as_anchor place behind (Err fault) = Err place

-- the element that is such a certificate
abbrev pub anchor_of : ℕ → Result (Element × List ℕ) DerFault → Result (CertView × List ℕ) ℕ
anchor_of place (Ok next) = as_anchor place next.1 (read_certificate next.0.whole)
anchor_of place (Err fault) = Err place

-- the anchor with which the bytes at this place begin, and the bytes after it
unfoldable pub anchor_at : ℕ → List ℕ → Result (CertView × List ℕ) ℕ
anchor_at place bytes = anchor_of place (next_at bytes)

-- the anchors that the rest of all bytes is, if they are at most so many
unfoldable pub anchors_at : List ℕ → ℕ → List ℕ → Result (List CertView) ℕ
anchors_at all zero rest = if length rest == 0 then Ok [] else Err (length all - length rest)
anchors_at all (suc room) rest =
    if length rest == 0 then Ok []
    else (anchor_at (length all - length rest) rest
    >>= λ next. anchors_at all room next.1 >>= λ more. Ok (next.0 ∷ more))

-- the anchors that the bytes are, at most 256
abbrev pub anchors_in : List ℕ → Result (List CertView) ℕ
anchors_in bytes = anchors_at bytes 256 bytes

-- a fault other than `Memory`
abbrev pub fault_seen : AnchorFault → Option ℕ
fault_seen (At place) = Some place
fault_seen Memory = None

-- The code gives what is read, or its place; `Memory` is free.
abbrev pub Gives : {X Y : Type 0} → (X → Y) → Result X AnchorFault → Result Y ℕ → Type 0
Gives seen result read = given.Gives fault_seen seen result read

-- a fault's place has this property; `Memory` is free
abbrev pub IfAt : {X : Type 0} → Result X AnchorFault → (ℕ → Type 0) → Type 0
IfAt (Ok x) P = ⊤
IfAt (Err (At place)) P = P place
IfAt (Err Memory) P = ⊤

-- a fault's place is no further than this
abbrev pub IsPlacedUpTo : {X : Type 0} → ℕ → Result X AnchorFault → Type 0
IsPlacedUpTo end (Ok x) = ⊤
IsPlacedUpTo end (Err (At place)) = place ≤ end
IsPlacedUpTo end (Err Memory) = ⊤
